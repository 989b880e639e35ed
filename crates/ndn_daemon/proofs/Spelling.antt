-- A text spells no value if a part of it spells no value.
use Rattle.node_core.specs.declared.script.RunFault.TheVariants as run
use Rattle.ndn_daemon.specs.declared.fault.Fault.{Fault}
use Rattle.ndn_daemon.specs.declared.fault.Fault.TheVariants as fault
use Rattle.ndn_daemon.specs.Options.{IsWrong, IsRefused}
use Rattle.ndn_daemon.specs.UdpOptions.{IsBadValue}

-- Assume that some value satisfies `Part` whenever some value satisfies `Whole`. If no value
-- satisfies `Part`, then no value satisfies `Whole`, so a fault that is correct for `Part` is
-- correct for `Whole`.

module _ {A B : Type 0} (Part : A → Type 0) (Whole : B → Type 0) (part : (y : B) → Whole y → (x : A) × Part x) where
  none_whole : ((x : A) → Part x → ⊥) → (y : B) → Whole y → ⊥
  none_whole none y h = let p = part y h in none p.0 p.1

  pub wrong_part : (why : Fault) → IsWrong Part why → IsWrong Whole why
  wrong_part (fault.CommandLine error) h = h
  wrong_part (fault.BadValue place wanted) h = none_whole h
  wrong_part fault.NotText h = h
  wrong_part (fault.Unread file path kind) h = h
  wrong_part (fault.Config why) h = h
  wrong_part (fault.Rules why) h = h
  wrong_part (fault.Keys why) h = h
  wrong_part fault.LargeKeys h = h
  wrong_part (fault.Script why) h = h
  wrong_part (fault.Unbound endpoint) h = h
  wrong_part (fault.UnboundTcp endpoint) h = h
  wrong_part (fault.UnboundUnix path) h = h
  wrong_part (fault.UnboundWebSocket endpoint) h = h
  wrong_part fault.Unreceived h = h
  wrong_part (fault.Journal why) h = h

  pub refused_part : (why : Fault) → IsRefused Part why → IsRefused Whole why
  refused_part (fault.CommandLine error) h = h
  refused_part (fault.BadValue place wanted) h = none_whole h
  refused_part fault.NotText h = h
  refused_part (fault.Unread file path kind) h = h
  refused_part (fault.Config why) h = h
  refused_part (fault.Rules why) h = h
  refused_part (fault.Keys why) h = h
  refused_part fault.LargeKeys h = h
  refused_part (fault.Script (run.BadLine line)) h = h
  refused_part (fault.Script run.Read) h = h
  refused_part (fault.Script run.Write) h = h
  refused_part (fault.Script (run.Node why)) h = h
  refused_part (fault.Script run.Memory) h = h
  refused_part (fault.Unbound endpoint) h = h
  refused_part (fault.UnboundTcp endpoint) h = h
  refused_part (fault.UnboundUnix path) h = h
  refused_part (fault.UnboundWebSocket endpoint) h = h
  refused_part fault.Unreceived h = h
  refused_part (fault.Journal why) h = h

  pub wrong_in_memory : (why : Fault) → IsWrong Part why → IsRefused Whole why
  wrong_in_memory (fault.CommandLine error) h = h
  wrong_in_memory (fault.BadValue place wanted) h = none_whole h
  wrong_in_memory fault.NotText h = h
  wrong_in_memory (fault.Unread file path kind) h = h
  wrong_in_memory (fault.Config why) h = h
  wrong_in_memory (fault.Rules why) h = h
  wrong_in_memory (fault.Keys why) h = h
  wrong_in_memory fault.LargeKeys h = h
  wrong_in_memory (fault.Script (run.BadLine line)) h = h
  wrong_in_memory (fault.Script run.Read) h = h
  wrong_in_memory (fault.Script run.Write) h = h
  wrong_in_memory (fault.Script (run.Node why)) h = h
  wrong_in_memory (fault.Script run.Memory) h = absurd h
  wrong_in_memory (fault.Unbound endpoint) h = h
  wrong_in_memory (fault.UnboundTcp endpoint) h = h
  wrong_in_memory (fault.UnboundUnix path) h = h
  wrong_in_memory (fault.UnboundWebSocket endpoint) h = h
  wrong_in_memory fault.Unreceived h = h
  wrong_in_memory (fault.Journal why) h = h

-- if a text spells no value, then every fault `BadValue` is correct for this text

pub bad_value_wrong : {A : Type 0} (Spell : A → Type 0) → ((x : A) → Spell x → ⊥) → (why : Fault) → IsBadValue why → IsWrong Spell why
bad_value_wrong Spell none (fault.CommandLine error) h = h
bad_value_wrong Spell none (fault.BadValue place wanted) h = none
bad_value_wrong Spell none fault.NotText h = h
bad_value_wrong Spell none (fault.Unread file path kind) h = h
bad_value_wrong Spell none (fault.Config why) h = h
bad_value_wrong Spell none (fault.Rules why) h = h
bad_value_wrong Spell none (fault.Keys why) h = h
bad_value_wrong Spell none fault.LargeKeys h = h
bad_value_wrong Spell none (fault.Script why) h = h
bad_value_wrong Spell none (fault.Unbound endpoint) h = h
bad_value_wrong Spell none (fault.UnboundTcp endpoint) h = h
bad_value_wrong Spell none (fault.UnboundUnix path) h = h
bad_value_wrong Spell none (fault.UnboundWebSocket endpoint) h = h
bad_value_wrong Spell none fault.Unreceived h = h
bad_value_wrong Spell none (fault.Journal why) h = h
