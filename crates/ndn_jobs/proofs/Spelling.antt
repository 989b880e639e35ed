-- A command line spells no value if one of its parts spells no value.
use Rattle.std.proofs.Common.{◌≡◌, ℕ, List, Option, None, Some, Result, Ok, Err, sym, subst, ◌∙◌}
use Rattle.ndn_jobs.specs.declared.fault.Usage.TheVariants.{CommandLine, BadValue}
use Rattle.ndn_jobs.specs.declared.fault.ToolFault.{ToolFault}
use Rattle.ndn_jobs.specs.declared.fault.ToolFault.TheVariants as fault
use Rattle.ndn_jobs.specs.Value.{IsUsage, IsWrong, IsRefused, ReadsInMemory}
use Rattle.ndn_jobs.specs.Options.{Has, MayHave}

-- In this module, some value satisfies `Part` if some value satisfies `Whole`. So if no value
-- satisfies `Part`, no value satisfies `Whole`. So `IsWrong` and `IsRefused` allow for `Whole` each
-- fault that they allow for `Part`.

module _ {A B : Type 0} (Part : A → Type 0) (Whole : B → Type 0) (part : (y : B) → Whole y → (x : A) × Part x) where
  none_whole : ((x : A) → Part x → ⊥) → (y : B) → Whole y → ⊥
  none_whole none y h = let p = part y h in none p.0 p.1

  pub wrong_part : (why : ToolFault) → IsWrong Part why → IsWrong Whole why
  wrong_part (fault.Usage (CommandLine error)) h = h
  wrong_part (fault.Usage (BadValue place wanted)) h = none_whole h
  wrong_part fault.NoKey h = h
  wrong_part (fault.Write why) h = h
  wrong_part (fault.Packet why) h = h
  wrong_part fault.Memory h = h

  pub refused_part : (why : ToolFault) → IsRefused Part why → IsRefused Whole why
  refused_part (fault.Usage (CommandLine error)) h = h
  refused_part (fault.Usage (BadValue place wanted)) h = none_whole h
  refused_part fault.NoKey h = h
  refused_part (fault.Write why) h = h
  refused_part (fault.Packet why) h = h
  refused_part fault.Memory h = h

  pub wrong_in_memory : (why : ToolFault) → IsWrong Part why → IsRefused Whole why
  wrong_in_memory (fault.Usage (CommandLine error)) h = h
  wrong_in_memory (fault.Usage (BadValue place wanted)) h = none_whole h
  wrong_in_memory fault.NoKey h = h
  wrong_in_memory (fault.Write why) h = h
  wrong_in_memory (fault.Packet why) h = h
  wrong_in_memory fault.Memory h = absurd h

-- If no value satisfies `Spell`, then the fault `BadValue` satisfies `IsWrong Spell` and
-- `IsRefused Spell`.

module _ {A : Type 0} (Spell : A → Type 0) (none : (x : A) → Spell x → ⊥) where
  pub usage_wrong : (why : ToolFault) → IsUsage why → IsWrong Spell why
  usage_wrong (fault.Usage (CommandLine error)) h = h
  usage_wrong (fault.Usage (BadValue place wanted)) h = none
  usage_wrong fault.NoKey h = h
  usage_wrong (fault.Write why) h = h
  usage_wrong (fault.Packet why) h = h
  usage_wrong fault.Memory h = h

  pub usage_refused : (why : ToolFault) → IsUsage why → IsRefused Spell why
  usage_refused (fault.Usage (CommandLine error)) h = h
  usage_refused (fault.Usage (BadValue place wanted)) h = none
  usage_refused fault.NoKey h = h
  usage_refused (fault.Write why) h = h
  usage_refused (fault.Packet why) h = h
  usage_refused fault.Memory h = absurd h

-- an option that is not given spells no value
pub lacks : {A : Type 0} (Spells : List ℕ → A → Type 0) (said : Option (List ℕ)) → said ≡ None → (x : A) → Has said Spells x → ⊥
lacks Spells said e x h = let both : None ≡ Some h.0 = sym e ∙ h.1 in absurd cc

-- If an option is given with the text `value`, then the option spells exactly what `value` spells.

module _ {A : Type 0} (Spells : List ℕ → A → Type 0) (said : Option (List ℕ)) (value : List ℕ) (there : Some value ≡ said) where
  same : (w : List ℕ) → said ≡ Some w → w ≡ value
  same w e = let both : Some value ≡ Some w = there ∙ e in cc

  pub has_value : (x : A) → Has said Spells x → (y : A) × Spells value y
  has_value x h = (x, subst (λ (w : List ℕ). Spells w x) (same h.0 h.1) h.2)

  pub may_have_value : (x : Option A) → MayHave said Spells x → (y : A) × Spells value y
  may_have_value None h = let no : Some value ≡ None = there ∙ h in absurd cc
  may_have_value (Some x) h = has_value x h

  pub has_read : (r : Result A ToolFault) → ReadsInMemory (Spells value) r → ReadsInMemory (Has said Spells) r
  has_read (Ok x) h = (value, sym there, h)
  has_read (Err why) h = refused_part (Spells value) (Has said Spells) has_value why h
