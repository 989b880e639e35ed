use Rattle.std.proofs.Common.{cond, refl, sym, ap, subst, ◌∙◌}
use Rattle.std.specs.FinMap as map
use Rattle.ndn_packets.specs.Key.{plain_key}
use Rattle.pit_fib.specs.Records.{Pending, no_records}
use Rattle.pit_fib.specs.Cause.{Removed, Follows}
use Rattle.std.specs.Option.{option_and_then}
use Rattle.name_trie.specs.ByName.{with_value}
use Rattle.pit_fib.specs.Kept.{Kept, changed_row, only, living, pending_of}
use Rattle.pit_fib.specs.Pit.{PitState}
use Rattle.pit_fib.proofs.KeptTables.{Steps, holds_the_living, one_steps, step_alive, step_follows, step_memory, step_one, step_within}
use Rattle.pit_fib.proofs.PendingTables.{dead_after_removal}
use Rattle.std.specs.Prelude.{Option, None, Some}
use Rattle.pit_fib.proofs.PendingTables.{dead_none}
use Rattle.pit_fib.proofs.Tokenless.{step_knows}
use Rattle.pit_fib.proofs.RecordTallies.{removed_fewer}
use Rattle.pit_fib.proofs.pit.Pit.remove.Goals as goal
use Rattle.pit_fib.proofs.pit.Pit.remove.Goals.{After-change}

steps : (c : After-change) → Steps (Removed (plain_key c.args.key)) c.self.inside.rows.table c.change.new.self.table
steps c =
    let key = plain_key c.args.key in
    let rows = c.self.inside.rows.table in
    let change : Kept → Option Kept = λ s. None in
    one_steps (Removed key) change key rows c.change.new.self.table c.self.invariant.0.alive
    (λ k r t. ap (λ b. cond b no_records r) t)
    (λ k s t. sym (ap (λ b. living (record { records = cond b no_records s.records; is_wide = s.is_wide })) t ∙ ap (λ b. cond b (Some (record { records = no_records; is_wide = s.is_wide })) None) dead_none))
    (step_one change key rows c.change.new.self.table (c.change.ensures.table ∙ ap (λ f. with_value rows key.name (option_and_then (changed_row (only f change)) (map.get rows key.name))) c.of-flags.ensures))

pub invariant_of-self : goal.invariant_of-self
invariant_of-self c = (
  step_within (Removed (plain_key c.args.key)) c.self.inside.rows.table c.change.new.self.table (dead_after_removal (plain_key c.args.key)) (λ f adds. adds) (steps c) c.self.invariant.0,
  step_memory (Removed (plain_key c.args.key)) c.self.inside.rows c.change.new.self c.self.inside.spare c.self.inside.prepared (steps c) c.change.ensures.prepared c.self.invariant.1,
  step_knows (Removed (plain_key c.args.key)) c.self.inside.rows.table c.change.new.self.table c.self.inside.has_tokens tt (dead_after_removal (plain_key c.args.key)) (steps c) c.self.invariant.2,
)

pub returns-clause-pending : goal.returns-clause-pending
returns-clause-pending c =
    subst (λ (old : Pending). Follows (Removed (plain_key c.args.key)) old (pending_of c.change.new.self.table)) (ap (λ (s : PitState). s.pending) c.self.view_is)
    (step_follows (Removed (plain_key c.args.key)) c.self.inside.rows.table c.change.new.self.table (dead_after_removal (plain_key c.args.key)) (steps c))

pub returns-clause-living : goal.returns-clause-living
returns-clause-living c =
    holds_the_living c.change.new.self.table _ (step_alive (Removed (plain_key c.args.key)) c.self.inside.rows.table c.change.new.self.table (steps c)) refl

pub change-requires : goal.change-requires
change-requires c = removed_fewer _
