use Rattle.std.proofs.Common.{refl, ap, subst}
use Rattle.pit_fib.specs.Records.{Pending}
use Rattle.pit_fib.specs.Cause.{Closed, Follows}
use Rattle.pit_fib.specs.Kept.{living, pending_of, without_face}
use Rattle.pit_fib.specs.Pit.{PitState}
use Rattle.pit_fib.proofs.KeptTables.{Steps, holds_the_living, step_alive, step_all, step_follows, step_memory, step_within}
use Rattle.pit_fib.proofs.PendingTables.{dead_after_closing}
use Rattle.pit_fib.proofs.Tokenless.{step_knows}
use Rattle.pit_fib.proofs.RecordTallies.{closed_fewer}
use Rattle.pit_fib.proofs.pit.Pit.close_face.Goals as goal
use Rattle.pit_fib.proofs.pit.Pit.close_face.Goals.{After-change_all}

steps : (c : After-change_all) → Steps (Closed c.args.face) c.self.inside.rows.table c.change_all.new.self.table
steps c = step_all (λ f s. living (without_face c.args.face s)) c.self.inside.rows.table c.change_all.new.self.table c.change_all.ensures.table

pub invariant_of-self : goal.invariant_of-self
invariant_of-self c = (
  step_within (Closed c.args.face) c.self.inside.rows.table c.change_all.new.self.table (dead_after_closing c.args.face) (λ f adds. adds) (steps c) c.self.invariant.0,
  step_memory (Closed c.args.face) c.self.inside.rows c.change_all.new.self c.self.inside.spare c.self.inside.prepared (steps c) c.change_all.ensures.prepared c.self.invariant.1,
  step_knows (Closed c.args.face) c.self.inside.rows.table c.change_all.new.self.table c.self.inside.has_tokens tt (dead_after_closing c.args.face) (steps c) c.self.invariant.2,
)

pub returns-clause-pending : goal.returns-clause-pending
returns-clause-pending c =
    subst (λ (old : Pending). Follows (Closed c.args.face) old (pending_of c.change_all.new.self.table)) (ap (λ (s : PitState). s.pending) c.self.view_is)
    (step_follows (Closed c.args.face) c.self.inside.rows.table c.change_all.new.self.table (dead_after_closing c.args.face) (steps c))

pub returns-clause-living : goal.returns-clause-living
returns-clause-living c =
    holds_the_living c.change_all.new.self.table _ (step_alive (Closed c.args.face) c.self.inside.rows.table c.change_all.new.self.table (steps c)) refl

pub change_all-requires : goal.change_all-requires
change_all-requires c = closed_fewer c.args.face
