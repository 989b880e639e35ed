use Rattle.std.proofs.Common.{refl, ap, subst}
use Rattle.pit_fib.specs.Records.{Pending}
use Rattle.pit_fib.specs.Cause.{Expires, Follows}
use Rattle.pit_fib.specs.Kept.{expired, living, pending_of}
use Rattle.pit_fib.specs.Pit.{PitState}
use Rattle.pit_fib.proofs.KeptTables.{Steps, holds_the_living, step_alive, step_all, step_follows, step_memory, step_within}
use Rattle.pit_fib.proofs.PendingTables.{dead_after_expiry}
use Rattle.pit_fib.proofs.Expiry.{idle_row, later_row}
use Rattle.pit_fib.proofs.Tokenless.{step_knows}
use Rattle.pit_fib.proofs.RecordTallies.{expired_fewer}
use Rattle.pit_fib.proofs.pit.Pit.expire.Goals as goal
use Rattle.pit_fib.proofs.pit.Pit.expire.Goals.{After-expire}

steps : (c : After-expire) → Steps (Expires c.args.now) c.self.inside.rows.table c.expire.new.self.table
steps c = step_all (λ f s. living (expired c.args.now s)) c.self.inside.rows.table c.expire.new.self.table c.expire.ensures.table

pub expire-requires-clause-idle : goal.expire-requires-clause-idle
expire-requires-clause-idle c = λ v lt. idle_row c.args.now v lt

pub expire-requires-clause-later : goal.expire-requires-clause-later
expire-requires-clause-later c = λ v w e. later_row c.args.now v w e

pub invariant_of-self : goal.invariant_of-self
invariant_of-self c = (
  step_within (Expires c.args.now) c.self.inside.rows.table c.expire.new.self.table (dead_after_expiry c.args.now) (λ f adds. adds) (steps c) c.self.invariant.0,
  step_memory (Expires c.args.now) c.self.inside.rows c.expire.new.self c.self.inside.spare c.self.inside.prepared (steps c) c.expire.ensures.prepared c.self.invariant.1,
  step_knows (Expires c.args.now) c.self.inside.rows.table c.expire.new.self.table c.self.inside.has_tokens tt (dead_after_expiry c.args.now) (steps c) c.self.invariant.2,
)

pub returns-clause-pending : goal.returns-clause-pending
returns-clause-pending c =
    subst (λ (old : Pending). Follows (Expires c.args.now) old (pending_of c.expire.new.self.table)) (ap (λ (s : PitState). s.pending) c.self.view_is)
    (step_follows (Expires c.args.now) c.self.inside.rows.table c.expire.new.self.table (dead_after_expiry c.args.now) (steps c))

pub returns-clause-living : goal.returns-clause-living
returns-clause-living c =
    holds_the_living c.expire.new.self.table _ (step_alive (Expires c.args.now) c.self.inside.rows.table c.expire.new.self.table (steps c)) refl

pub expire-requires-clause-fewer : goal.expire-requires-clause-fewer
expire-requires-clause-fewer c = expired_fewer c.args.now
