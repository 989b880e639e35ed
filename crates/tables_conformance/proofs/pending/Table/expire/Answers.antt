use Rattle.pit_fib.specs.Cause.{Expires}
use Rattle.tables_conformance.proofs.PendingRoom.{below_after}
use Rattle.tables_conformance.proofs.pending.Table.expire.Goals as goal

pub invariant_of-self : goal.invariant_of-self
invariant_of-self c = below_after (Expires c.args.now) c.self.inside.pit.pending c.expire.new.self.pending (λ face adds. absurd adds) c.expire.ensures.pending c.self.invariant
