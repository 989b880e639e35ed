use Rattle.pit_fib.specs.Cause.{Closed}
use Rattle.tables_conformance.proofs.PendingRoom.{below_after}
use Rattle.tables_conformance.proofs.pending.Table.close_face.Goals as goal

pub invariant_of-self : goal.invariant_of-self
invariant_of-self c = below_after (Closed c.args.face) c.self.inside.pit.pending c.close_face.new.self.pending (λ face adds. absurd adds) c.close_face.ensures.pending c.self.invariant
