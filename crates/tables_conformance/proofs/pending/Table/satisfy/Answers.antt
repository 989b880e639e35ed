use Rattle.pit_fib.specs.Cause.{Satisfied}
use Rattle.tables_conformance.proofs.PendingRoom.{below_after}
use Rattle.tables_conformance.proofs.pending.Table.satisfy.Goals as goal

pub invariant_of-self : goal.invariant_of-self
invariant_of-self c = below_after (Satisfied _ _) c.self.inside.pit.pending c.satisfy.new.self.pending (λ face adds. absurd adds) c.satisfy.ensures.pending c.self.invariant
