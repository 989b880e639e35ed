use Rattle.tables_conformance.proofs.PendingRoom.{none_below}
use Rattle.tables_conformance.proofs.pending.Table.new.Goals as goal

pub invariant_of-result : goal.invariant_of-result
invariant_of-result c = none_below c.new.result.pending c.new.ensures.pending
