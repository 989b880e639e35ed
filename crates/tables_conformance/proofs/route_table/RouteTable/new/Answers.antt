use Rattle.tables_conformance.proofs.RouteRoom.{none_ours}
use Rattle.tables_conformance.proofs.route_table.RouteTable.new.Goals as goal

pub invariant_of-result : goal.invariant_of-result
invariant_of-result c = none_ours c.new.result.table c.new.ensures.table
