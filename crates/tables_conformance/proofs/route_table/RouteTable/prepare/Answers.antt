use Rattle.std.proofs.Common.{sym, subst}
use Rattle.tables_conformance.proofs.RouteRoom.{AreOurs}
use Rattle.tables_conformance.proofs.route_table.RouteTable.prepare.Goals as goal

pub invariant_of-self : goal.invariant_of-self
invariant_of-self c = subst AreOurs (sym c.prepare.ensures.table) c.self.invariant
