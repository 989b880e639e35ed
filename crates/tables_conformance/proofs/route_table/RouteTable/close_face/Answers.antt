use Rattle.std.proofs.Common.{sym, subst}
use Rattle.tables_conformance.proofs.RouteRoom.{AreOurs, closed_ours}
use Rattle.tables_conformance.proofs.route_table.RouteTable.close_face.Goals as goal

pub invariant_of-self : goal.invariant_of-self
invariant_of-self c = subst AreOurs (sym c.close_face.ensures.table) (closed_ours c.args.face c.self.inside.fib.table c.self.invariant)
