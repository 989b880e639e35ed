use Rattle.std.proofs.Common.{sym, subst}
use Rattle.tables_conformance.proofs.RouteRoom.{AreOurs, left_ours}
use Rattle.tables_conformance.proofs.route_table.RouteTable.expire.Goals as goal

pub invariant_of-self : goal.invariant_of-self
invariant_of-self c = subst AreOurs (sym c.expire.ensures.table) (left_ours c.args.now c.self.inside.fib.table c.self.invariant)
