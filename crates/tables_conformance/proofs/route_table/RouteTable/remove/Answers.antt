use Rattle.std.proofs.Common.{sym, subst}
use Rattle.ndn_names.specs.View.{components}
use Rattle.tables_conformance.proofs.RouteRoom.{AreOurs, hopless_ours}
use Rattle.tables_conformance.proofs.route_table.RouteTable.remove.Goals as goal

pub invariant_of-self : goal.invariant_of-self
invariant_of-self c =
    subst AreOurs (sym c.remove.ensures.table) (hopless_ours c.self.inside.fib.table (components c.args.name) c.args.face c.self.invariant)
