use Rattle.std.proofs.Common.{sym, subst}
use Rattle.ndn_names.specs.View.{components}
use Rattle.tables_conformance.proofs.RouteRoom.{AreOurs, routeless_ours}
use Rattle.tables_conformance.proofs.route_table.RouteTable.unregister.Goals as goal

pub invariant_of-self : goal.invariant_of-self
invariant_of-self c =
    subst AreOurs (sym c.unregister.ensures.table)
    (routeless_ours c.self.inside.fib.table (components c.args.name) (record { face = c.args.face; origin = c.args.origin }) c.self.invariant)
