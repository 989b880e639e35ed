use Rattle.ndn_names.specs.View.{components}
use Rattle.pit_fib.specs.Fib.{with_route}
use Rattle.pit_fib.specs.declared.route.Route.{Route}
use Rattle.pit_fib.specs.declared.route.RouteKey.{RouteKey}
use Rattle.tables_conformance.proofs.RouteRoom.{either_ours, room_ours, route_ours}
use Rattle.tables_conformance.proofs.route_table.RouteTable.register.Goals as goal

pub register-requires : goal.register-requires
register-requires c = room_ours c.self.inside.fib.table c.face_in.result c.self.invariant c.face_in.ensures

pub invariant_of-self : goal.invariant_of-self
invariant_of-self c =
    let old = c.self.inside.fib.table in
    let key : RouteKey = record { face = c.face_in.result; origin = c.args.route.origin } in
    let route : Route = record { cost = c.args.route.cost; flags = c.args.route.flags; deadline = c.args.route.deadline } in
    either_ours c.register.result old c.register.new.self.table (with_route old (components c.args.name) key route) c.register.ensures.ok c.register.ensures.err
    c.self.invariant (route_ours old (components c.args.name) key route c.self.invariant c.face_in.ensures)
