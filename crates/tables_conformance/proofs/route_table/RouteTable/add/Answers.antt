use Rattle.ndn_names.specs.View.{components}
use Rattle.pit_fib.specs.Fib.{with_next_hop}
use Rattle.tables_conformance.proofs.RouteRoom.{either_ours, hop_ours, room_ours}
use Rattle.tables_conformance.proofs.route_table.RouteTable.add.Goals as goal

pub add-requires : goal.add-requires
add-requires c = room_ours c.self.inside.fib.table c.face_in.result c.self.invariant c.face_in.ensures

pub invariant_of-self : goal.invariant_of-self
invariant_of-self c =
    let old = c.self.inside.fib.table in
    either_ours c.add.result old c.add.new.self.table (with_next_hop old (components c.args.name) c.face_in.result c.args.cost) c.add.ensures.ok c.add.ensures.err
    c.self.invariant (hop_ours old (components c.args.name) c.face_in.result c.args.cost c.self.invariant c.face_in.ensures)
