use Rattle.std.proofs.Common.{◌≡◌, ◌∷◌, length, rules}
use Rattle.node_ports.specs.declared.ports.TheConstants.{FRAME_ROOM}
use Rattle.node_ports.proofs.serving.serve_turn_soon.Goals as goal

pub returns-clause-turn : goal.returns-clause-turn
returns-clause-turn g c =
    let long : length c.next_soon.new.buffer ≡ FRAME_ROOM = search rules in
    let came = rw long at c.in_ok-arrival.ensures.came in
    let t = c.handle.ensures in
    let same : g.P.Ports.has_journal c.next_soon.new.self ≡ g.P.Ports.has_journal c.args.ports.now = g.met.P.Ports.stays _ _ _ came in
    (_ ∷ t.0, g.met.P.Ports.goes_on c.args.ports.now c.next_soon.new.self c.handle.new.ports _ t.0 came t.1, rw same at t.2)
