use Rattle.std.proofs.Common.{◌≡◌, ap, length, List, ℕ, rules}
use Rattle.forwarder.specs.Event.{Packet}
use Rattle.node_ports.specs.declared.ports.TheConstants.{FRAME_ROOM}
use Rattle.node_ports.proofs.held.kept.Goals as goal

pub returns-in-Packet-clause-event : goal.returns-in-Packet-clause-event
returns-in-Packet-clause-event c =
    let long : length c.put_front-octets.new.buffer ≡ FRAME_ROOM = search rules in
    let front = rw long at c.put_front-octets.ensures.front in
    rw c.in-Packet.is (ap (λ (l : List ℕ). Packet c.in-Packet.face c.in-Packet.now l) front)
