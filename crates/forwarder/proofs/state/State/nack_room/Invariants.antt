use Rattle.std.proofs.Common.{◌≡◌, ◌+◌, drop}
use Rattle.ndn_packets.specs.Key.{plain_key}
use Rattle.forwarder.specs.OpenFaces.{numbers}
use Rattle.forwarder.specs.NackRoom.{in_records_at, nack_room}
use Rattle.forwarder.proofs.state.State.nack_room.Given as goal

-- `room` and the room for the remaining faces are together the room for all Nacks
abbrev pub invariant-loop-i : goal.invariant-loop-i
invariant-loop-i l =
    l.room + nack_room (in_records_at l.self.pit.pending (plain_key l.key)) (drop l.i (numbers l.self.faces))
    ≡ nack_room (in_records_at l.self.pit.pending (plain_key l.key)) (numbers l.self.faces)
