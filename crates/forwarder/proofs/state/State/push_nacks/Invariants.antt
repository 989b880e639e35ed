use Rattle.std.proofs.Common.{◌≡◌, ◌+◌, ◌++◌, ◌≤◌, drop}
use Rattle.std.specs.FinMap as map
use Rattle.ndn_packets.specs.Key.{plain_key}
use Rattle.pit_fib.specs.declared.face_set.TheConstants.{MAX_FACES}
use Rattle.forwarder.specs.OpenFaces.{numbers}
use Rattle.forwarder.specs.NackRoom.{in_records_at, nack_room}
use Rattle.forwarder.proofs.NackSteps.{nacks_by}
use Rattle.forwarder.proofs.state.State.push_nacks.Given as goal

abbrev pub invariant-loop-i : goal.invariant-loop-i
invariant-loop-i l = record {
  sends : l.initial.out.sends ++ nacks_by l.reason (map.get (in_records_at l.self.pit.pending (plain_key l.key))) (numbers l.self.faces)
      ≡ l.out.sends ++ nacks_by l.reason (map.get (in_records_at l.self.pit.pending (plain_key l.key))) (drop l.i (numbers l.self.faces));
  places : MAX_FACES ≤ l.out.places + l.i;
  space : nack_room (in_records_at l.self.pit.pending (plain_key l.key)) (drop l.i (numbers l.self.faces)) ≤ l.out.space;
}
