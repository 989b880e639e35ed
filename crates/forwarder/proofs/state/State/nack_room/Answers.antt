use Rattle.std.proofs.Common.{◌+◌, ℕ, List, sym, ap, ◌∙◌, arith}
use Rattle.std.specs.FinMap as map
use Rattle.std.proofs.lemmas.List.{drop_all, length-map}
use Rattle.ndn_packets.specs.Key.{plain_key}
use Rattle.strategies.proofs.Places.{drop_past}
use Rattle.forwarder.specs.OpenFaces.{FaceEntry, numbers}
use Rattle.forwarder.specs.NackRoom.{in_records_at, nack_room, room_for}
use Rattle.forwarder.proofs.NackSteps.{asker_room, no_asker, room_here}
use Rattle.forwarder.proofs.state.State.nack_room.Goals as goal
use Rattle.forwarder.proofs.state.State.nack_room.Goals.{in-Some-interest_of+in_ok-room, in_default-interest_of}

pub loop-i-init : goal.loop-i-init
loop-i-init c = omega arith

pub loop-i-preserved-in_default : goal.loop-i-preserved-in_default
loop-i-preserved-in_default c =
    let asks = in_records_at c.args.self.now.pit.pending (plain_key c.args.key) in
    let past = drop_past (numbers c.args.self.now.faces) c.loop-i.i (sym c.get.ensures ∙ c.in_default.is) in
    ap (λ (faces : List ℕ). c.loop-i.room + nack_room asks faces) (sym past) ∙ c.loop-i.invariant

pub loop-i-preserved : goal.loop-i-preserved
loop-i-preserved c =
    let asks = in_records_at c.args.self.now.pit.pending (plain_key c.args.key) in
    let face = c.in-Some.face in
    let room = room_here asks (numbers c.args.self.now.faces) c.loop-i.i face (sym c.get.ensures ∙ c.in-Some.is) in
    elim c.match-interest_of.branch [
      | in-Some-interest_of+in_ok-room w ↦
          let mine = asker_room (map.get asks face) w.in-Some-interest_of.octets.now w.in-Some-interest_of.ensures in
          rw w.room-is (omega (arith, c.loop-i.invariant, room, mine, w.in_ok-room.ensures))
      | in_default-interest_of w ↦
          let none = ap room_for (no_asker (map.get asks face) w.in_default-interest_of.ensures) in
          rw w.room-is (omega (arith, c.loop-i.invariant, room, none))
    ]

pub returns : goal.returns
returns c =
    let asks = in_records_at c.args.self.now.pit.pending (plain_key c.args.key) in
    let faces = numbers c.args.self.now.faces in
    let end = drop_all c.loop-i.i faces (omega (arith, c.loop-i-test.false, c.len-i-end.ensures.exact, length-map c.args.self.now.faces (λ (entry : FaceEntry). entry.0))) in
    omega (arith, ap (nack_room asks) end, c.loop-i.invariant)
