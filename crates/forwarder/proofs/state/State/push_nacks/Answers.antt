use Rattle.std.proofs.Common.{◌+◌, ◌++◌, ◌≤◌, ℕ, List, ◌∷◌, [], drop, refl, sym, ap, subst, ◌∙◌, arith, append_assoc, append-nil}
use Rattle.std.specs.FinMap as map
use Rattle.std.proofs.lemmas.List.{drop_all, length-map}
use Rattle.ndn_packets.specs.Key.{plain_key}
use Rattle.ndn_packets.specs.Link.{IsToken}
use Rattle.strategies.proofs.Places.{drop_here, drop_past}
use Rattle.forwarder.specs.Event.{Send, nacked_back}
use Rattle.forwarder.specs.OpenFaces.{FaceEntry, numbers}
use Rattle.forwarder.specs.Handling.{token_of}
use Rattle.forwarder.specs.NackRoom.{in_records_at, nack_room}
use Rattle.forwarder.proofs.NackSteps.{asker_nack, asker_room, nack_for, nacks_by, nacks_to_all, no_asker, room_here}
use Rattle.forwarder.proofs.Soundness.{has_numbers}
use Rattle.forwarder.proofs.Tokens.{token_there}
use Rattle.forwarder.proofs.state.State.push_nacks.Goals as goal
use Rattle.forwarder.proofs.state.State.push_nacks.Goals.{in-Some-interest_of+in_ok-push_nack, in_default-interest_of}

pub loop-i-init : goal.loop-i-init
loop-i-init c = record { sends = refl; places = omega (arith, c.requires.places); space = c.requires.space }

pub loop-i-preserved-in_default : goal.loop-i-preserved-in_default
loop-i-preserved-in_default c =
    let asks = in_records_at c.args.self.now.pit.pending (plain_key c.args.key) in
    let past = drop_past (numbers c.args.self.now.faces) c.loop-i.i (sym c.get.ensures ∙ c.in_default.is) in
    record {
      sends = c.loop-i.invariant.sends ∙ ap (λ (faces : List ℕ). c.loop-i.out.sends ++ nacks_by c.args.reason (map.get asks) faces) past;
      places = omega (arith, c.loop-i.invariant.places);
      space = subst (λ (faces : List ℕ). nack_room asks faces ≤ c.loop-i.out.space) past c.loop-i.invariant.space;
    }

pub push_nack-requires : goal.push_nack-requires
push_nack-requires c = token_there IsToken c.token_of.result c.token_of.ensures.sizes

-- memory does not run out, because the reserved memory is enough for one more Nack
refused_never : goal.After-from_residual → ⊥
refused_never c =
    let asks = in_records_at c.args.self.now.pit.pending (plain_key c.args.key) in
    let face = c.in-Some.face in
    let octets = c.in-Some-interest_of.octets.now in
    let room = room_here asks (numbers c.args.self.now.faces) c.loop-i.i face (sym c.get.ensures ∙ c.in-Some.is) in
    let mine = asker_room (map.get asks face) octets c.in-Some-interest_of.ensures in
    let done = c.in_err-push_nack.ensures.promised
    (omega (arith, c.loop-i.invariant.places, c.loop-i-test.true, c.len-i-end.ensures.small))
    (omega (arith, c.loop-i.invariant.space, room, mine)) in
    cc done

pub returns-in_err-push_nack-clause-ok : goal.returns-in_err-push_nack-clause-ok
returns-in_err-push_nack-clause-ok c = absurd (refused_never c)

pub returns-in_err-push_nack-clause-sends : goal.returns-in_err-push_nack-clause-sends
returns-in_err-push_nack-clause-sends c = absurd (refused_never c)

pub loop-i-preserved : goal.loop-i-preserved
loop-i-preserved c =
    let asks = in_records_at c.args.self.now.pit.pending (plain_key c.args.key) in
    let faces = numbers c.args.self.now.faces in
    let face = c.in-Some.face in
    let at = sym c.get.ensures ∙ c.in-Some.is in
    let room = room_here asks faces c.loop-i.i face at in
    let rest = nacks_by c.args.reason (map.get asks) (drop (c.loop-i.i + 1) faces) in
    let next = c.loop-i.invariant.sends ∙ ap (λ (some : List ℕ). c.loop-i.out.sends ++ nacks_by c.args.reason (map.get asks) some) (drop_here faces c.loop-i.i face at) in
    elim c.match-interest_of.branch [
      | in-Some-interest_of+in_ok-push_nack w ↦
          let octets = w.in-Some-interest_of.octets.now in
          let mine = asker_room (map.get asks face) octets w.in-Some-interest_of.ensures in
          let token = token_of w.token_of.result in
          let sent = asker_nack c.args.reason face (map.get asks face) octets token w.in-Some-interest_of.ensures w.token_of.ensures.token in
          rw w.out-is (record {
            sends = next ∙ ap (λ (one : List Send). c.loop-i.out.sends ++ (one ++ rest)) sent
                ∙ sym (append_assoc c.loop-i.out.sends (nacked_back face token c.args.reason octets ∷ []) rest)
                ∙ ap (λ (before : List Send). before ++ rest) (sym w.in_ok-push_nack.ensures.ok);
            places = omega (arith, c.loop-i.invariant.places, w.push_nack.ensures.room);
            space = omega (arith, c.loop-i.invariant.space, room, mine, w.push_nack.ensures.space);
          })
      | in_default-interest_of w ↦
          let none = no_asker (map.get asks face) w.in_default-interest_of.ensures in
          rw w.out-is (record {
            sends = next ∙ ap (λ o. c.loop-i.out.sends ++ (nack_for c.args.reason face o ++ rest)) none;
            places = omega (arith, c.loop-i.invariant.places);
            space = omega (arith, c.loop-i.invariant.space, room);
          })
    ]

pub returns-clause-sends : goal.returns-clause-sends
returns-clause-sends c =
    let asks = in_records_at c.args.self.now.pit.pending (plain_key c.args.key) in
    let faces = numbers c.args.self.now.faces in
    let end = drop_all c.loop-i.i faces (omega (arith, c.loop-i-test.false, c.len-i-end.ensures.exact, length-map c.args.self.now.faces (λ (entry : FaceEntry). entry.0))) in
    sym (append-nil c.loop-i.out.sends)
    ∙ ap (λ (some : List ℕ). c.loop-i.out.sends ++ nacks_by c.args.reason (map.get asks) some) (sym end)
    ∙ sym c.loop-i.invariant.sends
    ∙ ap (λ (sends : List Send). c.args.out.now.sends ++ sends)
    (nacks_to_all c.args.reason asks faces (λ f some. has_numbers f c.args.self.now.faces ∙ c.requires.known f some) c.len-i-end.ensures.rising)
