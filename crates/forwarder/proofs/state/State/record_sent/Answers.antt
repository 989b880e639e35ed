use Rattle.std.proofs.Common.{◌≡◌, ℕ, true, List, take, refl, sym, ap, subst, ◌∙◌, arith}
use Rattle.std.proofs.lemmas.List.{take_all}
use Rattle.std.specs.Prelude.{None, Some}
use Rattle.ndn_packets.specs.Key.{PlainKey, key_of, plain_key}
use Rattle.ndn_packets.specs.View.{plain_interest}
use Rattle.pit_fib.specs.Cause.{SentTo, Follows}
use Rattle.pit_fib.specs.Records.{is_alive, records_at}
use Rattle.forwarder.specs.declared.state.State.{State}
use Rattle.forwarder.specs.Causes.{sent_causes}
use Rattle.forwarder.specs.Node.{FollowAll}
use Rattle.forwarder.proofs.ForwardSteps.{has_at, one_more_sent, room_within, sent_alive, sent_open}
use Rattle.forwarder.proofs.Outboxes.{slice_get-there}
use Rattle.forwarder.proofs.state.State.record_sent.Goals as goal
use Rattle.forwarder.proofs.state.State.record_sent.Goals.{in-Some+in_ok-sent, in_default}

pub loop-i-init : goal.loop-i-init
loop-i-init c = record {
  pending = λ key. refl;
  alive = c.requires.alive;
  records = c.requires.sound.records;
  living = λ living. living;
  rest = refl;
  prepared = c.requires.prepared;
  below = omega arith;
}

pub sent-requires-clause-stands : goal.sent-requires-clause-stands
sent-requires-clause-stands c =
    subst (λ (key : PlainKey). is_alive (records_at c.loop-i.self.pit.pending key) ≡ true) (sym c.key.ensures) c.loop-i.invariant.alive

pub sent-requires-clause-room : goal.sent-requires-clause-room
sent-requires-clause-room c =
    let here = c.requires.known c.in-Some.face (has_at c.args.faces.now c.loop-i.i c.in-Some.face (sym c.get.ensures ∙ c.in-Some.is)) in
    room_within c.args.self.now.faces c.requires.sound.few c.requires.sound.rising c.loop-i.self.pit.pending c.loop-i.invariant.records c.in-Some.face here

pub loop-i-preserved : goal.loop-i-preserved
loop-i-preserved c = elim c.match-get.branch [
  | in-Some+in_ok-sent w ↦
      let key = key_of (plain_interest c.args.interest.now) in
      let nonce = (plain_interest c.args.interest.now).nonce in
      let now = c.args.self.now.now in
      let face = w.in-Some.face in
      let before = c.loop-i.self.pit.pending in
      let after = w.sent.new.self.pending in
      let at = sym c.get.ensures ∙ w.in-Some.is in
      let same = ap (λ (s : State). s.now) c.loop-i.invariant.rest in
      let one : Follows (SentTo key face nonce now) before after =
      subst (λ (n : ℕ). Follows (SentTo key face nonce n) before after) same
      (subst (λ (k : PlainKey). Follows (SentTo k face nonce c.loop-i.self.now) before after) w.key.ensures w.in_ok-sent.ensures.ok) in
      let prepared : c.loop-i.self.pit.prepared ≡ Some (plain_key w.key.result, None) = c.loop-i.invariant.prepared ∙ ap (λ (k : PlainKey). Some (k, None)) (sym w.key.ensures) in
      let here = c.requires.known face (has_at c.args.faces.now c.loop-i.i face at) in
      rw w.self-is (record {
        pending = one_more_sent key nonce now c.args.faces.now c.loop-i.i face c.args.self.now.pit.pending before after at c.loop-i.invariant.pending one;
        alive = ap is_alive (one key) ∙ sent_alive key face nonce now key (records_at before key) c.loop-i.invariant.alive;
        records = sent_open key nonce now c.args.self.now.faces face before after c.loop-i.invariant.records here one;
        living = λ _. w.sent.ensures.living;
        rest = ap (λ (s : State). record s { pit = w.sent.new.self }) c.loop-i.invariant.rest;
        prepared = w.sent.ensures.next prepared ∙ c.loop-i.invariant.prepared;
        below = omega (arith, c.loop-i-test.true);
      })
  | in_default w ↦ absurd (slice_get-there c.args.faces.now c.loop-i.i (omega (arith, c.loop-i-test.true, c.len-i-end.ensures.exact)) (sym c.get.ensures ∙ w.in_default.is))
]

pub returns-clause-pending : goal.returns-clause-pending
returns-clause-pending c =
    let all : take c.loop-i.i c.args.faces.now ≡ c.args.faces.now = take_all c.loop-i.i c.args.faces.now (omega (arith, c.loop-i-test.false, c.len-i-end.ensures.exact)) in
    subst (λ (faces : List ℕ). FollowAll (sent_causes (key_of (plain_interest c.args.interest.now)) (plain_interest c.args.interest.now).nonce c.args.self.now.now faces)
    c.args.self.now.pit.pending c.loop-i.self.pit.pending) all c.loop-i.invariant.pending

pub returns-clause-living : goal.returns-clause-living
returns-clause-living c = c.loop-i.invariant.living

pub returns-clause-rest : goal.returns-clause-rest
returns-clause-rest c = c.loop-i.invariant.rest

pub returns-in_err-sent-clause-ok : goal.returns-in_err-sent-clause-ok
returns-in_err-sent-clause-ok c =
    let prepared : c.loop-i.self.pit.prepared ≡ Some (plain_key c.key.result, None) = c.loop-i.invariant.prepared ∙ ap (λ (k : PlainKey). Some (k, None)) (sym c.key.ensures) in
    let done = c.in_err-sent.ensures.promised prepared in cc done
