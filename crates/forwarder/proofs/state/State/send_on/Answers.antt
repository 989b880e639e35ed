use Rattle.std.proofs.Common.{◌≡◌, Bool, false, cond, refl, sym, ap, subst, ◌∙◌, arith, ◌+◌}
use Rattle.std.specs.Prelude.{None, Some, length}
use Rattle.std.specs.FinMap as map
use Rattle.ndn_packets.specs.Key.{PlainKey, key_of}
use Rattle.ndn_packets.specs.View.{plain_interest}
use Rattle.pit_fib.specs.Records.{is_alive, records_at}
use Rattle.pit_fib.specs.Pit.{token_len}
use Rattle.ndn_packets.specs.Link.{IsToken}
use Rattle.forwarder.specs.Handling.{token_of}
use Rattle.forwarder.specs.NextHops.{sent_on}
use Rattle.forwarder.specs.Event.{to_each}
use Rattle.forwarder.specs.declared.state.State.{State}
use Rattle.forwarder.specs.Verdict.{PitFull, dropped, passed}
use Rattle.forwarder.specs.State.{policy_of, state_of}
use Rattle.forwarder.proofs.Tokens.{token_here}
use Rattle.forwarder.proofs.ForwardSteps.{arrived_alive, arrived_sound, arrives_as, asker_not_chosen, chosen_few, chosen_open, room_for_open, sent_on_causes, takes_key}
use Rattle.forwarder.proofs.state.State.send_on.Goals as goal

pub arrive-requires : goal.arrive-requires
arrive-requires c = record {
  room = room_for_open (state_of c.args.self.now) c.args.face c.requires.sound c.requires.from;
  token = token_here (λ t. IsToken t) c.args.token c.requires.is_token;
}

pub record_sent-requires-clause-alive : goal.record_sent-requires-clause-alive
record_sent-requires-clause-alive c =
    let key = key_of (plain_interest c.args.interest.now) in
    let arrives = arrives_as c.args.face (token_of c.args.token) c.args.interest.now.whole.now c.args.interest.now.nonce c.args.self.now.pit.pending c.arrive.new.self.pending c.key-key.ensures c.saturating_add-deadline.ensures c.in-Ok.ensures.ok in
    ap is_alive (arrives key) ∙ arrived_alive key c.args.face _ (records_at c.args.self.now.pit.pending key)

pub record_sent-requires-clause-sound : goal.record_sent-requires-clause-sound
record_sent-requires-clause-sound c =
    arrived_sound (state_of c.args.self.now) (state_of (record c.args.self.now { pit = c.arrive.new.self })) _ c.args.face _
    c.requires.sound c.requires.from refl c.in-Ok.ensures.ok

pub record_sent-requires-clause-known : goal.record_sent-requires-clause-known
record_sent-requires-clause-known c =
    chosen_open (state_of c.args.self.now) c.requires.sound c.args.face (plain_interest c.args.interest.now) c.args.faces.now c.requires.chosen

pub record_sent-requires-clause-prepared : goal.record_sent-requires-clause-prepared
record_sent-requires-clause-prepared c =
    let prepared = c.requires.prepared ∙ ap (λ (k : PlainKey). Some (k, Some (length c.args.interest.now.whole.now + token_len (token_of c.args.token)))) (sym c.key-key.ensures) in
    c.in-Ok.ensures.next (length c.args.interest.now.whole.now + token_len (token_of c.args.token)) prepared ∙ ap (λ (k : PlainKey). Some (k, None)) c.key-key.ensures

pub returns-in_err-push_interest-clause-ok : goal.returns-in_err-push_interest-clause-ok
returns-in_err-push_interest-clause-ok c =
    let few = chosen_few (state_of c.args.self.now) c.requires.sound c.args.face (plain_interest c.args.interest.now) c.args.faces.now c.requires.chosen in
    let done = c.in_err-push_interest.ensures.promised (omega (arith, few, c.requires.places)) (omega (arith, c.requires.space)) in
    cc done

pub returns-clause-forwards : goal.returns-clause-forwards
returns-clause-forwards c =
    let i = plain_interest c.args.interest.now in
    let old = c.args.self.now in
    let face = c.args.face in
    let key = key_of i in
    let faces = c.args.faces.now in
    let octets = sent_on c.args.interest.now.whole.now i.hop_limit in
    let sends = to_each faces octets in
    let arrives = arrives_as c.args.face (token_of c.args.token) c.args.interest.now.whole.now c.args.interest.now.nonce c.args.self.now.pit.pending c.arrive.new.self.pending c.key-key.ensures c.saturating_add-deadline.ensures c.in-Ok.ensures.ok in
    let apart = asker_not_chosen (state_of old) c.requires.sound face i faces c.requires.chosen in
    let full = takes_key (is_alive (records_at old.pit.pending key)) (map.len old.pit.pending)
    (λ both. let full = c.in-Ok.ensures.full.1 (subst (λ (k : PlainKey). is_alive (records_at old.pit.pending k) ≡ false) (sym c.key-key.ensures) both.0, both.1) in cc full) in (
      sends,
      c.in_ok-push_interest.ensures.ok,
      record {
        replied = ap (λ (b : Bool). cond b (dropped PitFull) (passed sends)) (sym full);
        pending = sent_on_causes old.now face (token_of c.args.token) c.args.interest.now.whole.now i faces old.pit.pending c.arrive.new.self.pending c.record_sent.new.self.pit.pending
            c.args.interest.now.spelled apart arrives c.record_sent.ensures.pending;
        alive = c.record_sent.ensures.living c.arrive.ensures.living;
        policy = ap (λ (s : State). policy_of s) c.record_sent.ensures.rest;
        cache = ap (λ (s : State). s.tables.store) c.record_sent.ensures.rest;
      },
    )
