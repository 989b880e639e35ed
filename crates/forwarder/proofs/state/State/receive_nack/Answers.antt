use Rattle.std.proofs.Common.{◌≡◌, inl, ◌++◌, true, List, [], refl, sym, ap, subst, ◌∙◌, arith, append-nil}
use Rattle.ndn_packets.specs.Key.{PlainKey, key_of, plain_key}
use Rattle.ndn_packets.specs.Packet.{ANack}
use Rattle.ndn_packets.specs.View.{plain_interest}
use Rattle.pit_fib.specs.declared.nacked.Nacked.{Nacked}
use Rattle.pit_fib.specs.Cause.{Expires, NackCame, Removed, Follows}
use Rattle.pit_fib.specs.Pit.{nacked_answer}
use Rattle.pit_fib.specs.Records.{InRecords, Records, records_at}
use Rattle.pit_fib.proofs.PendingFaces.{had_records}
use Rattle.forwarder.specs.Event.{Send}
use Rattle.forwarder.specs.OpenFaces.{FaceEntry, is_open, numbers}
use Rattle.forwarder.specs.Handling.{IsAnswered, token_of}
use Rattle.forwarder.specs.NackRoom.{in_records_at, nack_room}
use Rattle.forwarder.specs.Policy.{Policy}
use Rattle.forwarder.specs.Replies.{nack_answer, nacks_to}
use Rattle.forwarder.specs.State.{state_of}
use Rattle.forwarder.specs.Verdict.{verdict_of}
use Rattle.forwarder.specs.declared.verdict.Verdict as code
use Rattle.forwarder.proofs.Answered.{later_scope, refused_packet, unchanged}
use Rattle.forwarder.proofs.NackSteps.{awaited_alive, expired_room, nack_answered, nack_out_of_scope, nacked_asks, removed_causes, unknown_nack}
use Rattle.forwarder.proofs.state.State.receive_nack.Goals as goal

pub returns-then-is_out_of_scope-clause-handles : goal.returns-then-is_out_of_scope-clause-handles
returns-then-is_out_of_scope-clause-handles c = record {
  handled =
      let was = state_of c.drop_packet.new.self in
      let later = c.drop_packet.ensures.later in
      let whole = c.args.arrived.now.packet.now.whole.now in
      let i = plain_interest c.args.arrived.now.packet.now in (
        was,
        [],
        sym (append-nil {A = Send} c.args.out.now.sends),
        later,
        subst (λ (v : code.Verdict). IsAnswered was c.args.arrived.now.face (token_of c.args.arrived.now.token) (ANack c.args.reason whole i) (record { verdict = verdict_of v; sends = [] }) was) (sym c.drop_packet.ensures.verdict)
            (nack_out_of_scope was c.args.arrived.now.face (token_of c.args.arrived.now.token) c.args.reason whole i later.living
            (later_scope (state_of c.args.self.now) was c.args.arrived.now.face c.args.arrived.now.moment i.name later ∙ sym c.is_out_of_scope.ensures ∙ c.if-is_out_of_scope.true)),
      );
  memory = tt;
}

pub returns-in_err-room-clause-handles : goal.returns-in_err-room-clause-handles
returns-in_err-room-clause-handles c = refused_packet c.from_residual.result c.from_residual.ensures.0 (unchanged _ _ refl refl refl, refl)

pub returns-in_err-reserve-clause-handles : goal.returns-in_err-reserve-clause-handles
returns-in_err-reserve-clause-handles c = refused_packet c.from_residual-in_err-reserve.result c.from_residual-in_err-reserve.ensures.0 (unchanged _ _ refl refl refl, c.reserve.ensures.sends)

pub push_nacks-requires-clause-known : goal.push_nacks-requires-clause-known
push_nacks-requires-clause-known c = λ f some.
    let later = c.pass_time.ensures.later in
    let waited = had_records (NackCame (plain_key c.key-key.result) c.args.arrived.now.face c.args.arrived.now.packet.now.nonce c.args.reason) c.pass_time.new.self.pit.pending c.nacked.new.self.pending
    (λ g none. none) c.nacked.ensures.pending f (plain_key c.key-key.result, inl some) in
    let asked = had_records (Expires _) c.args.self.now.pit.pending c.pass_time.new.self.pit.pending (λ g none. none) later.expiry f waited in
    subst (λ (faces : List FaceEntry). is_open f faces ≡ true) (sym (ap (λ (p : Policy). p.faces) later.policy)) (c.requires.ready.sound.records f asked)

pub push_nacks-requires-clause-space : goal.push_nacks-requires-clause-space
push_nacks-requires-clause-space c =
    let later = c.pass_time.ensures.later in
    let key = plain_key c.key-key.result in
    let was = c.pass_time.new.self.pit.pending in
    let nonce = c.args.arrived.now.packet.now.nonce in
    let alive = awaited_alive was later.living key c.args.arrived.now.face nonce c.args.reason c.in-All.least (sym c.nacked.ensures.answer ∙ c.in-All.is) in
    let same : in_records_at c.nacked.new.self.pending key ≡ in_records_at was key =
    ap (λ (r : Records). r.in_records) (c.nacked.ensures.pending key) ∙ nacked_asks key c.args.arrived.now.face nonce c.args.reason (records_at was key) alive in
    let faces : numbers c.pass_time.new.self.faces ≡ numbers c.args.self.now.faces = ap (λ (p : Policy). numbers p.faces) later.policy in
    omega (
      arith,
      ap (λ (asks : InRecords). nack_room asks (numbers c.pass_time.new.self.faces)) same,
      ap (nack_room (in_records_at was key)) faces,
      expired_room _ c.args.self.now.pit.pending was later.expiry key (numbers c.args.self.now.faces),
      c.in_ok-room.ensures,
      c.in_ok-reserve.ensures.space,
    )

pub returns-in-NoPending-clause-handles : goal.returns-in-NoPending-clause-handles
returns-in-NoPending-clause-handles c = record {
  handled =
      let old = state_of c.args.self.now in
      let was = state_of c.pass_time.new.self in
      let later = c.pass_time.ensures.later in
      let face = c.args.arrived.now.face in
      let i = plain_interest c.args.arrived.now.packet.now in
      let nonce = i.nonce in
      let answer : nacked_answer (records_at was.pending (key_of i)) face nonce c.args.reason ≡ Nacked.NoPending =
      ap (λ (key : PlainKey). nacked_answer (records_at was.pending key) face nonce c.args.reason) (sym c.key-key.ensures) ∙ sym c.nacked.ensures.answer ∙ c.in-NoPending.is in
      let follows = subst (λ (key : PlainKey). Follows (NackCame key face nonce c.args.reason) was.pending c.nacked.new.self.pending) c.key-key.ensures c.nacked.ensures.pending in (
        was,
        [],
        c.reserve.ensures.sends ∙ sym (append-nil {A = Send} c.args.out.now.sends),
        later,
        nack_answered was (state_of (record c.pass_time.new.self { pit = c.nacked.new.self })) face (token_of c.args.arrived.now.token) c.args.reason c.args.arrived.now.packet.now.whole.now i refl refl c.nacked.ensures.living _
            (later_scope old was face c.args.arrived.now.moment i.name later ∙ sym c.is_out_of_scope.ensures ∙ c.if-is_out_of_scope.false)
            (ap (nack_answer (in_records_at was.pending (key_of i))) (sym answer))
            (unknown_nack (key_of i) face nonce c.args.reason was.pending c.nacked.new.self.pending later.living answer follows),
      );
  memory = tt;
}

pub returns-in-Waiting-clause-handles : goal.returns-in-Waiting-clause-handles
returns-in-Waiting-clause-handles c = record {
  handled =
      let old = state_of c.args.self.now in
      let was = state_of c.pass_time.new.self in
      let later = c.pass_time.ensures.later in
      let face = c.args.arrived.now.face in
      let i = plain_interest c.args.arrived.now.packet.now in
      let nonce = i.nonce in
      let answer : nacked_answer (records_at was.pending (key_of i)) face nonce c.args.reason ≡ Nacked.Waiting =
      ap (λ (key : PlainKey). nacked_answer (records_at was.pending key) face nonce c.args.reason) (sym c.key-key.ensures) ∙ sym c.nacked.ensures.answer ∙ c.in-Waiting.is in
      let follows = subst (λ (key : PlainKey). Follows (NackCame key face nonce c.args.reason) was.pending c.nacked.new.self.pending) c.key-key.ensures c.nacked.ensures.pending in (
        was,
        [],
        c.reserve.ensures.sends ∙ sym (append-nil {A = Send} c.args.out.now.sends),
        later,
        nack_answered was (state_of (record c.pass_time.new.self { pit = c.nacked.new.self })) face (token_of c.args.arrived.now.token) c.args.reason c.args.arrived.now.packet.now.whole.now i refl refl c.nacked.ensures.living _
            (later_scope old was face c.args.arrived.now.moment i.name later ∙ sym c.is_out_of_scope.ensures ∙ c.if-is_out_of_scope.false)
            (ap (nack_answer (in_records_at was.pending (key_of i))) (sym answer))
            follows,
      );
  memory = tt;
}

pub returns-in_ok-push_nacks-in-All-clause-handles : goal.returns-in_ok-push_nacks-in-All-clause-handles
returns-in_ok-push_nacks-in-All-clause-handles c = record {
  handled =
      let old = state_of c.args.self.now in
      let was = state_of c.pass_time.new.self in
      let later = c.pass_time.ensures.later in
      let face = c.args.arrived.now.face in
      let i = plain_interest c.args.arrived.now.packet.now in
      let nonce = i.nonce in
      let least = c.in-All.least in
      let asks = in_records_at was.pending (key_of i) in
      let answer : nacked_answer (records_at was.pending (key_of i)) face nonce c.args.reason ≡ Nacked.All least =
      ap (λ (key : PlainKey). nacked_answer (records_at was.pending key) face nonce c.args.reason) (sym c.key-key.ensures) ∙ sym c.nacked.ensures.answer ∙ c.in-All.is in
      let alive = awaited_alive was.pending later.living (key_of i) face nonce c.args.reason least answer in
      let follows = subst (λ (key : PlainKey). Follows (NackCame key face nonce c.args.reason) was.pending c.nacked.new.self.pending) c.key-key.ensures c.nacked.ensures.pending in
      let removed = subst (λ (key : PlainKey). Follows (Removed key) c.nacked.new.self.pending c.remove.new.self.pending) c.key-key.ensures c.remove.ensures.pending in
      let same : in_records_at c.nacked.new.self.pending (plain_key c.key-key.result) ≡ asks =
      ap (in_records_at c.nacked.new.self.pending) c.key-key.ensures ∙ ap (λ (r : Records). r.in_records) (follows (key_of i))
      ∙ nacked_asks (key_of i) face nonce c.args.reason (records_at was.pending (key_of i)) alive in (
        was,
        nacks_to asks least,
        c.push_nacks.ensures.sends ∙ ap (λ (before : List Send). before ++ nacks_to (in_records_at c.nacked.new.self.pending (plain_key c.key-key.result)) least) c.reserve.ensures.sends
            ∙ ap (λ (m : InRecords). c.args.out.now.sends ++ nacks_to m least) same,
        later,
        nack_answered was (state_of (record c.pass_time.new.self { pit = c.remove.new.self })) face (token_of c.args.arrived.now.token) c.args.reason c.args.arrived.now.packet.now.whole.now i refl refl c.remove.ensures.living _
            (later_scope old was face c.args.arrived.now.moment i.name later ∙ sym c.is_out_of_scope.ensures ∙ c.if-is_out_of_scope.false)
            (ap (nack_answer asks) (sym answer))
            (removed_causes face c.args.reason least i was.pending c.nacked.new.self.pending c.remove.new.self.pending alive follows removed),
      );
  memory = tt;
}

pub returns-in_err-room-clause-without_memory : goal.returns-in_err-room-clause-without_memory
returns-in_err-room-clause-without_memory c = λ out. let here = sym c.is_out_of_scope.ensures ∙ c.if-is_out_of_scope.false in cc (here, out)

pub returns-in_err-reserve-clause-without_memory : goal.returns-in_err-reserve-clause-without_memory
returns-in_err-reserve-clause-without_memory c = λ out. let here = sym c.is_out_of_scope.ensures ∙ c.if-is_out_of_scope.false in cc (here, out)
