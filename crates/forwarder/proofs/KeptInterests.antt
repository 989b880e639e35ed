-- Which Interests become pending.
use Rattle.std.proofs.Common.{◌≡◌, ℕ, arith, Bool, true, false, cond, List, [], ◌∷◌, map, refl, sym, ap, subst, ◌∙◌, Result, Ok, Err, inl, inr, eqb, ltb}
use Rattle.std.specs.Prelude.{◌⊎◌, ◌↔◌, Option, Some, None, max, not, ◌==◌, ◌&&◌, ◌||◌}
use Rattle.std.specs.List.{All, Contains}
use Rattle.std.specs.FinMap as fin
use Rattle.std.proofs.lemmas.Bool.{eqb-true, eq-eqb}
use Rattle.std.proofs.lemmas.List.Elements.{All-cons, All-nil, All-head, All-tail, All-contains, Contains-get_or}
use Rattle.ndn_packets.specs.Answers.{answers}
use Rattle.ndn_packets.specs.FrameReading.{frame_at, token_at}
use Rattle.ndn_packets.specs.Key.{PlainKey, key_of}
use Rattle.ndn_packets.specs.Packet.{PlainInterest, PlainFrame, AnInterest, AData, ANack, Idle}
use Rattle.ndn_packets.specs.declared.fault.PacketFault.{PacketFault}
use Rattle.ndn_packets.specs.declared.types.TheConstants.{DUPLICATE}
use Rattle.info_rules.specs.declared.decision.Decision.{Decision}
use Rattle.info_rules.specs.declared.decision.Decision.TheVariants as decided
use Rattle.pit_fib.specs.Cause.{Cause, Expires, Arrives, SentTo, Satisfied, NackCame, Withdrawn, Removed, Closed, same_key, records_after}
use Rattle.pit_fib.specs.FaceSet.{has_face}
use Rattle.pit_fib.specs.Past.{in_record_after, in_record_of as in_record_of_causes}
use Rattle.pit_fib.specs.Pit.{loops, moments}
use Rattle.pit_fib.specs.Records.{InRecord, is_alive}
use Rattle.pit_fib.proofs.PendingTables.{one_key, same_self}
use Rattle.strategies.specs.declared.strategy.Choice.{Choice}
use Rattle.strategies.specs.declared.strategy.Choice.TheVariants as choices
use Rattle.mgmt_core.specs.Writing.{segment_at}
use Rattle.repo_core.specs.Objects.{served}
use Rattle.forwarder.specs.Event.{PlainEvent, Packet, FaceUp, FaceDown, Tick, NewRules, Send, moment, to_each, Token, nacked_back, sent_back, token_in}
use Rattle.forwarder.specs.OpenFaces.{is_open}
use Rattle.forwarder.specs.Verdict.{Answer, Verdict, IfTrueElse, Passed, Allowed, DataAllowed, Denied, NoRule, Dropped, Loop, NoFace, NoSegment, PitFull, dropped, passed}
use Rattle.forwarder.specs.Request.{ListAsked, Request, Refused, ForList, ForTables, ForRepository, ForData, request_of}
use Rattle.forwarder.specs.NextHops.{ask_from, choice_for, sent_on}
use Rattle.forwarder.specs.Commands.{command_answer}
use Rattle.forwarder.specs.Datasets.{dataset_text, is_present, list_answer, segment_answer, segment_name}
use Rattle.forwarder.specs.Causes.{in_record_for, before_earlier, causes_by, causes_of, interest_causes, is_answered, is_nacked, nack_causes}
use Rattle.forwarder.specs.Outcome.{packet_outcome, read_outcome, outcome_of}
use Rattle.forwarder.specs.Replies.{Seen, Replies, RepliesForData, RepliesToPacket, RepliesToRequest, by_content_store, by_strategy, by_repository}
use Rattle.forwarder.specs.Runs.{Run, Then, now_of, past_causes, records_of}
use Rattle.forwarder.specs.DataSends.{BringsOctets, IsAtHand}
use Rattle.forwarder.specs.Kept.{IsSentBack, IsKept, IsPassed, IsSentOn}
use Rattle.forwarder.proofs.Chosen.{chosen_hop}
use Rattle.forwarder.proofs.Contents.{interest_is_neither, none_nacked, read_begins, sent_on_begins}
use Rattle.pit_fib.proofs.PendingPast.{asks_of_run}

-- ---- which cause makes an Interest pending

-- one cause `SentTo` for each send: the Interest was sent to the face of the send
abbrev sendings : PlainKey → List ℕ → ℕ → List Send → List Cause
sendings key nonce now sends = map (λ (sent : Send). SentTo key sent.0 nonce now) sends

-- the causes of an Interest that becomes pending are its arrival, and one `SentTo` for each send
kept_causes : (now : ℕ) (event : PlainEvent) (answer : Answer) (key : PlainKey) (face : ℕ) (ask : InRecord) (kept : IsKept now event answer key face ask)
    → causes_of now event answer ≡ Arrives key face ask ∷ sendings (key_of kept.interest) kept.interest.nonce now answer.sends
kept_causes now event answer key face ask kept =
    let i = kept.interest in
    let is = kept.is_passed in
    let rest = sendings (key_of i) i.nonce now answer.sends in
    let token = token_in event in
    ap (λ (e : PlainEvent). causes_by now token answer.sends (outcome_of e answer.verdict)) is.brings
    ∙ ap (λ (r : Result PlainFrame PacketFault). causes_by now token answer.sends (read_outcome face r answer.verdict)) is.read
    ∙ ap (λ (v : Verdict). causes_by now token answer.sends (packet_outcome face (AnInterest kept.whole i) v)) is.passed
    ∙ ap (λ (b : Bool). cond b (Withdrawn (key_of i) face ∷ []) (cond (is_answered face answer.sends) [] (Arrives (key_of i) face (in_record_for now token kept.whole i) ∷ rest))) kept.not_nacked
    ∙ ap (λ (b : Bool). cond b [] (Arrives (key_of i) face (in_record_for now token kept.whole i) ∷ rest)) kept.unanswered
    ∙ ap (λ (k : PlainKey). Arrives k face (in_record_for now token kept.whole i) ∷ rest) (sym kept.is_key)
    ∙ ap (λ (a : InRecord). Arrives key face a ∷ rest) (sym kept.is_record)

module _ (now : ℕ) (event : PlainEvent) (answer : Answer) (key : PlainKey) (face : ℕ) (ask : InRecord) where
  -- if `cause` is the arrival of the in-record `ask`, then the Interest of `ask` becomes pending
  abbrev IsKeptBy : Cause → Type 0
  IsKeptBy cause = cause ≡ Arrives key face ask → IsKept now event answer key face ask

  abbrev AllKept : List Cause → Type 0
  AllKept causes = All IsKeptBy causes

  one : (cause : Cause) → IsKeptBy cause → AllKept (cause ∷ [])
  one cause h = All-cons IsKeptBy cause [] h (All-nil IsKeptBy)

  sent_kept : (k : PlainKey) (nonce : List ℕ) (sends : List Send) → AllKept (sendings k nonce now sends)
  sent_kept k nonce [] = All-nil IsKeptBy
  sent_kept k nonce (sent ∷ sends) = All-cons IsKeptBy (SentTo k sent.0 nonce now) (sendings k nonce now sends) (λ e. cc e) (sent_kept k nonce sends)

  interest_kept : (from : ℕ) (token : Token) (whole : List ℕ) (i : PlainInterest) → token ≡ token_in event → IsPassed event answer from whole i
      → AllKept (interest_causes now from token whole i answer.sends)
  interest_kept from token whole i same is = by_nack (is_nacked answer.sends) refl (is_answered from answer.sends) refl
    where
      by_nack : (b : Bool) → is_nacked answer.sends ≡ b → (d : Bool) → is_answered from answer.sends ≡ d
          → AllKept (cond b (Withdrawn (key_of i) from ∷ []) (cond d [] (Arrives (key_of i) from (in_record_for now token whole i) ∷ sendings (key_of i) i.nonce now answer.sends)))
      by_nack true e d f = one (Withdrawn (key_of i) from) (λ g. cc g)
      by_nack false e true f = All-nil IsKeptBy
      by_nack false e false f =
          All-cons IsKeptBy (Arrives (key_of i) from (in_record_for now token whole i)) (sendings (key_of i) i.nonce now answer.sends)
          (λ g.
          let k : key_of i ≡ key = cc g in
          let n : from ≡ face = cc g in
          let a : in_record_for now token whole i ≡ ask = cc g in
          record {
            whole = whole;
            interest = i;
            is_passed = subst (λ (m : ℕ). IsPassed event answer m whole i) n is;
            unanswered = subst (λ (m : ℕ). is_answered m answer.sends ≡ false) n f;
            not_nacked = e;
            is_key = sym k;
            is_record = sym a ∙ ap (λ (t : Token). in_record_for now t whole i) same;
          }) (sent_kept (key_of i) i.nonce answer.sends)

  packet_kept : (from t : ℕ) (octets : List ℕ) (read : Result PlainFrame PacketFault) → event ≡ Packet from t octets → frame_at octets ≡ read → (v : Verdict) → answer.verdict ≡ v
      → AllKept (causes_by now (token_at octets) answer.sends (read_outcome from read v))
  packet_kept from t octets (Err fault) e r v is = All-nil IsKeptBy
  packet_kept from t octets (Ok (AnInterest whole i)) e r Passed is =
      interest_kept from (token_at octets) whole i (sym (ap token_in e)) (record { now = t; octets = octets; brings = e; read = r; passed = is })
  packet_kept from t octets (Ok (AData whole d)) e r Passed is = All-nil IsKeptBy
  packet_kept from t octets (Ok (ANack reason whole i)) e r Passed is = nacked answer.sends
    where
      nacked : (sends : List Send) → AllKept (nack_causes from reason i sends)
      nacked [] = one (NackCame (key_of i) from i.nonce reason) (λ g. cc g)
      nacked (sent ∷ sends) = All-cons IsKeptBy (NackCame (key_of i) from i.nonce reason) (Removed (key_of i) ∷ []) (λ g. cc g) (one (Removed (key_of i)) (λ g. cc g))
  packet_kept from t octets (Ok Idle) e r Passed is = All-nil IsKeptBy
  packet_kept from t octets (Ok (AnInterest whole i)) e r (Allowed rule status) is = All-nil IsKeptBy
  packet_kept from t octets (Ok (AData whole d)) e r (Allowed rule status) is = All-nil IsKeptBy
  packet_kept from t octets (Ok (ANack reason whole i)) e r (Allowed rule status) is = All-nil IsKeptBy
  packet_kept from t octets (Ok Idle) e r (Allowed rule status) is = All-nil IsKeptBy
  packet_kept from t octets (Ok (AnInterest whole i)) e r (DataAllowed rule stored) is = All-nil IsKeptBy
  packet_kept from t octets (Ok (AData whole d)) e r (DataAllowed rule stored) is = one _ (λ g. cc g)
  packet_kept from t octets (Ok (ANack reason whole i)) e r (DataAllowed rule stored) is = All-nil IsKeptBy
  packet_kept from t octets (Ok Idle) e r (DataAllowed rule stored) is = All-nil IsKeptBy
  packet_kept from t octets (Ok packet) e r (Denied kind rule reason) is = All-nil IsKeptBy
  packet_kept from t octets (Ok packet) e r (NoRule kind) is = All-nil IsKeptBy
  packet_kept from t octets (Ok packet) e r (Dropped reason) is = All-nil IsKeptBy

  closing_kept : (from t : ℕ) (v : Verdict) → AllKept (causes_of now (FaceDown from t) (record { verdict = v; sends = answer.sends }))
  closing_kept from t Passed = one (Closed from) (λ g. cc g)
  closing_kept from t (Allowed rule status) = All-nil IsKeptBy
  closing_kept from t (DataAllowed rule stored) = All-nil IsKeptBy
  closing_kept from t (Denied kind rule reason) = All-nil IsKeptBy
  closing_kept from t (NoRule kind) = All-nil IsKeptBy
  closing_kept from t (Dropped reason) = All-nil IsKeptBy

  event_kept : (other : PlainEvent) → event ≡ other → AllKept (causes_of now other answer)
  event_kept (Packet from t octets) e = packet_kept from t octets (frame_at octets) e refl answer.verdict refl
  event_kept (FaceUp from scope t) e = All-nil IsKeptBy
  event_kept (FaceDown from t) e = closing_kept from t answer.verdict
  event_kept (Tick t) e = All-nil IsKeptBy
  event_kept (NewRules rules keys t) e = All-nil IsKeptBy

  all_kept : AllKept (causes_of now event answer)
  all_kept = event_kept event refl

  pub arrives_where_kept : Contains (causes_of now event answer) (Arrives key face ask) ↔ IsKept now event answer key face ask
  arrives_where_kept = (
    (λ has. All-contains IsKeptBy (causes_of now event answer) (Arrives key face ask) all_kept has refl),
    (λ kept.
        let rest = sendings (key_of kept.interest) kept.interest.nonce now answer.sends in
        subst (λ (cs : List Cause). Contains cs (Arrives key face ask)) (sym (kept_causes now event answer key face ask kept))
        (Contains-get_or (Arrives key face ask ∷ rest) 0 (Arrives key face ask) (omega arith))),
  )

-- ---- the records after an event

after_sendings : (k : PlainKey) (nonce : List ℕ) (now : ℕ) (sends : List Send) (earlier : List Cause) (key : PlainKey) (face : ℕ)
    → in_record_of_causes (before_earlier (sendings k nonce now sends) earlier) key face ≡ in_record_of_causes earlier key face
after_sendings k nonce now [] earlier key face = refl
after_sendings k nonce now (sent ∷ sends) earlier key face = after_sendings k nonce now sends (SentTo k sent.0 nonce now ∷ earlier) key face

both : (a b : Bool) (x y : Option InRecord) → a ≡ true → b ≡ true → cond (a && b) x y ≡ x
both a b x y e f = (let g : a && b ≡ true = cc (e, f) in ap (λ (c : Bool). cond c x y) g)

pub kept_waits : (past : Run) (event : PlainEvent) (answer : Answer) (key : PlainKey) (face : ℕ) (ask : InRecord) → IsKept (max (now_of past) (moment event)) event answer key face ask
    → fin.get (records_of (Then past event answer) key).in_records face ≡ Some ask
kept_waits past event answer key face ask kept =
    let now = max (now_of past) (moment event) in
    let earlier = Expires now ∷ past_causes past in
    let i = kept.interest in
    asks_of_run (past_causes (Then past event answer)) key face
    ∙ ap (λ (cs : List Cause). in_record_of_causes (before_earlier cs earlier) key face) (kept_causes now event answer key face ask kept)
    ∙ after_sendings (key_of i) i.nonce now answer.sends (Arrives key face ask ∷ earlier) key face
    ∙ both (same_key key key) (eqb face face) (Some ask) (in_record_of_causes earlier key face) (same_self key) (eq-eqb face face refl)

-- if a key has an in-record after one cause, then the cause is the arrival of this in-record, or
-- the key had the in-record before the cause
one_cause : (cause : Cause) (key : PlainKey) (face : ℕ) (ask : InRecord) (was : Option InRecord) → in_record_after cause key face was ≡ Some ask → (cause ≡ Arrives key face ask) ⊎ (was ≡ Some ask)
one_cause (Expires now) key face ask None e = inr e
one_cause (Expires now) key face ask (Some a) e = by_time (ltb now a.deadline) e
  where
    by_time : (b : Bool) → cond b (Some a) None ≡ Some ask → (Expires now ≡ Arrives key face ask) ⊎ (Some a ≡ Some ask)
    by_time true e = inr e
    by_time false e = cc e
one_cause (Arrives k f a) key face ask was e = by_hop (same_key key k) refl (eqb face f) refl e
  where
    by_hop : (b : Bool) → same_key key k ≡ b → (d : Bool) → eqb face f ≡ d → cond (b && d) (Some a) was ≡ Some ask → (Arrives k f a ≡ Arrives key face ask) ⊎ (was ≡ Some ask)
    by_hop true g true h e =
        let x : key ≡ k = one_key key k g in
        let y : face ≡ f = eqb-true face f h in
        let z : a ≡ ask = cc e in
        inl (cc (x, y, z))
    by_hop true g false h e = inr e
    by_hop false g d h e = inr e
one_cause (SentTo k f nonce t) key face ask was e = inr e
one_cause (Satisfied name digest) key face ask was e = by_test (answers name digest key.name key.can_be_prefix) e
  where
    by_test : (b : Bool) → cond b None was ≡ Some ask → (Satisfied name digest ≡ Arrives key face ask) ⊎ (was ≡ Some ask)
    by_test true e = cc e
    by_test false e = inr e
one_cause (NackCame k f nonce reason) key face ask was e = inr e
one_cause (Withdrawn k f) key face ask was e = by_test (same_key key k && eqb face f) e
  where
    by_test : (b : Bool) → cond b None was ≡ Some ask → (Withdrawn k f ≡ Arrives key face ask) ⊎ (was ≡ Some ask)
    by_test true e = cc e
    by_test false e = inr e
one_cause (Removed k) key face ask was e = by_test (same_key key k) e
  where
    by_test : (b : Bool) → cond b None was ≡ Some ask → (Removed k ≡ Arrives key face ask) ⊎ (was ≡ Some ask)
    by_test true e = cc e
    by_test false e = inr e
one_cause (Closed f) key face ask was e = by_test (eqb face f) e
  where
    by_test : (b : Bool) → cond b None was ≡ Some ask → (Closed f ≡ Arrives key face ask) ⊎ (was ≡ Some ask)
    by_test true e = cc e
    by_test false e = inr e

module _ (key : PlainKey) (face : ℕ) (ask : InRecord) (Q : Type 0) where
  abbrev Brings : Cause → Type 0
  Brings cause = cause ≡ Arrives key face ask → Q

  all_causes : (causes earlier : List Cause) → All Brings causes → in_record_of_causes (before_earlier causes earlier) key face ≡ Some ask → Q ⊎ (in_record_of_causes earlier key face ≡ Some ask)
  all_causes [] earlier all e = inr e
  all_causes (cause ∷ causes) earlier all e = by_rest (all_causes causes (cause ∷ earlier) (All-tail Brings cause causes all) e)
    where
      by_cause : ((cause ≡ Arrives key face ask) ⊎ (in_record_of_causes earlier key face ≡ Some ask)) → Q ⊎ (in_record_of_causes earlier key face ≡ Some ask)
      by_cause (inl is) = inl (All-head Brings cause causes all is)
      by_cause (inr was) = inr was

      by_rest : (Q ⊎ (in_record_of_causes (cause ∷ earlier) key face ≡ Some ask)) → Q ⊎ (in_record_of_causes earlier key face ≡ Some ask)
      by_rest (inl q) = inl q
      by_rest (inr e) = by_cause (one_cause cause key face ask (in_record_of_causes earlier key face) e)

-- if an in-record exists after time has advanced to a moment, the in-record also existed before
-- time advanced
pub waited_before : (past : Run) (now : ℕ) (key : PlainKey) (face : ℕ) (ask : InRecord) → fin.get (records_after (Expires now) key (records_of past key)).in_records face ≡ Some ask
    → fin.get (records_of past key).in_records face ≡ Some ask
waited_before past now key face ask e =
    by_cause (one_cause (Expires now) key face ask (in_record_of_causes (past_causes past) key face) (sym (asks_of_run (Expires now ∷ past_causes past) key face) ∙ e))
  where
    by_cause : ((Expires now ≡ Arrives key face ask) ⊎ (in_record_of_causes (past_causes past) key face ≡ Some ask)) → fin.get (records_of past key).in_records face ≡ Some ask
    by_cause (inl is) = cc is
    by_cause (inr was) = asks_of_run (past_causes past) key face ∙ was

pub kept_or_waited : (past : Run) (event : PlainEvent) (answer : Answer) (key : PlainKey) (face : ℕ) (ask : InRecord) → fin.get (records_of (Then past event answer) key).in_records face ≡ Some ask
    → IsKept (max (now_of past) (moment event)) event answer key face ask ⊎ (fin.get (records_of past key).in_records face ≡ Some ask)
kept_or_waited past event answer key face ask e =
    let now = max (now_of past) (moment event) in
    by_causes (all_causes key face ask (IsKept now event answer key face ask) (causes_of now event answer) (Expires now ∷ past_causes past)
    (all_kept now event answer key face ask) (sym (asks_of_run (past_causes (Then past event answer)) key face) ∙ e))
  where
    by_expiry : ((Expires (max (now_of past) (moment event)) ≡ Arrives key face ask) ⊎ (in_record_of_causes (past_causes past) key face ≡ Some ask))
        → IsKept (max (now_of past) (moment event)) event answer key face ask ⊎ (fin.get (records_of past key).in_records face ≡ Some ask)
    by_expiry (inl is) = cc is
    by_expiry (inr was) = inr (asks_of_run (past_causes past) key face ∙ was)

    by_causes : (IsKept (max (now_of past) (moment event)) event answer key face ask ⊎ (in_record_of_causes (Expires (max (now_of past) (moment event)) ∷ past_causes past) key face ≡ Some ask))
        → IsKept (max (now_of past) (moment event)) event answer key face ask ⊎ (fin.get (records_of past key).in_records face ≡ Some ask)
    by_causes (inl kept) = inl kept
    by_causes (inr e) = by_expiry (one_cause (Expires (max (now_of past) (moment event))) key face ask (in_record_of_causes (past_causes past) key face) e)

-- ---- how a passed Interest is answered

module _ (seen : Seen) (event : PlainEvent) (answer : Answer) (face : ℕ) (whole : List ℕ) (i : PlainInterest) (is : IsPassed event answer face whole i) where
  abbrev token : Token
  token = token_at is.octets

  abbrev IsSentOnOrBack : List Send → Type 0
  IsSentOnOrBack sends = IsSentOn face whole i sends ⊎ IsSentBack seen face token whole i sends

  never : {A : Type 0} (v : Verdict) → answer.verdict ≡ v → (v ≡ Passed → ⊥) → A
  never v e other = absurd (other (sym e ∙ is.passed))

  hand : (packet : List ℕ) → answer ≡ passed (sent_back face token packet ∷ []) → IsAtHand seen face whole i packet → IsSentOnOrBack answer.sends
  hand packet e h = inr (inr (packet, ap (λ (a : Answer). a.sends) e, h))

  -- The answer to an Interest for a list. `b` is true if the Interest requests the current version
  -- or names no version, and false if the Interest requests another version. If `b` is true and the
  -- list has the segment, the answer is the segment. In all other cases, the Interest is dropped.
  abbrev by_present : Token → ListAsked → Bool → Answer
  by_present t asked b =
      cond b (segment_answer face t (segment_name asked.kind seen.policy.table_number asked.segment) (segment_at (dataset_text seen.policy asked.kind) asked.segment)) (dropped NoSegment)

  on_list : (asked : ListAsked) → request_of seen.policy face i ≡ ForList asked → answer ≡ list_answer seen.policy face token asked → IsSentOnOrBack answer.sends
  on_list asked found e = by_version (is_present seen.policy asked.version) refl
    where
      by_part : (part : Option (List ℕ × ℕ)) → list_answer seen.policy face token asked ≡ segment_answer face token (segment_name asked.kind seen.policy.table_number asked.segment) part
          → list_answer seen.policy face None asked ≡ segment_answer face None (segment_name asked.kind seen.policy.table_number asked.segment) part → IsSentOnOrBack answer.sends
      by_part None is bare = never (Dropped NoSegment) (ap (λ (a : Answer). a.verdict) (e ∙ is)) (λ f. cc f)
      by_part (Some part) is bare = hand _ (e ∙ is) (inr (inr (inr (asked, found, bare))))

      by_version : (b : Bool) → is_present seen.policy asked.version ≡ b → IsSentOnOrBack answer.sends
      by_version true is = by_part (segment_at (dataset_text seen.policy asked.kind) asked.segment) (ap (by_present token asked) is) (ap (by_present None asked) is)
      by_version false is = never (Dropped NoSegment) (ap (λ (a : Answer). a.verdict) (e ∙ ap (by_present token asked) is)) (λ f. cc f)

  on_command : (said : Decision) → answer ≡ command_answer seen.policy face token i said → IsSentOnOrBack answer.sends
  on_command (decided.Allowed rule) e = never _ (ap (λ (a : Answer). a.verdict) e) (λ f. cc f)
  on_command (decided.Denied rule reason) e = never _ (ap (λ (a : Answer). a.verdict) e) (λ f. cc f)
  on_command decided.NoRule e = never _ (ap (λ (a : Answer). a.verdict) e) (λ f. cc f)

  -- the face that asks is not among the faces that the strategy chooses
  not_asker : (faces : List ℕ) → choice_for seen.policy i.name (moments (seen.records (key_of i)).out_records) (ask_from seen.policy face i) ≡ choices.Send faces → has_face face faces ≡ false
  not_asker faces chosen = by_face (has_face face faces) refl
    where
      by_face : (b : Bool) → has_face face faces ≡ b → b ≡ false
      by_face false e = refl
      by_face true e =
          let h = chosen_hop seen.policy i.name (moments (seen.records (key_of i)).out_records) (ask_from seen.policy face i) faces face chosen e in
          let asker = eq-eqb face h.0.face (sym h.3) in
          let eligible = h.2 in cc (asker, eligible)

  on_choice : (choice : Choice) → choice_for seen.policy i.name (moments (seen.records (key_of i)).out_records) (ask_from seen.policy face i) ≡ choice
      → answer ≡ by_strategy seen (key_of i) whole i face token choice → IsSentOnOrBack answer.sends
  on_choice choices.NoRoute chosen e = inr (inl (ap (λ (a : Answer). a.sends) e))
  on_choice (choices.Send faces) chosen e = by_room (not (is_alive (seen.records (key_of i))) && seen.is_full) e
    where
      by_room : (b : Bool) → answer ≡ cond b (dropped PitFull) (passed (to_each faces (sent_on whole i.hop_limit))) → IsSentOnOrBack answer.sends
      by_room true e = never (Dropped PitFull) (ap (λ (a : Answer). a.verdict) e) (λ f. cc f)
      by_room false e = inl (faces, not_asker faces chosen, ap (λ (a : Answer). a.sends) e)

  on_object : (object : Option (List ℕ)) → served i.name i.can_be_prefix seen.policy.held.objects ≡ object → answer ≡ by_repository seen face token whole i object → IsSentOnOrBack answer.sends
  on_object (Some octets) stored e = hand octets e (inr (inl stored))
  on_object None stored e = on_choice (choice_for seen.policy i.name (moments (seen.records (key_of i)).out_records) (ask_from seen.policy face i)) refl e

  on_given : (given : Option (List ℕ)) → seen.MayGive (key_of i) given → answer ≡ by_content_store seen face token whole i given → IsSentOnOrBack answer.sends
  on_given (Some octets) gives e = hand octets e (inl gives)
  on_given None gives e = on_object (served i.name i.can_be_prefix seen.policy.held.objects) refl e

  on_data : RepliesForData seen face token whole i answer → IsSentOnOrBack answer.sends
  on_data h = by_loop (loops (seen.records (key_of i)) face i.nonce) h
    where
      by_loop : (b : Bool) → IfTrueElse b (answer ≡ record { verdict = Dropped Loop; sends = nacked_back face token DUPLICATE whole ∷ [] })
          ((given : Option (List ℕ)) × seen.MayGive (key_of i) given × (answer ≡ by_content_store seen face token whole i given)) → IsSentOnOrBack answer.sends
      by_loop true e = never (Dropped Loop) (ap (λ (a : Answer). a.verdict) e) (λ f. cc f)
      by_loop false h = on_given h.0 h.1 h.2

  on_request : (r : Request) → request_of seen.policy face i ≡ r → RepliesToRequest seen face token whole i answer r → IsSentOnOrBack answer.sends
  on_request (Refused reason) e h = never (Dropped reason) (ap (λ (a : Answer). a.verdict) h) (λ f. cc f)
  on_request (ForList asked) e h = on_list asked e h
  on_request ForTables e h = on_command h.0 h.2
  on_request ForRepository e h = on_command h.0 h.2
  on_request ForData e h = on_data h

  goes_on : Replies seen event answer → IsSentOnOrBack answer.sends
  goes_on replies =
      by_open (is_open face seen.policy.faces) (subst (λ (e : PlainEvent). Replies seen e answer) is.brings replies)
    where
      by_open : (b : Bool) → IfTrueElse b (RepliesToPacket seen face token (frame_at is.octets) answer) (answer ≡ dropped NoFace) → IsSentOnOrBack answer.sends
      by_open true h = on_request (request_of seen.policy face i) refl (subst (λ (r : Result PlainFrame PacketFault). RepliesToPacket seen face token r answer) is.read h)
      by_open false h = never (Dropped NoFace) (ap (λ (a : Answer). a.verdict) h) (λ f. cc f)

none_to : (face : ℕ) (faces octets : List ℕ) → is_answered face (to_each faces octets) ≡ has_face face faces
none_to face [] octets = refl
none_to face (f ∷ faces) octets = ap (λ (b : Bool). (f == face) || b) (none_to face faces octets)

pub kept_or_answered : (seen : Seen) (now : ℕ) (event : PlainEvent) (answer : Answer) (face : ℕ) (whole : List ℕ) (i : PlainInterest) → BringsOctets event → Replies seen event answer
    → IsPassed event answer face whole i → (IsKept now event answer (key_of i) face (in_record_for now (token_in event) whole i) × IsSentOn face whole i answer.sends) ⊎ IsSentBack seen face (token_in event) whole i answer.sends
kept_or_answered seen now event answer face whole i fits replies is =
    by_way (subst (λ (t : Token). IsSentOn face whole i answer.sends ⊎ IsSentBack seen face t whole i answer.sends) (sym (ap token_in is.brings)) (goes_on seen event answer face whole i is replies))
  where
    by_way : (IsSentOn face whole i answer.sends ⊎ IsSentBack seen face (token_in event) whole i answer.sends)
        → (IsKept now event answer (key_of i) face (in_record_for now (token_in event) whole i) × IsSentOn face whole i answer.sends) ⊎ IsSentBack seen face (token_in event) whole i answer.sends
    by_way (inr back) = inr back
    by_way (inl on) =
        let octets = subst BringsOctets is.brings fits in
        let on_text = sent_on whole i.hop_limit in
        let other = (interest_is_neither on_text (sent_on_begins whole i.hop_limit (read_begins is.octets whole i octets is.read))).0 in
        inl (
          record {
            whole = whole;
            interest = i;
            is_passed = is;
            unanswered = ap (is_answered face) on.2 ∙ none_to face on.0 (sent_on whole i.hop_limit) ∙ on.1;
            not_nacked = ap is_nacked on.2 ∙ none_nacked on.0 on_text other;
            is_key = refl;
            is_record = refl;
          },
          on,
        )
