-- Let a valid run start from a policy with the time 0, and let no key book have two keys of the
-- same name. Then routes, strategies and the repository after the run are the fold of the run.
use Rattle.std.proofs.Common.{◌≡◌, ℕ, Bool, true, false, cond, List, [], refl, sym, ap, subst, ◌∙◌, Result, Ok, Err, inl, inr}
use Rattle.std.specs.Prelude.{Option, Some, None, max, nat_le, not, if◌then◌else◌}
use Rattle.std.specs.FinMap as map
use Rattle.ndn_tlv.specs.Element.{Field}
use Rattle.key_files.specs.KeyFile.{AreApart}
use Rattle.ndn_packets.specs.Answers.{begins_with}
use Rattle.ndn_packets.specs.FrameReading.{frame_at, token_at}
use Rattle.ndn_packets.specs.Key.{PlainKey}
use Rattle.ndn_packets.specs.Packet.{PlainInterest, PlainData, PlainFrame, AnInterest, AData, ANack, Idle}
use Rattle.ndn_packets.specs.declared.fault.PacketFault.{PacketFault}
use Rattle.info_rules.specs.declared.decision.Decision.{Decision}
use Rattle.info_rules.specs.declared.decision.Decision.TheVariants as decided
use Rattle.replay_guard.specs.Freshness.{Recorded}
use Rattle.pit_fib.specs.Fib.{without_face}
use Rattle.pit_fib.specs.declared.pit.TheConstants.{MAX_PENDING}
use Rattle.pit_fib.specs.Records.{Records, records_at}
use Rattle.mgmt_core.specs.Reading.{PlainCommand, command_at}
use Rattle.repo_core.specs.Repo.{after_command}
use Rattle.forwarder.specs.Event.{PlainEvent, Packet, FaceUp, FaceDown, Tick, NewRules, moment}
use Rattle.forwarder.specs.OpenFaces.{is_open, with_face, without_entry}
use Rattle.forwarder.specs.Verdict.{Answer, Verdict, Passed, Allowed, DataAllowed, Denied, NoRule, Dropped, IfTrueElse, NoFace, Scope as OutOfScope, dropped, passed}
use Rattle.forwarder.specs.Policy.{Policy, at_moment, with_next_version}
use Rattle.forwarder.specs.Request.{Request, Refused, ForList, ForTables, ForRepository, ForData, is_command, is_out_of_scope, management, request_of}
use Rattle.forwarder.specs.Deciding.{IsDecidedAs, recorded_of}
use Rattle.forwarder.specs.Commands.{after_request, after_tables, allowed_reply, command_answer, tables_status, with_record}
use Rattle.forwarder.specs.Replies.{Seen, Replies, RepliesByDecision, RepliesToPacket, RepliesToRequest}
use Rattle.forwarder.specs.Effects.{IsAfter, IsEffect, after_decision, can_open, decided_packet, face_in, packet_to_decide, undecided_effect}
use Rattle.forwarder.specs.Outcome.{Outcome, Nothing, CommandAllowed, closing_outcome, outcome_of, packet_outcome, read_outcome}
use Rattle.forwarder.specs.Runs.{Run, Start, Then, IsPolicyOf, IsRun, KeysAreApart, MayCache, now_of, seen_after}
use Rattle.forwarder.specs.Fold.{Contents, after_outcome, at_time, contents_of, folded, with_command}
use Rattle.forwarder.proofs.Histories.{one_history, one_policy}
use Rattle.forwarder.proofs.LaterMoments.{policy_apart, policy_now}
use Rattle.forwarder.proofs.OneEffect.{one_said}
use Rattle.forwarder.proofs.Requests.{by_request}
use Rattle.forwarder.proofs.RunSteps.{seen_with}
use Rattle.forwarder.proofs.Uses.{dropped_outcome}
use Rattle.forwarder.proofs.VerdictsNamed.{Quiet, quiet_data, quiet_list}

record_contents : (p : Policy) (r : Option Recorded) → contents_of (with_record p r) ≡ contents_of p
record_contents p None = refl
record_contents p (Some r) = refl

tables_contents : (p : Policy) (from : ℕ) (r : Result PlainCommand ℕ) → contents_of (after_tables p from r) ≡ with_command r from (tables_status p from r) p.now (contents_of p)
tables_contents p from (Err status) = refl
tables_contents p from (Ok c) = refl

-- ---- one event, once time has advanced to its moment

module _ (q new : Policy) (records : PlainKey → Records) (full : Bool) (G : PlainKey → Option (List ℕ) → Type 0) (apart : AreApart q.keys) (answer : Answer) where
  abbrev seen : Seen
  seen = seen_with q records full G

  abbrev after : Outcome → Contents
  after outcome = after_outcome q.repo q.now outcome (contents_of q)

  abbrev Folds : Outcome → Type 0
  Folds outcome = contents_of new ≡ after outcome

  -- ---- outcomes that change nothing

  unchanged : (o : Outcome) → new ≡ q → after o ≡ contents_of q → Folds o
  unchanged o e idle = ap contents_of e ∙ sym idle

  nack_idle : (from reason : ℕ) (whole : List ℕ) (i : PlainInterest) (v : Verdict) → after (packet_outcome from (ANack reason whole i) v) ≡ contents_of q
  nack_idle from reason whole i Passed = refl
  nack_idle from reason whole i (Allowed rule status) = refl
  nack_idle from reason whole i (DataAllowed rule stored) = refl
  nack_idle from reason whole i (Denied kind rule why) = refl
  nack_idle from reason whole i (NoRule kind) = refl
  nack_idle from reason whole i (Dropped why) = refl

  empty_idle : (from : ℕ) (v : Verdict) → after (packet_outcome from Idle v) ≡ contents_of q
  empty_idle from Passed = refl
  empty_idle from (Allowed rule status) = refl
  empty_idle from (DataAllowed rule stored) = refl
  empty_idle from (Denied kind rule why) = refl
  empty_idle from (NoRule kind) = refl
  empty_idle from (Dropped why) = refl

  -- ---- Interests

  module _ (from now : ℕ) (octets whole : List ℕ) (i : PlainInterest) where
    abbrev outcome : Verdict → Outcome
    outcome v = packet_outcome from (AnInterest whole i) v

    quiet_idle : Quiet answer → after (outcome answer.verdict) ≡ contents_of q
    quiet_idle (inl passed) = ap (λ (v : Verdict). after (outcome v)) passed
    quiet_idle (inr (reason, drop)) = ap (λ (v : Verdict). after (outcome v)) drop

    on_tables : begins_with management i.name ≡ true → contents_of (after_request q from i ForTables) ≡ after (CommandAllowed from i (allowed_reply q from i ForTables).status)
    on_tables begins =
        tables_contents q from (command_at i.name)
        ∙ ap (λ (b : Bool). if b then with_command (command_at i.name) from (tables_status q from (command_at i.name)) q.now (contents_of q)
        else record (contents_of q) { held = after_command q.repo i.name q.now q.held }) (sym begins)

    on_repository : begins_with management i.name ≡ false → contents_of (after_request q from i ForRepository) ≡ after (CommandAllowed from i (allowed_reply q from i ForRepository).status)
    on_repository other =
        ap (λ (b : Bool). if b then with_command (command_at i.name) from (allowed_reply q from i ForRepository).status q.now (contents_of q)
        else record (contents_of q) { held = after_command q.repo i.name q.now q.held }) (sym other)

    commanded : (r : Request) → request_of q from i ≡ r → contents_of (after_request q from i r) ≡ after (CommandAllowed from i (allowed_reply q from i r).status) → (said : Decision)
        → answer ≡ command_answer q from (token_at octets) i said → new ≡ after_decision q from (AnInterest whole i) said → Folds (outcome answer.verdict)
    commanded r is effect (decided.Allowed rule) a e =
        ap contents_of e ∙ record_contents (after_request q from i (request_of q from i)) (recorded_of i)
        ∙ ap (λ (x : Request). contents_of (after_request q from i x)) is ∙ effect
        ∙ ap (λ (x : Request). after (CommandAllowed from i (allowed_reply q from i x).status)) (sym is)
        ∙ ap (λ (x : Answer). after (outcome x.verdict)) (sym a)
    commanded r is effect (decided.Denied rule reason) a e = unchanged (outcome answer.verdict) e (ap (λ (x : Answer). after (outcome x.verdict)) a)
    commanded r is effect decided.NoRule a e = unchanged (outcome answer.verdict) e (ap (λ (x : Answer). after (outcome x.verdict)) a)

    abbrev FoldsRequest : Request → Type 0
    FoldsRequest r =
        request_of q from i ≡ r → RepliesToRequest seen from (token_at octets) whole i answer r
        → IsEffect q (Packet from now octets) new (cond (is_command r) (Some (AnInterest whole i)) None) → Folds (outcome answer.verdict)

    one : (said : Decision) → IsDecidedAs q (AnInterest whole i) said → IsEffect q (Packet from now octets) new (Some (AnInterest whole i)) → new ≡ after_decision q from (AnInterest whole i) said
    one said s e = e.2 ∙ ap (λ (d : Decision). after_decision q from (AnInterest whole i) d) (one_said q (AnInterest whole i) e.0 said apart e.1 s)

    interest_folds : RepliesToRequest seen from (token_at octets) whole i answer (request_of q from i) → IsEffect q (Packet from now octets) new (packet_to_decide q from (Ok (AnInterest whole i)))
        → Folds (outcome answer.verdict)
    interest_folds replies effect =
        by_request q from i FoldsRequest
        (λ reason is h e. unchanged (outcome answer.verdict) e (ap (λ (x : Answer). after (outcome x.verdict)) h))
        (λ asked listed is h e. unchanged (outcome answer.verdict) e (quiet_idle (subst Quiet (sym h) (quiet_list q from (token_at octets) asked))))
        (λ begins is h e. commanded ForTables is (on_tables begins) h.0 h.2 (one h.0 h.1 e))
        (λ other is h e. commanded ForRepository is (on_repository other) h.0 h.2 (one h.0 h.1 e))
        (λ other is h e. unchanged (outcome answer.verdict) e (quiet_idle (quiet_data seen from (token_at octets) whole i answer h)))
        refl replies effect

  -- ---- Data

  data_folds : (from : ℕ) (whole : List ℕ) (d : PlainData) (said : Decision) → RepliesByDecision seen from whole d answer said → new ≡ after_decision q from (AData whole d) said
      → Folds (packet_outcome from (AData whole d) answer.verdict)
  data_folds from whole d (decided.Allowed rule) h e = ap contents_of e ∙ ap (λ (v : Verdict). after (packet_outcome from (AData whole d) v)) (sym h.0)
  data_folds from whole d (decided.Denied rule reason) h e =
      unchanged (packet_outcome from (AData whole d) answer.verdict) e (ap (λ (x : Answer). after (packet_outcome from (AData whole d) x.verdict)) h)
  data_folds from whole d decided.NoRule h e =
      unchanged (packet_outcome from (AData whole d) answer.verdict) e (ap (λ (x : Answer). after (packet_outcome from (AData whole d) x.verdict)) h)

  -- ---- all events

  packet_folds : (from now : ℕ) (octets : List ℕ) (read : Result PlainFrame PacketFault) → RepliesToPacket seen from (token_at octets) read answer
      → IsEffect q (Packet from now octets) new (packet_to_decide q from read) → Folds (read_outcome from read answer.verdict)
  packet_folds from now octets (Err fault) h e = unchanged Nothing e refl
  packet_folds from now octets (Ok (AnInterest whole i)) h e = interest_folds from now octets whole i h e
  packet_folds from now octets (Ok (AData whole d)) h e = by_scope (is_out_of_scope q from d.name) h e
    where
      by_scope : (b : Bool) → IfTrueElse b (answer ≡ dropped OutOfScope) ((said : Decision) × IsDecidedAs q (AData whole d) said × RepliesByDecision seen from whole d answer said)
          → IsEffect q (Packet from now octets) new (cond (not b) (Some (AData whole d)) None) → Folds (packet_outcome from (AData whole d) answer.verdict)
      by_scope true h e =
          unchanged (packet_outcome from (AData whole d) answer.verdict) e (ap (λ (x : Answer). after (packet_outcome from (AData whole d) x.verdict)) h)
      by_scope false h e =
          data_folds from whole d h.0 h.2
          (e.2 ∙ ap (λ (x : Decision). after_decision q from (AData whole d) x) (one_said q (AData whole d) e.0 h.0 apart e.1 h.1))
  packet_folds from now octets (Ok (ANack reason whole i)) h e = unchanged (packet_outcome from (ANack reason whole i) answer.verdict) e (nack_idle from reason whole i answer.verdict)
  packet_folds from now octets (Ok Idle) h e = unchanged (packet_outcome from Idle answer.verdict) e (empty_idle from answer.verdict)

  pub event_folds : (event : PlainEvent) → Replies seen event answer → IsEffect q event new (decided_packet q event) → Folds (outcome_of event answer.verdict)
  event_folds (Packet from now octets) h e = by_open (is_open from q.faces) h e
    where
      by_open : (b : Bool) → IfTrueElse b (RepliesToPacket seen from (token_at octets) (frame_at octets) answer) (answer ≡ dropped NoFace)
          → IsEffect q (Packet from now octets) new (cond b (packet_to_decide q from (frame_at octets)) None) → Folds (read_outcome from (frame_at octets) answer.verdict)
      by_open true h e = packet_folds from now octets (frame_at octets) h e
      by_open false h e =
          unchanged (read_outcome from (frame_at octets) answer.verdict) e
          (ap (λ (x : Answer). after (read_outcome from (frame_at octets) x.verdict)) h ∙ ap after (dropped_outcome from (frame_at octets) NoFace))
  event_folds (FaceUp opened scope now) h e = by_open (can_open q opened) e
    where
      by_open : (b : Bool) → new ≡ cond b (record q { faces = with_face opened scope q.faces }) q → contents_of new ≡ contents_of q
      by_open true e = ap contents_of e
      by_open false e = ap contents_of e
  event_folds (FaceDown down now) h e = by_open (is_open down q.faces) h e
    where
      by_open : (b : Bool) → answer ≡ cond b (passed []) (dropped NoFace)
          → new ≡ cond b (with_next_version (record q { faces = without_entry down q.faces; routes = without_face q.routes down })) q
          → Folds (closing_outcome down answer.verdict)
      by_open true h e = ap contents_of e ∙ ap (λ (x : Answer). after (closing_outcome down x.verdict)) (sym h)
      by_open false h e = ap contents_of e ∙ ap (λ (x : Answer). after (closing_outcome down x.verdict)) (sym h)
  event_folds (Tick now) h e = ap contents_of e
  event_folds (NewRules rules keys now) h e = ap contents_of e

-- ---- the prefix of the repository does not change

record_repo : (p : Policy) (r : Option Recorded) → (with_record p r).repo ≡ p.repo
record_repo p None = refl
record_repo p (Some r) = refl

request_repo : (p : Policy) (face : ℕ) (i : PlainInterest) (r : Request) → (after_request p face i r).repo ≡ p.repo
request_repo p face i (Refused reason) = refl
request_repo p face i (ForList asked) = refl
request_repo p face i ForTables = by_read (command_at i.name)
  where
    by_read : (c : Result PlainCommand ℕ) → (after_tables p face c).repo ≡ p.repo
    by_read (Err status) = refl
    by_read (Ok c) = refl
request_repo p face i ForRepository = refl
request_repo p face i ForData = refl

decision_repo : (p : Policy) (face : ℕ) (packet : PlainFrame) (said : Decision) → (after_decision p face packet said).repo ≡ p.repo
decision_repo p face (AnInterest whole i) (decided.Allowed rule) =
    record_repo (after_request p face i (request_of p face i)) (recorded_of i) ∙ request_repo p face i (request_of p face i)
decision_repo p face (AData whole d) (decided.Allowed rule) = refl
decision_repo p face (ANack reason whole i) (decided.Allowed rule) = refl
decision_repo p face Idle (decided.Allowed rule) = refl
decision_repo p face packet (decided.Denied rule reason) = refl
decision_repo p face packet decided.NoRule = refl

undecided_repo : (p : Policy) (event : PlainEvent) → (undecided_effect p event).repo ≡ p.repo
undecided_repo p (Packet face now octets) = refl
undecided_repo p (FaceUp face scope now) = by_open (can_open p face)
  where
    by_open : (b : Bool) → (if b then record p { faces = with_face face scope p.faces } else p).repo ≡ p.repo
    by_open true = refl
    by_open false = refl
undecided_repo p (FaceDown face now) = by_open (is_open face p.faces)
  where
    by_open : (b : Bool) → (if b then with_next_version (record p { faces = without_entry face p.faces; routes = without_face p.routes face }) else p).repo ≡ p.repo
    by_open true = refl
    by_open false = refl
undecided_repo p (Tick now) = refl
undecided_repo p (NewRules rules keys now) = refl

after_repo : (was new : Policy) (event : PlainEvent) → IsAfter was event new → new.repo ≡ was.repo
after_repo was new event h = by_packet (decided_packet (at_moment was (moment event)) event) h
  where
    by_packet : (packet : Option PlainFrame) → IsEffect (at_moment was (moment event)) event new packet → new.repo ≡ was.repo
    by_packet None e = ap (λ (p : Policy). p.repo) e ∙ undecided_repo (at_moment was (moment event)) event
    by_packet (Some packet) (said, s, e) = ap (λ (p : Policy). p.repo) e ∙ decision_repo (at_moment was (moment event)) (face_in event) packet said

policy_repo : (first p : Policy) (run : Run) → IsPolicyOf first run p → p.repo ≡ first.repo
policy_repo first p Start h = ap (λ (q : Policy). q.repo) h
policy_repo first p (Then before event answer) (was, w, after) = after_repo was p event after ∙ policy_repo first was before w

-- ---- a run of a new node

module _ (first : Policy) (zero : first.now ≡ 0) where
  pub contents_folded : (run : Run) (p : Policy) → KeysAreApart first run → IsRun first run → IsPolicyOf first run p → contents_of p ≡ folded first run
  contents_folded Start p apart is h = ap contents_of h
  contents_folded (Then before event answer) p apart (is, given) (was, w, after) =
      let q = at_moment was (moment event) in
      let o = outcome_of event answer.verdict in
      let now : q.now ≡ max (now_of before) (moment event) = ap (λ (n : ℕ). max n (moment event)) (policy_now first before was zero w) in
      let one : given.was ≡ was = one_policy first given.was was before before apart.0 (one_history before) given.is_policy w in
      let replies = subst (λ (x : Policy). Replies (seen_after before (at_moment x (moment event)) given.waiting) event answer) one given.replies in
      event_folds q p (records_at given.waiting) (nat_le MAX_PENDING (map.len given.waiting)) (MayCache before q.now) (policy_apart first before was apart.0 w) answer event replies after
      ∙ ap (λ (r : List Field). after_outcome r q.now o (contents_of q)) (policy_repo first was before w)
      ∙ ap (λ (c : Contents). after_outcome first.repo q.now o (at_time q.now c)) (contents_folded before was apart.0 is w)
      ∙ ap (λ (n : ℕ). after_outcome first.repo n o (at_time n (folded first before))) now
