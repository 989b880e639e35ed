-- The kind of an event and the verdict on the event determine whether the event is journalled.
use Rattle.std.proofs.Common.{◌≡◌, ℕ, Bool, true, false, List, [], ◌∷◌, refl, ap, ◌∙◌, Result, Ok, Err}
use Rattle.std.specs.Prelude.{Option, Some, None, max, nat_le, length, not, ◌==◌, ◌&&◌, if◌then◌else◌}
use Rattle.ndn_tlv.specs.Element.{Field}
use Rattle.ndn_packets.specs.FrameReading.{frame_at, token_at}
use Rattle.ndn_packets.specs.Key.{PlainKey, key_of}
use Rattle.ndn_packets.specs.Packet.{PlainInterest, PlainData, PlainFrame, AnInterest, AData, ANack, Idle}
use Rattle.ndn_packets.specs.declared.fault.PacketFault.{PacketFault}
use Rattle.ndn_packets.specs.declared.types.TheConstants.{DUPLICATE}
use Rattle.info_rules.specs.declared.decision.Decision.{Decision}
use Rattle.info_rules.specs.declared.decision.Decision.TheVariants as decided
use Rattle.pit_fib.specs.declared.face_set.TheConstants.{MAX_FACES}
use Rattle.pit_fib.specs.declared.nacked.Nacked.{Nacked}
use Rattle.pit_fib.specs.declared.nacked.Nacked.TheVariants as nacks
use Rattle.pit_fib.specs.Pit.{loops, moments, nacked_answer}
use Rattle.pit_fib.specs.Records.{InRecords, is_alive}
use Rattle.strategies.specs.declared.strategy.Choice.{Choice}
use Rattle.strategies.specs.declared.strategy.Choice.TheVariants as choices
use Rattle.mgmt_core.specs.Writing.{segment_at}
use Rattle.repo_core.specs.Objects.{served}
use Rattle.forwarder.specs.Event.{PlainEvent, Packet, FaceUp, FaceDown, Tick, NewRules, Token, moment, nacked_back, to_each}
use Rattle.forwarder.specs.OpenFaces.{is_open}
use Rattle.forwarder.specs.Verdict.{Answer, Verdict, Passed, Allowed, DataAllowed, Denied, NoRule, Dropped, IfTrueElse, BadFace, FaceOpen, FacesFull, Loop, NoFace, NoSegment, PitFull, Scope as OutOfScope, dropped, passed}
use Rattle.forwarder.specs.Policy.{Policy, at_moment}
use Rattle.forwarder.specs.Request.{Request, Refused, ForList, ForTables, ForRepository, ForData, is_command, is_out_of_scope, request_of}
use Rattle.forwarder.specs.NextHops.{ask_from, choice_for, sent_on}
use Rattle.forwarder.specs.Deciding.{IsDecidedAs}
use Rattle.forwarder.specs.Commands.{command_answer}
use Rattle.forwarder.specs.Datasets.{is_present, dataset_text, segment_answer, segment_name}
use Rattle.forwarder.specs.Replies.{Seen, Replies, RepliesByDecision, RepliesForData, RepliesToCommand, RepliesToData, RepliesToNack, RepliesToPacket, RepliesToRequest, by_content_store, by_strategy, nack_answer, by_repository}
use Rattle.forwarder.specs.Effects.{decided_packet, packet_to_decide}
use Rattle.forwarder.specs.Node.{NodeState, IsStep, seen_in}
use Rattle.forwarder.specs.Runs.{Run, Then, Stands}
use Rattle.journal.specs.Journal.{IsChosen, IsJournalOf, IsJournalled, is_journalled_as, with_event, with_moment}
use Rattle.journal.specs.Journalled.{is_journalled_by}

-- ---- verdicts that allow no packet

abbrev allows : Verdict → Bool
allows Passed = false
allows (Allowed rule status) = true
allows (DataAllowed rule stored) = true
allows (Denied kind rule reason) = false
allows (NoRule kind) = false
allows (Dropped reason) = false

abbrev Quiet : Answer → Type 0
Quiet answer = allows answer.verdict ≡ false

quiet_is : (answer other : Answer) → answer ≡ other → Quiet other → Quiet answer
quiet_is answer other e q = ap (λ (a : Answer). allows a.verdict) e ∙ q

quiet_list : (present : Bool) (face : ℕ) (token : Token) (name : List Field) (part : Option (List ℕ × ℕ)) → Quiet (if present then segment_answer face token name part else dropped NoSegment)
quiet_list true face token name None = refl
quiet_list true face token name (Some part) = refl
quiet_list false face token name part = refl

quiet_on : (seen : Seen) (key : PlainKey) (whole : List ℕ) (i : PlainInterest) (face : ℕ) (token : Token) (choice : Choice) → Quiet (by_strategy seen key whole i face token choice)
quiet_on seen key whole i face token choices.NoRoute = refl
quiet_on seen key whole i face token (choices.Send faces) = by_full (not (is_alive (seen.records key)) && seen.is_full)
  where
    by_full : (b : Bool) → Quiet (if b then dropped PitFull else passed (to_each faces (sent_on whole i.hop_limit)))
    by_full true = refl
    by_full false = refl

quiet_stored : (seen : Seen) (face : ℕ) (token : Token) (whole : List ℕ) (i : PlainInterest) (object : Option (List ℕ)) → Quiet (by_repository seen face token whole i object)
quiet_stored seen face token whole i (Some octets) = refl
quiet_stored seen face token whole i None =
    quiet_on seen (key_of i) whole i face token (choice_for seen.policy i.name (moments (seen.records (key_of i)).out_records) (ask_from seen.policy face i))

quiet_cached : (seen : Seen) (face : ℕ) (token : Token) (whole : List ℕ) (i : PlainInterest) (given : Option (List ℕ)) → Quiet (by_content_store seen face token whole i given)
quiet_cached seen face token whole i (Some octets) = refl
quiet_cached seen face token whole i None = quiet_stored seen face token whole i (served i.name i.can_be_prefix seen.policy.held.objects)

quiet_data : (seen : Seen) (face : ℕ) (token : Token) (whole : List ℕ) (i : PlainInterest) (answer : Answer) → RepliesForData seen face token whole i answer → Quiet answer
quiet_data seen face token whole i answer h = by_loop (loops (seen.records (key_of i)) face i.nonce) h
  where
    by_loop : (b : Bool) → IfTrueElse b (answer ≡ record { verdict = Dropped Loop; sends = nacked_back face token DUPLICATE whole ∷ [] }) ((given : Option (List ℕ)) × seen.MayGive (key_of i) given × (answer ≡ by_content_store seen face token whole i given)) → Quiet answer
    by_loop true e = quiet_is answer _ e refl
    by_loop false h = quiet_is answer _ h.2 (quiet_cached seen face token whole i h.0)

quiet_nacked : (asks : InRecords) (n : Nacked) → Quiet (nack_answer asks n)
quiet_nacked asks nacks.NoPending = refl
quiet_nacked asks nacks.Waiting = refl
quiet_nacked asks (nacks.All reason) = refl

quiet_nack : (seen : Seen) (face reason : ℕ) (i : PlainInterest) (answer : Answer) → RepliesToNack seen face reason i answer → Quiet answer
quiet_nack seen face reason i answer h = by_scope (is_out_of_scope seen.policy face i.name) h
  where
    by_scope : (b : Bool) → IfTrueElse b (answer ≡ dropped OutOfScope) (answer ≡ nack_answer (seen.records (key_of i)).in_records (nacked_answer (seen.records (key_of i)) face i.nonce reason)) → Quiet answer
    by_scope true e = quiet_is answer _ e refl
    by_scope false e = quiet_is answer _ e (quiet_nacked (seen.records (key_of i)).in_records (nacked_answer (seen.records (key_of i)) face i.nonce reason))

-- ---- the answer to a packet

module _ (seen : Seen) (answer : Answer) (face now : ℕ) (octets : List ℕ) where
  abbrev Says : Option PlainFrame → Type 0
  Says packet = IsChosen seen.policy (Packet face now octets) (is_journalled_by (Packet face now octets) answer.verdict) packet

  quiet_verdict : (v : Verdict) → allows v ≡ false → is_journalled_by (Packet face now octets) v ≡ false
  quiet_verdict Passed q = refl
  quiet_verdict (Allowed rule status) q = cc q
  quiet_verdict (DataAllowed rule stored) q = cc q
  quiet_verdict (Denied kind rule reason) q = refl
  quiet_verdict (NoRule kind) q = refl
  quiet_verdict (Dropped reason) q = refl

  says_none : Quiet answer → Says None
  says_none q = quiet_verdict answer.verdict q

  said_command : (token : Token) (whole : List ℕ) (i : PlainInterest) (said : Decision) → answer ≡ command_answer seen.policy face token i said
      → is_journalled_by (Packet face now octets) answer.verdict ≡ is_journalled_as seen.policy (AnInterest whole i) said
  said_command token whole i (decided.Allowed rule) e = ap (λ (a : Answer). is_journalled_by (Packet face now octets) a.verdict) e
  said_command token whole i (decided.Denied rule reason) e = ap (λ (a : Answer). is_journalled_by (Packet face now octets) a.verdict) e
  said_command token whole i decided.NoRule e = ap (λ (a : Answer). is_journalled_by (Packet face now octets) a.verdict) e

  says_command : (token : Token) (whole : List ℕ) (i : PlainInterest) → RepliesToCommand seen face token whole i answer → Says (Some (AnInterest whole i))
  says_command token whole i h = (h.0, h.1, said_command token whole i h.0 h.2)

  says_request : (token : Token) (whole : List ℕ) (i : PlainInterest) (r : Request) → RepliesToRequest seen face token whole i answer r
      → Says (if is_command r then Some (AnInterest whole i) else None)
  says_request token whole i (Refused reason) h = says_none (quiet_is answer (dropped reason) h refl)
  says_request token whole i (ForList asked) h = says_none (quiet_is answer _ h (quiet_list (is_present seen.policy asked.version) face token (segment_name asked.kind seen.policy.table_number asked.segment) (segment_at (dataset_text seen.policy asked.kind) asked.segment)))
  says_request token whole i ForTables h = says_command token whole i h
  says_request token whole i ForRepository h = says_command token whole i h
  says_request token whole i ForData h = says_none (quiet_data seen face token whole i answer h)

  said_data : (whole : List ℕ) (d : PlainData) (said : Decision) → RepliesByDecision seen face whole d answer said
      → is_journalled_by (Packet face now octets) answer.verdict ≡ is_journalled_as seen.policy (AData whole d) said
  said_data whole d (decided.Allowed rule) h = ap (is_journalled_by (Packet face now octets)) h.0
  said_data whole d (decided.Denied rule reason) h = ap (λ (a : Answer). is_journalled_by (Packet face now octets) a.verdict) h
  said_data whole d decided.NoRule h = ap (λ (a : Answer). is_journalled_by (Packet face now octets) a.verdict) h

  says_data : (whole : List ℕ) (d : PlainData) → RepliesToData seen face whole d answer
      → Says (if not (is_out_of_scope seen.policy face d.name) then Some (AData whole d) else None)
  says_data whole d h = by_scope (is_out_of_scope seen.policy face d.name) h
    where
      by_scope : (b : Bool) → IfTrueElse b (answer ≡ dropped OutOfScope) ((said : Decision) × IsDecidedAs seen.policy (AData whole d) said × RepliesByDecision seen face whole d answer said)
          → Says (if not b then Some (AData whole d) else None)
      by_scope true h = says_none (quiet_is answer _ h refl)
      by_scope false h = (h.0, h.1, said_data whole d h.0 h.2)

  says_packet : (token : Token) (read : Result PlainFrame PacketFault) → RepliesToPacket seen face token read answer
      → Says (packet_to_decide seen.policy face read)
  says_packet token (Err fault) h = says_none (quiet_is answer _ h refl)
  says_packet token (Ok (AnInterest whole i)) h = says_request token whole i (request_of seen.policy face i) h
  says_packet token (Ok (AData whole d)) h = says_data whole d h
  says_packet token (Ok (ANack reason whole i)) h = says_none (quiet_nack seen face reason i answer h)
  says_packet token (Ok Idle) h = says_none (quiet_is answer _ h refl)

  says_event : Replies seen (Packet face now octets) answer → Says (decided_packet seen.policy (Packet face now octets))
  says_event h = by_open (is_open face seen.policy.faces) h
    where
      by_open : (b : Bool) → IfTrueElse b (RepliesToPacket seen face (token_at octets) (frame_at octets) answer) (answer ≡ dropped NoFace)
          → Says (if b then packet_to_decide seen.policy face (frame_at octets) else None)
      by_open true h = says_packet (token_at octets) (frame_at octets) h
      by_open false h = says_none (quiet_is answer _ h refl)

-- ---- the answer to any event

opens : (event : PlainEvent) (a b c : Bool) → is_journalled_by event (passed []).verdict ≡ true
    → is_journalled_by event (if a then dropped BadFace else (if b then dropped FaceOpen else (if c then dropped FacesFull else passed []))).verdict
    ≡ (if a then false else (if b then false else (if c then false else true)))
opens event true b c e = refl
opens event false true c e = refl
opens event false false true e = refl
opens event false false false e = e

closes : (event : PlainEvent) (b : Bool) → is_journalled_by event (passed []).verdict ≡ true → is_journalled_by event (if b then passed [] else dropped NoFace).verdict ≡ b
closes event true e = e
closes event false e = refl

by_verdict : (seen : Seen) (event : PlainEvent) (answer : Answer) → Replies seen event answer
    → IsChosen seen.policy event (is_journalled_by event answer.verdict) (decided_packet seen.policy event)
by_verdict seen (Packet face now octets) answer h = says_event seen answer face now octets h
by_verdict seen (FaceUp face scope now) answer h =
    ap (λ (a : Answer). is_journalled_by (FaceUp face scope now) a.verdict) h
    ∙ opens (FaceUp face scope now) (face == 0) (is_open face seen.policy.faces) (nat_le MAX_FACES (length seen.policy.faces)) refl
by_verdict seen (FaceDown face now) answer h =
    ap (λ (a : Answer). is_journalled_by (FaceDown face now) a.verdict) h ∙ closes (FaceDown face now) (is_open face seen.policy.faces) refl
by_verdict seen (Tick now) answer h = ap (λ (a : Answer). is_journalled_by (Tick now) a.verdict) h
by_verdict seen (NewRules rules keys now) answer h = ap (λ (a : Answer). is_journalled_by (NewRules rules keys now) a.verdict) h

pub step_says : (old new : NodeState) (event : PlainEvent) (answer : Answer) → IsStep old event answer new
    → IsJournalled old.policy event (is_journalled_by event answer.verdict)
step_says old new event answer s = by_verdict (seen_in (at_moment old.policy (moment event)) s.waiting old.cache) event answer s.replies

pub step_grows : (first : Policy) (past : Run) (old new : NodeState) (event : PlainEvent) (answer : Answer) (journal : List PlainEvent) → Stands first past old → IsStep old event answer new
    → IsJournalOf first past journal → IsJournalOf first (Then past event answer) (with_event (is_journalled_by event answer.verdict) (with_moment (max old.policy.now (moment event)) event) journal)
step_grows first past old new event answer journal stands step is =
    (old.policy, journal, stands.policy, is, (is_journalled_by event answer.verdict, step_says old new event answer step, refl))
