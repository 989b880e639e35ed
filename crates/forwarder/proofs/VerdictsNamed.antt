-- A valid answer to a packet that rules decide follows from what the first matching rule decides.
-- Any other event is passed or dropped.
use Rattle.std.proofs.Common.{◌≡◌, ℕ, Bool, true, false, List, [], ◌∷◌, refl, sym, subst, Result, Ok, Err, inl, inr}
use Rattle.std.specs.Prelude.{◌⊎◌, Option, Some, None, nat_le, length, not, ◌==◌, ◌&&◌, if◌then◌else◌}
use Rattle.ndn_packets.specs.FrameReading.{frame_at, token_at}
use Rattle.ndn_packets.specs.Key.{PlainKey, key_of}
use Rattle.ndn_packets.specs.Packet.{PlainInterest, PlainData, PlainFrame, AnInterest, AData, ANack, Idle}
use Rattle.ndn_packets.specs.declared.fault.PacketFault.{PacketFault}
use Rattle.ndn_packets.specs.declared.types.TheConstants.{DUPLICATE}
use Rattle.info_rules.specs.declared.decision.Decision.{Decision}
use Rattle.info_rules.specs.declared.decision.Decision.TheVariants as decided
use Rattle.pit_fib.specs.declared.nacked.Nacked.{Nacked}
use Rattle.pit_fib.specs.declared.nacked.Nacked.TheVariants as nacks
use Rattle.pit_fib.specs.Pit.{loops, moments, nacked_answer}
use Rattle.pit_fib.specs.Records.{InRecords, Records, is_alive}
use Rattle.strategies.specs.declared.strategy.Choice.{Choice}
use Rattle.strategies.specs.declared.strategy.Choice.TheVariants as choices
use Rattle.mgmt_core.specs.Writing.{segment_at}
use Rattle.repo_core.specs.Objects.{served}
use Rattle.pit_fib.specs.declared.face_set.TheConstants.{MAX_FACES}
use Rattle.forwarder.specs.Event.{PlainEvent, Packet, FaceUp, FaceDown, Tick, NewRules, Token, nacked_back, to_each, token_in}
use Rattle.forwarder.specs.OpenFaces.{is_open}
use Rattle.forwarder.specs.Verdict.{Answer, Passed, Dropped, DropReason, IfTrueElse, Idle as AnIdle, BadFace, FaceOpen, FacesFull, Loop, Malformed, NoFace, NoPending, NoSegment, PitFull, Scope as OutOfScope, dropped, passed}
use Rattle.forwarder.specs.Policy.{Policy}
use Rattle.forwarder.specs.Request.{ListAsked, Request, Refused, ForList, ForTables, ForRepository, ForData, is_command, is_out_of_scope, request_of}
use Rattle.forwarder.specs.NextHops.{ask_from, choice_for, sent_on}
use Rattle.forwarder.specs.Deciding.{IsDecidedAs}
use Rattle.forwarder.specs.Datasets.{is_present, list_answer, dataset_text, segment_answer, segment_name}
use Rattle.forwarder.specs.Replies.{Seen, Replies, RepliesByDecision, RepliesForData, RepliesToData, RepliesToNack, RepliesToPacket, RepliesToRequest, by_content_store, by_strategy, nack_answer, opening_answer, by_repository}
use Rattle.forwarder.specs.Effects.{decided_packet, face_in, packet_to_decide}
use Rattle.forwarder.specs.Headline.{NamesItsRule}
use Rattle.forwarder.proofs.RunSteps.{seen_with}

-- ---- events that rules do not decide are passed or dropped

abbrev pub Quiet : Answer → Type 0
Quiet answer = (answer.verdict ≡ Passed) ⊎ ((reason : DropReason) × (answer.verdict ≡ Dropped reason))

quiet_is : (answer other : Answer) → answer ≡ other → Quiet other → Quiet answer
quiet_is answer other e q = subst Quiet (sym e) q

drops : (reason : DropReason) → Quiet (dropped reason)
drops reason = inr (reason, refl)

pub quiet_list : (p : Policy) (face : ℕ) (token : Token) (asked : ListAsked) → Quiet (list_answer p face token asked)
quiet_list p face token asked = by_version (is_present p asked.version)
  where
    by_part : (part : Option (List ℕ × ℕ)) → Quiet (segment_answer face token (segment_name asked.kind p.table_number asked.segment) part)
    by_part None = drops NoSegment
    by_part (Some part) = inl refl

    by_version : (b : Bool)
        → Quiet (if b then segment_answer face token (segment_name asked.kind p.table_number asked.segment) (segment_at (dataset_text p asked.kind) asked.segment) else dropped NoSegment)
    by_version true = by_part (segment_at (dataset_text p asked.kind) asked.segment)
    by_version false = drops NoSegment

quiet_forwarded : (seen : Seen) (key : PlainKey) (whole : List ℕ) (i : PlainInterest) (face : ℕ) (token : Token) (choice : Choice) → Quiet (by_strategy seen key whole i face token choice)
quiet_forwarded seen key whole i face token choices.NoRoute = inl refl
quiet_forwarded seen key whole i face token (choices.Send faces) = by_full (not (is_alive (seen.records key)) && seen.is_full)
  where
    by_full : (b : Bool) → Quiet (if b then dropped PitFull else passed (to_each faces (sent_on whole i.hop_limit)))
    by_full true = drops PitFull
    by_full false = inl refl

quiet_unserved : (seen : Seen) (face : ℕ) (token : Token) (whole : List ℕ) (i : PlainInterest) (object : Option (List ℕ)) → Quiet (by_repository seen face token whole i object)
quiet_unserved seen face token whole i (Some octets) = inl refl
quiet_unserved seen face token whole i None =
    quiet_forwarded seen (key_of i) whole i face token (choice_for seen.policy i.name (moments (seen.records (key_of i)).out_records) (ask_from seen.policy face i))

quiet_cache : (seen : Seen) (face : ℕ) (token : Token) (whole : List ℕ) (i : PlainInterest) (given : Option (List ℕ)) → Quiet (by_content_store seen face token whole i given)
quiet_cache seen face token whole i (Some octets) = inl refl
quiet_cache seen face token whole i None = quiet_unserved seen face token whole i (served i.name i.can_be_prefix seen.policy.held.objects)

pub quiet_data : (seen : Seen) (face : ℕ) (token : Token) (whole : List ℕ) (i : PlainInterest) (answer : Answer) → RepliesForData seen face token whole i answer → Quiet answer
quiet_data seen face token whole i answer h = by_loop (loops (seen.records (key_of i)) face i.nonce) h
  where
    by_loop : (b : Bool) → IfTrueElse b (answer ≡ record { verdict = Dropped Loop; sends = nacked_back face token DUPLICATE whole ∷ [] }) ((given : Option (List ℕ)) × seen.MayGive (key_of i) given × (answer ≡ by_content_store seen face token whole i given)) → Quiet answer
    by_loop true e = quiet_is answer _ e (inr (Loop, refl))
    by_loop false h = quiet_is answer _ h.2 (quiet_cache seen face token whole i h.0)

quiet_nacks : (asks : InRecords) (n : Nacked) → Quiet (nack_answer asks n)
quiet_nacks asks nacks.NoPending = drops NoPending
quiet_nacks asks nacks.Waiting = inl refl
quiet_nacks asks (nacks.All reason) = inl refl

quiet_opening : (p : Policy) (face : ℕ) → Quiet (opening_answer p face)
quiet_opening p face = by_tests (face == 0) (is_open face p.faces) (nat_le MAX_FACES (length p.faces))
  where
    by_tests : (a b c : Bool) → Quiet (if a then dropped BadFace else (if b then dropped FaceOpen else (if c then dropped FacesFull else passed [])))
    by_tests true b c = drops BadFace
    by_tests false true c = drops FaceOpen
    by_tests false false true = drops FacesFull
    by_tests false false false = inl refl

quiet_closing : (b : Bool) → Quiet (if b then passed [] else dropped NoFace)
quiet_closing true = inl refl
quiet_closing false = drops NoFace

-- ---- events that rules decide

module _ (p : Policy) (records : PlainKey → Records) (full : Bool) (G : PlainKey → Option (List ℕ) → Type 0) (answer : Answer) where
  abbrev seen : Seen
  seen = seen_with p records full G

  data_named : (face : ℕ) (token : Token) (whole : List ℕ) (d : PlainData) (said : Decision) → IsDecidedAs p (AData whole d) said → RepliesByDecision seen face whole d answer said
      → NamesItsRule p face token (Some (AData whole d)) answer
  data_named face token whole d (decided.Allowed rule) s h = (decided.Allowed rule, s, h.0)
  data_named face token whole d (decided.Denied rule reason) s h = (decided.Denied rule reason, s, h)
  data_named face token whole d decided.NoRule s h = (decided.NoRule, s, h)

  request_named : (face : ℕ) (token : Token) (whole : List ℕ) (i : PlainInterest) (r : Request) → RepliesToRequest seen face token whole i answer r
      → NamesItsRule p face token (if is_command r then Some (AnInterest whole i) else None) answer
  request_named face token whole i (Refused reason) h = quiet_is answer (dropped reason) h (drops reason)
  request_named face token whole i (ForList asked) h = quiet_is answer (list_answer p face token asked) h (quiet_list p face token asked)
  request_named face token whole i ForTables h = h
  request_named face token whole i ForRepository h = h
  request_named face token whole i ForData h = quiet_data seen face token whole i answer h

  offer_named : (face : ℕ) (token : Token) (whole : List ℕ) (d : PlainData) → RepliesToData seen face whole d answer
      → NamesItsRule p face token (if not (is_out_of_scope p face d.name) then Some (AData whole d) else None) answer
  offer_named face token whole d h = by_scope (is_out_of_scope p face d.name) h
    where
      by_scope : (b : Bool) → IfTrueElse b (answer ≡ dropped OutOfScope) ((said : Decision) × IsDecidedAs p (AData whole d) said × RepliesByDecision seen face whole d answer said)
          → NamesItsRule p face token (if not b then Some (AData whole d) else None) answer
      by_scope true h = quiet_is answer (dropped OutOfScope) h (drops OutOfScope)
      by_scope false h = data_named face token whole d h.0 h.1 h.2

  nack_named : (face reason : ℕ) (i : PlainInterest) → RepliesToNack seen face reason i answer → Quiet answer
  nack_named face reason i h = by_scope (is_out_of_scope p face i.name) h
    where
      asked : Records
      asked = records (key_of i)

      by_scope : (b : Bool) → IfTrueElse b (answer ≡ dropped OutOfScope) (answer ≡ nack_answer asked.in_records (nacked_answer asked face i.nonce reason)) → Quiet answer
      by_scope true h = quiet_is answer (dropped OutOfScope) h (drops OutOfScope)
      by_scope false h = quiet_is answer _ h (quiet_nacks asked.in_records (nacked_answer asked face i.nonce reason))

  packet_named : (face : ℕ) (token : Token) (read : Result PlainFrame PacketFault) → RepliesToPacket seen face token read answer → NamesItsRule p face token (packet_to_decide p face read) answer
  packet_named face token (Err fault) h = quiet_is answer (dropped (Malformed fault)) h (drops (Malformed fault))
  packet_named face token (Ok (AnInterest whole i)) h = request_named face token whole i (request_of p face i) h
  packet_named face token (Ok (AData whole d)) h = offer_named face token whole d h
  packet_named face token (Ok (ANack reason whole i)) h = nack_named face reason i h
  packet_named face token (Ok Idle) h = quiet_is answer (dropped AnIdle) h (drops AnIdle)

  pub event_named : (event : PlainEvent) → Replies seen event answer → NamesItsRule p (face_in event) (token_in event) (decided_packet p event) answer
  event_named (Packet face now octets) h = by_open (is_open face p.faces) h
    where
      by_open : (b : Bool) → IfTrueElse b (RepliesToPacket seen face (token_at octets) (frame_at octets) answer) (answer ≡ dropped NoFace)
          → NamesItsRule p face (token_at octets) (if b then packet_to_decide p face (frame_at octets) else None) answer
      by_open true h = packet_named face (token_at octets) (frame_at octets) h
      by_open false h = quiet_is answer (dropped NoFace) h (drops NoFace)
  event_named (FaceUp face scope now) h = quiet_is answer (opening_answer p face) h (quiet_opening p face)
  event_named (FaceDown face now) h = quiet_is answer (if is_open face p.faces then passed [] else dropped NoFace) h (quiet_closing (is_open face p.faces))
  event_named (Tick now) h = quiet_is answer (passed []) h (inl refl)
  event_named (NewRules rules keys now) h = quiet_is answer (passed []) h (inl refl)
