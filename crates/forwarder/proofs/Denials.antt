-- If no two keys in force have the same name, a denied event changes nothing in the policy, except
-- that time advances to the event's moment.
use Rattle.std.proofs.Common.{◌≡◌, ℕ, Bool, true, false, List, [], ◌∷◌, refl, sym, ap, subst, ◌∙◌, Result, Ok, Err}
use Rattle.std.specs.Prelude.{Option, Some, None, nat_le, length, not, ◌==◌, ◌&&◌, if◌then◌else◌}
use Rattle.key_files.specs.KeyFile.{AreApart}
use Rattle.ndn_packets.specs.FrameReading.{frame_at, token_at}
use Rattle.ndn_packets.specs.Key.{PlainKey, key_of}
use Rattle.ndn_packets.specs.Packet.{PlainInterest, PlainData, PlainFrame, AnInterest, AData, ANack, Idle}
use Rattle.ndn_packets.specs.declared.fault.PacketFault.{PacketFault}
use Rattle.ndn_packets.specs.declared.types.TheConstants.{DUPLICATE}
use Rattle.info_rules.specs.declared.decision.Decision.{Decision}
use Rattle.info_rules.specs.declared.decision.Decision.TheVariants as decided
use Rattle.pit_fib.specs.declared.nacked.Nacked.{Nacked}
use Rattle.pit_fib.specs.declared.nacked.Nacked.TheVariants as nacks
use Rattle.pit_fib.specs.Pit.{loops, moments}
use Rattle.pit_fib.specs.Records.{InRecords, Records, is_alive}
use Rattle.strategies.specs.declared.strategy.Choice.{Choice}
use Rattle.strategies.specs.declared.strategy.Choice.TheVariants as choices
use Rattle.mgmt_core.specs.Writing.{segment_at}
use Rattle.repo_core.specs.Objects.{served}
use Rattle.pit_fib.specs.declared.face_set.TheConstants.{MAX_FACES}
use Rattle.forwarder.specs.Event.{PlainEvent, Packet, FaceUp, FaceDown, Tick, NewRules, Token, nacked_back}
use Rattle.forwarder.specs.OpenFaces.{is_open}
use Rattle.forwarder.specs.Event.{to_each}
use Rattle.forwarder.specs.Verdict.{Answer, Dropped, IfTrueElse, BadFace, FaceOpen, FacesFull, Loop, NoFace, NoSegment, PitFull, Scope as OutOfScope, dropped, passed}
use Rattle.forwarder.specs.Policy.{Policy}
use Rattle.forwarder.specs.Request.{ListAsked, Request, Refused, ForList, ForTables, ForRepository, ForData, is_command, is_out_of_scope, request_of}
use Rattle.forwarder.specs.NextHops.{ask_from, choice_for, sent_on}
use Rattle.forwarder.specs.Deciding.{IsDecidedAs}
use Rattle.forwarder.specs.Commands.{command_answer}
use Rattle.forwarder.specs.Datasets.{is_present, list_answer, dataset_text, segment_answer, segment_name}
use Rattle.forwarder.specs.Replies.{Seen, Replies, RepliesByDecision, RepliesForData, RepliesToData, RepliesToPacket, RepliesToRequest, by_content_store, by_strategy, nack_answer, opening_answer, by_repository}
use Rattle.forwarder.specs.Effects.{IsEffect, after_decision, decided_packet, packet_to_decide}
use Rattle.forwarder.specs.Runs.{is_denied}
use Rattle.forwarder.proofs.OneEffect.{one_said}
use Rattle.forwarder.proofs.RunSteps.{seen_with}

-- ---- which answers are not denials

abbrev pub Mild : Answer → Type 0
Mild answer = is_denied answer.verdict ≡ false

pub mild_is : (answer other : Answer) → answer ≡ other → Mild other → Mild answer
mild_is answer other e m = ap (λ (a : Answer). is_denied a.verdict) e ∙ m

pub mild_list : (p : Policy) (face : ℕ) (token : Token) (asked : ListAsked) → Mild (list_answer p face token asked)
mild_list p face token asked = by_version (is_present p asked.version)
  where
    by_part : (part : Option (List ℕ × ℕ)) → Mild (segment_answer face token (segment_name asked.kind p.table_number asked.segment) part)
    by_part None = refl
    by_part (Some part) = refl

    by_version : (b : Bool)
        → Mild (if b then segment_answer face token (segment_name asked.kind p.table_number asked.segment) (segment_at (dataset_text p asked.kind) asked.segment) else dropped NoSegment)
    by_version true = by_part (segment_at (dataset_text p asked.kind) asked.segment)
    by_version false = refl

mild_forwarded : (seen : Seen) (key : PlainKey) (whole : List ℕ) (i : PlainInterest) (face : ℕ) (token : Token) (choice : Choice) → Mild (by_strategy seen key whole i face token choice)
mild_forwarded seen key whole i face token choices.NoRoute = refl
mild_forwarded seen key whole i face token (choices.Send faces) = by_full (not (is_alive (seen.records key)) && seen.is_full)
  where
    by_full : (b : Bool) → Mild (if b then dropped PitFull else passed (to_each faces (sent_on whole i.hop_limit)))
    by_full true = refl
    by_full false = refl

mild_unserved : (seen : Seen) (face : ℕ) (token : Token) (whole : List ℕ) (i : PlainInterest) (object : Option (List ℕ)) → Mild (by_repository seen face token whole i object)
mild_unserved seen face token whole i (Some octets) = refl
mild_unserved seen face token whole i None =
    mild_forwarded seen (key_of i) whole i face token (choice_for seen.policy i.name (moments (seen.records (key_of i)).out_records) (ask_from seen.policy face i))

mild_cache : (seen : Seen) (face : ℕ) (token : Token) (whole : List ℕ) (i : PlainInterest) (given : Option (List ℕ)) → Mild (by_content_store seen face token whole i given)
mild_cache seen face token whole i (Some octets) = refl
mild_cache seen face token whole i None = mild_unserved seen face token whole i (served i.name i.can_be_prefix seen.policy.held.objects)

pub mild_data : (seen : Seen) (face : ℕ) (token : Token) (whole : List ℕ) (i : PlainInterest) (answer : Answer) → RepliesForData seen face token whole i answer → Mild answer
mild_data seen face token whole i answer h = by_loop (loops (seen.records (key_of i)) face i.nonce) h
  where
    by_loop : (b : Bool) → IfTrueElse b (answer ≡ record { verdict = Dropped Loop; sends = nacked_back face token DUPLICATE whole ∷ [] }) ((given : Option (List ℕ)) × seen.MayGive (key_of i) given × (answer ≡ by_content_store seen face token whole i given)) → Mild answer
    by_loop true e = mild_is answer _ e refl
    by_loop false h = mild_is answer _ h.2 (mild_cache seen face token whole i h.0)

pub mild_nack : (asks : InRecords) (n : Nacked) → Mild (nack_answer asks n)
mild_nack asks nacks.NoPending = refl
mild_nack asks nacks.Waiting = refl
mild_nack asks (nacks.All reason) = refl

pub mild_opening : (p : Policy) (face : ℕ) → Mild (opening_answer p face)
mild_opening p face = by_zero (face == 0) (is_open face p.faces) (nat_le MAX_FACES (length p.faces))
  where
    by_zero : (a b c : Bool) → Mild (if a then dropped BadFace else (if b then dropped FaceOpen else (if c then dropped FacesFull else passed [])))
    by_zero true b c = refl
    by_zero false true c = refl
    by_zero false false true = refl
    by_zero false false false = refl

pub mild_closing : (b : Bool) → Mild (if b then passed [] else dropped NoFace)
mild_closing true = refl
mild_closing false = refl

-- ---- if no two keys have the same name, a denied event has no effect on the policy

-- the decision `said` on the packet leaves the policy unchanged
abbrev IsIdle : Policy → ℕ → PlainFrame → Decision → Type 0
IsIdle p face packet said = after_decision p face packet said ≡ p

module _ (p : Policy) (records : PlainKey → Records) (full : Bool) (G : PlainKey → Option (List ℕ) → Type 0) (apart : AreApart p.keys) (answer : Answer)
    (denied : is_denied answer.verdict ≡ true) where
  abbrev seen : Seen
  seen = seen_with p records full G

  never : {A : Type 0} → Mild answer → A
  never m = cc (m, denied)

  by_decision : (face : ℕ) (packet : PlainFrame) (said other : Decision) → IsDecidedAs p packet said → IsDecidedAs p packet other → IsIdle p face packet said → IsIdle p face packet other
  by_decision face packet said other h k idle =
      subst (λ (d : Decision). IsIdle p face packet d) (one_said p packet said other apart h k) idle

  command_idle : (face : ℕ) (token : Token) (whole : List ℕ) (i : PlainInterest) (said : Decision) → answer ≡ command_answer p face token i said → IsIdle p face (AnInterest whole i) said
  command_idle face token whole i (decided.Allowed rule) e = never (mild_is answer (command_answer p face token i (decided.Allowed rule)) e refl)
  command_idle face token whole i (decided.Denied rule reason) e = refl
  command_idle face token whole i decided.NoRule e = refl

  data_idle : (face : ℕ) (whole : List ℕ) (d : PlainData) (said : Decision) → RepliesByDecision seen face whole d answer said → IsIdle p face (AData whole d) said
  data_idle face whole d (decided.Allowed rule) h = never (ap is_denied h.0)
  data_idle face whole d (decided.Denied rule reason) h = refl
  data_idle face whole d decided.NoRule h = refl

  -- each decision on the packet leaves the policy unchanged
  abbrev Idles : ℕ → Option PlainFrame → Type 0
  Idles face packet = (found : PlainFrame) (said : Decision) → packet ≡ Some found → IsDecidedAs p found said → IsIdle p face found said

  none_idles : (face : ℕ) → Idles face None
  none_idles face found said e h = cc e

  some_idles : (face : ℕ) (packet : PlainFrame) (said : Decision) → IsDecidedAs p packet said → IsIdle p face packet said → Idles face (Some packet)
  some_idles face packet said h idle found other e k =
      let is : packet ≡ found = cc e in
      subst (λ (f : PlainFrame). IsIdle p face f other) is (by_decision face packet said other h (subst (λ (f : PlainFrame). IsDecidedAs p f other) (sym is) k) idle)

  request_idles : (face : ℕ) (token : Token) (whole : List ℕ) (i : PlainInterest) (r : Request) → RepliesToRequest seen face token whole i answer r
      → Idles face (if is_command r then Some (AnInterest whole i) else None)
  request_idles face token whole i (Refused reason) h = none_idles face
  request_idles face token whole i (ForList asked) h = none_idles face
  request_idles face token whole i ForTables h = some_idles face (AnInterest whole i) h.0 h.1 (command_idle face token whole i h.0 h.2)
  request_idles face token whole i ForRepository h = some_idles face (AnInterest whole i) h.0 h.1 (command_idle face token whole i h.0 h.2)
  request_idles face token whole i ForData h = none_idles face

  data_idles : (face : ℕ) (whole : List ℕ) (d : PlainData) → RepliesToData seen face whole d answer → Idles face (if not (is_out_of_scope p face d.name) then Some (AData whole d) else None)
  data_idles face whole d h = by_scope (is_out_of_scope p face d.name) h
    where
      by_scope : (b : Bool) → IfTrueElse b (answer ≡ dropped OutOfScope) ((said : Decision) × IsDecidedAs p (AData whole d) said × RepliesByDecision seen face whole d answer said)
          → Idles face (if not b then Some (AData whole d) else None)
      by_scope true h = none_idles face
      by_scope false h = some_idles face (AData whole d) h.0 h.1 (data_idle face whole d h.0 h.2)

  packet_idles : (face : ℕ) (token : Token) (read : Result PlainFrame PacketFault) → RepliesToPacket seen face token read answer → Idles face (packet_to_decide p face read)
  packet_idles face token (Err fault) h = none_idles face
  packet_idles face token (Ok (AnInterest whole i)) h = request_idles face token whole i (request_of p face i) h
  packet_idles face token (Ok (AData whole d)) h = data_idles face whole d h
  packet_idles face token (Ok (ANack reason whole i)) h = none_idles face
  packet_idles face token (Ok Idle) h = none_idles face

  by_packet : (face now : ℕ) (octets : List ℕ) (packet : Option PlainFrame) → Idles face packet → (new : Policy) → IsEffect p (Packet face now octets) new packet → new ≡ p
  by_packet face now octets None idles new h = h
  by_packet face now octets (Some packet) idles new h = h.2 ∙ idles packet h.0 refl h.1

  pub denied_effect : (event : PlainEvent) → Replies seen event answer → (new : Policy) → IsEffect p event new (decided_packet p event) → new ≡ p
  denied_effect (Packet face now octets) h new e = by_open (is_open face p.faces) h e
    where
      by_open : (b : Bool) → IfTrueElse b (RepliesToPacket seen face (token_at octets) (frame_at octets) answer) (answer ≡ dropped NoFace)
          → IsEffect p (Packet face now octets) new (if b then packet_to_decide p face (frame_at octets) else None) → new ≡ p
      by_open true h e = by_packet face now octets (packet_to_decide p face (frame_at octets)) (packet_idles face (token_at octets) (frame_at octets) h) new e
      by_open false h e = never (mild_is answer (dropped NoFace) h refl)
  denied_effect (FaceUp face scope now) h new e = never (mild_is answer (opening_answer p face) h (mild_opening p face))
  denied_effect (FaceDown face now) h new e =
      never (mild_is answer (if is_open face p.faces then passed [] else dropped NoFace) h (mild_closing (is_open face p.faces)))
  denied_effect (Tick now) h new e = never (mild_is answer (passed []) h refl)
  denied_effect (NewRules rules keys now) h new e = never (mild_is answer (passed []) h refl)
