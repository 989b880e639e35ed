-- A denial names the rule that denies the packet, or says that no rule applies to the packet.
use Rattle.std.proofs.Common.{◌≡◌, ℕ, Bool, true, false, List, [], refl, ap, subst, Result, Ok, Err, inl, inr}
use Rattle.std.specs.Prelude.{◌⊎◌, Option, Some, None, not, if◌then◌else◌}
use Rattle.ndn_packets.specs.FrameReading.{frame_at, token_at}
use Rattle.ndn_packets.specs.Key.{PlainKey, key_of}
use Rattle.ndn_packets.specs.Packet.{PlainInterest, PlainData, PlainFrame, AnInterest, AData, ANack, Idle}
use Rattle.ndn_packets.specs.declared.fault.PacketFault.{PacketFault}
use Rattle.info_rules.specs.declared.rule.Kind.{Kind}
use Rattle.info_rules.specs.declared.rules.RuleNo.{RuleNo}
use Rattle.info_rules.specs.declared.decision.Reason.{Reason}
use Rattle.info_rules.specs.declared.decision.Decision.{Decision}
use Rattle.info_rules.specs.declared.decision.Decision.TheVariants as decided
use Rattle.info_rules.specs.declared.rule.Kind.TheVariants as kinds
use Rattle.pit_fib.specs.Pit.{nacked_answer}
use Rattle.pit_fib.specs.Records.{Records}
use Rattle.forwarder.specs.Event.{PlainEvent, Packet, FaceUp, FaceDown, Tick, NewRules, Token, token_in}
use Rattle.forwarder.specs.OpenFaces.{is_open}
use Rattle.forwarder.specs.Verdict.{Answer, Verdict, Denied, NoRule, IfTrueElse, Malformed, NoFace, Idle as IsIdle, Scope as OutOfScope, dropped, passed}
use Rattle.forwarder.specs.Policy.{Policy}
use Rattle.forwarder.specs.Request.{Request, Refused, ForList, ForTables, ForRepository, ForData, is_command, is_out_of_scope, request_of}
use Rattle.forwarder.specs.Deciding.{IsDecidedAs}
use Rattle.forwarder.specs.Commands.{IsDenial, command_answer}
use Rattle.forwarder.specs.Datasets.{list_answer}
use Rattle.forwarder.specs.Replies.{Seen, Replies, RepliesByDecision, RepliesToData, RepliesToNack, RepliesToPacket, RepliesToRequest, nack_answer, opening_answer}
use Rattle.forwarder.specs.Effects.{decided_packet, face_in, packet_to_decide}
use Rattle.forwarder.specs.Runs.{is_denied}
use Rattle.forwarder.proofs.RunSteps.{seen_with}
use Rattle.forwarder.proofs.Denials.{Mild, mild_closing, mild_data, mild_is, mild_list, mild_nack, mild_opening}

-- The verdict agrees with the decision. If a rule allows the packet, the verdict is no denial. If a
-- rule denies the packet, the verdict states the rule and the reason. If no rule applies, the
-- verdict is `NoRule`.
abbrev Tells : Decision → Verdict → Type 0
Tells (decided.Allowed n) v = is_denied v ≡ false
Tells (decided.Denied n reason) v = (kind : Kind) × (v ≡ Denied kind n.0 reason)
Tells decided.NoRule v = (kind : Kind) × (v ≡ NoRule kind)

module _ (p : Policy) (records : PlainKey → Records) (full : Bool) (G : PlainKey → Option (List ℕ) → Type 0) (answer : Answer) where
  abbrev seen : Seen
  seen = seen_with p records full G

  -- the answer is not a denial, or it states the decision on the packet `asked`
  abbrev ToldOf : ℕ → Token → Option PlainFrame → Type 0
  ToldOf face token asked = Mild answer ⊎ ((packet : PlainFrame) × (said : Decision) × (asked ≡ Some packet) × IsDecidedAs p packet said × Tells said answer.verdict × (Mild answer ⊎ IsDenial p face token packet said answer))

  command_tells : (face : ℕ) (token : Token) (whole : List ℕ) (i : PlainInterest) (said : Decision) → answer ≡ command_answer p face token i said → Tells said answer.verdict
  command_tells face token whole i (decided.Allowed n) e = ap (λ (a : Answer). is_denied a.verdict) e
  command_tells face token whole i (decided.Denied n reason) e = (kinds.Interest, ap (λ (a : Answer). a.verdict) e)
  command_tells face token whole i decided.NoRule e = (kinds.Interest, ap (λ (a : Answer). a.verdict) e)

  command_denies : (face : ℕ) (token : Token) (whole : List ℕ) (i : PlainInterest) (said : Decision) → answer ≡ command_answer p face token i said → Mild answer ⊎ IsDenial p face token (AnInterest whole i) said answer
  command_denies face token whole i (decided.Allowed n) e = inl (ap (λ (a : Answer). is_denied a.verdict) e)
  command_denies face token whole i (decided.Denied n reason) e = inr e
  command_denies face token whole i decided.NoRule e = inr e

  request_tells : (face : ℕ) (token : Token) (whole : List ℕ) (i : PlainInterest) (r : Request) → RepliesToRequest seen face token whole i answer r
      → ToldOf face token (if is_command r then Some (AnInterest whole i) else None)
  request_tells face token whole i (Refused reason) h = inl (mild_is answer (dropped reason) h refl)
  request_tells face token whole i (ForList asked) h = inl (mild_is answer (list_answer p face token asked) h (mild_list p face token asked))
  request_tells face token whole i ForTables h = inr (AnInterest whole i, h.0, refl, h.1, command_tells face token whole i h.0 h.2, command_denies face token whole i h.0 h.2)
  request_tells face token whole i ForRepository h = inr (AnInterest whole i, h.0, refl, h.1, command_tells face token whole i h.0 h.2, command_denies face token whole i h.0 h.2)
  request_tells face token whole i ForData h = inl (mild_data seen face token whole i answer h)

  said_tells : (face : ℕ) (whole : List ℕ) (d : PlainData) (said : Decision) → RepliesByDecision seen face whole d answer said → Tells said answer.verdict
  said_tells face whole d (decided.Allowed n) h = ap is_denied h.0
  said_tells face whole d (decided.Denied n reason) h = (kinds.Data, ap (λ (a : Answer). a.verdict) h)
  said_tells face whole d decided.NoRule h = (kinds.Data, ap (λ (a : Answer). a.verdict) h)

  said_denies : (face : ℕ) (token : Token) (whole : List ℕ) (d : PlainData) (said : Decision) → RepliesByDecision seen face whole d answer said → Mild answer ⊎ IsDenial p face token (AData whole d) said answer
  said_denies face token whole d (decided.Allowed n) h = inl (ap is_denied h.0)
  said_denies face token whole d (decided.Denied n reason) h = inr h
  said_denies face token whole d decided.NoRule h = inr h

  data_tells : (face : ℕ) (token : Token) (whole : List ℕ) (d : PlainData) → RepliesToData seen face whole d answer → ToldOf face token (if not (is_out_of_scope p face d.name) then Some (AData whole d) else None)
  data_tells face token whole d h = by_scope (is_out_of_scope p face d.name) h
    where
      by_scope : (b : Bool) → IfTrueElse b (answer ≡ dropped OutOfScope) ((said : Decision) × IsDecidedAs p (AData whole d) said × RepliesByDecision seen face whole d answer said)
          → ToldOf face token (if not b then Some (AData whole d) else None)
      by_scope true e = inl (mild_is answer (dropped OutOfScope) e refl)
      by_scope false h = inr (AData whole d, h.0, refl, h.1, said_tells face whole d h.0 h.2, said_denies face token whole d h.0 h.2)

  nack_tells : (face : ℕ) (token : Token) (reason : ℕ) (i : PlainInterest) → RepliesToNack seen face reason i answer → ToldOf face token None
  nack_tells face token reason i h = by_scope (is_out_of_scope p face i.name) h
    where
      by_scope : (b : Bool) → IfTrueElse b (answer ≡ dropped OutOfScope) (answer ≡ nack_answer (records (key_of i)).in_records (nacked_answer (records (key_of i)) face i.nonce reason)) → ToldOf face token None
      by_scope true e = inl (mild_is answer (dropped OutOfScope) e refl)
      by_scope false e =
          inl (mild_is answer _ e (mild_nack (records (key_of i)).in_records (nacked_answer (records (key_of i)) face i.nonce reason)))

  packet_tells : (face : ℕ) (token : Token) (read : Result PlainFrame PacketFault) → RepliesToPacket seen face token read answer → ToldOf face token (packet_to_decide p face read)
  packet_tells face token (Err fault) h = inl (mild_is answer (dropped (Malformed fault)) h refl)
  packet_tells face token (Ok (AnInterest whole i)) h = request_tells face token whole i (request_of p face i) h
  packet_tells face token (Ok (AData whole d)) h = data_tells face token whole d h
  packet_tells face token (Ok (ANack reason whole i)) h = nack_tells face token reason i h
  packet_tells face token (Ok Idle) h = inl (mild_is answer (dropped IsIdle) h refl)

  event_tells : (event : PlainEvent) → Replies seen event answer → ToldOf (face_in event) (token_in event) (decided_packet p event)
  event_tells (Packet face now octets) h = by_open (is_open face p.faces) h
    where
      by_open : (b : Bool) → IfTrueElse b (RepliesToPacket seen face (token_at octets) (frame_at octets) answer) (answer ≡ dropped NoFace) → ToldOf face (token_at octets) (if b then packet_to_decide p face (frame_at octets) else None)
      by_open true h = packet_tells face (token_at octets) (frame_at octets) h
      by_open false e = inl (mild_is answer (dropped NoFace) e refl)
  event_tells (FaceUp face scope now) h = inl (mild_is answer (opening_answer p face) h (mild_opening p face))
  event_tells (FaceDown face now) h = inl (mild_is answer (if is_open face p.faces then passed [] else dropped NoFace) h (mild_closing (is_open face p.faces)))
  event_tells (Tick now) h = inl (mild_is answer (passed []) h refl)
  event_tells (NewRules rules keys now) h = inl (mild_is answer (passed []) h refl)

  pub denial_named : (event : PlainEvent) (kind : Kind) (rule : ℕ) (reason : Reason) → Replies seen event answer → answer.verdict ≡ Denied kind rule reason
      → (packet : PlainFrame) × (n : RuleNo) × (decided_packet p event ≡ Some packet) × IsDecidedAs p packet (decided.Denied n reason) × (rule ≡ n.0) × IsDenial p (face_in event) (token_in event) packet (decided.Denied n reason) answer
  denial_named event kind rule reason h v = by_told (event_tells event h)
    where
      Named : Type 0
      Named = (packet : PlainFrame) × (n : RuleNo) × (decided_packet p event ≡ Some packet) × IsDecidedAs p packet (decided.Denied n reason) × (rule ≡ n.0) × IsDenial p (face_in event) (token_in event) packet (decided.Denied n reason) answer

      never : Mild answer → Named
      never m = (let e : is_denied answer.verdict ≡ true = ap is_denied v in cc (e, m))

      by_told : ToldOf (face_in event) (token_in event) (decided_packet p event) → Named
      by_told (inl m) = never m
      by_told (inr (packet, decided.Allowed n, d, s, t, k)) = never t
      by_told (inr (packet, decided.Denied n why, d, s, t, inl m)) = never m
      by_told (inr (packet, decided.Denied n why, d, s, (kind', t), inr k)) =
          let same : why ≡ reason = cc (t, v) in
          let number : rule ≡ n.0 = cc (t, v) in (
            packet,
            n,
            d,
            subst (λ (r : Reason). IsDecidedAs p packet (decided.Denied n r)) same s,
            number,
            subst (λ (r : Reason). IsDenial p (face_in event) (token_in event) packet (decided.Denied n r) answer) same k,
          )
      by_told (inr (packet, decided.NoRule, d, s, (kind', t), k)) = cc (t, v)

  pub no_rule_named : (event : PlainEvent) (kind : Kind) → Replies seen event answer → answer.verdict ≡ NoRule kind
      → (packet : PlainFrame) × (decided_packet p event ≡ Some packet) × IsDecidedAs p packet decided.NoRule × IsDenial p (face_in event) (token_in event) packet decided.NoRule answer
  no_rule_named event kind h v = by_told (event_tells event h)
    where
      Named : Type 0
      Named = (packet : PlainFrame) × (decided_packet p event ≡ Some packet) × IsDecidedAs p packet decided.NoRule × IsDenial p (face_in event) (token_in event) packet decided.NoRule answer

      never : Mild answer → Named
      never m = (let e : is_denied answer.verdict ≡ true = ap is_denied v in cc (e, m))

      by_told : ToldOf (face_in event) (token_in event) (decided_packet p event) → Named
      by_told (inl m) = never m
      by_told (inr (packet, decided.Allowed n, d, s, t, k)) = never t
      by_told (inr (packet, decided.Denied n why, d, s, (kind', t), k)) = cc (t, v)
      by_told (inr (packet, decided.NoRule, d, s, t, inl m)) = never m
      by_told (inr (packet, decided.NoRule, d, s, t, inr k)) = (packet, d, s, k)
