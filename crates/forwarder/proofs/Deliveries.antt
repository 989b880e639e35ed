-- An allowed Data is sent once to each face that waits for it.
use Rattle.std.proofs.Common.{◌≡◌, ℕ, Bool, true, false, List, sym, subst, Result, Ok, Err}
use Rattle.std.specs.Prelude.{Option, Some, None, not, ⊤, if◌then◌else◌}
use Rattle.key_files.specs.KeyFile.{AreApart}
use Rattle.ndn_packets.specs.FrameReading.{frame_at, token_at}
use Rattle.ndn_packets.specs.Key.{PlainKey}
use Rattle.ndn_packets.specs.Packet.{PlainInterest, PlainData, PlainFrame, AnInterest, AData, ANack, Idle}
use Rattle.ndn_packets.specs.declared.fault.PacketFault.{PacketFault}
use Rattle.info_rules.specs.declared.decision.Decision.{Decision}
use Rattle.info_rules.specs.declared.decision.Decision.TheVariants as decided
use Rattle.info_rules.specs.declared.rules.RuleNo.{RuleNo}
use Rattle.pit_fib.specs.Records.{Records}
use Rattle.forwarder.specs.Event.{PlainEvent, Packet, FaceUp, FaceDown, Tick, NewRules}
use Rattle.forwarder.specs.OpenFaces.{is_open}
use Rattle.forwarder.specs.Verdict.{Answer, IfTrueElse, NoFace, Scope as OutOfScope, dropped}
use Rattle.forwarder.specs.Policy.{Policy}
use Rattle.forwarder.specs.Request.{is_command, is_out_of_scope, request_of}
use Rattle.forwarder.specs.Deciding.{IsDecidedAs}
use Rattle.forwarder.specs.Replies.{Seen, IsSentToAskers, Replies, RepliesByDecision, RepliesToPacket}
use Rattle.forwarder.specs.Effects.{decided_packet, face_in, packet_to_decide}
use Rattle.forwarder.proofs.OneEffect.{one_said}
use Rattle.forwarder.proofs.RunSteps.{seen_with}

module _ (p : Policy) (records : PlainKey → Records) (full : Bool) (G : PlainKey → Option (List ℕ) → Type 0) (apart : AreApart p.keys) (answer : Answer)
    (whole : List ℕ) (d : PlainData) (rule : RuleNo) (allowed : IsDecidedAs p (AData whole d) (decided.Allowed rule)) where
  abbrev seen : Seen
  seen = seen_with p records full G

  abbrev Sent : ℕ → PlainFrame → Type 0
  Sent face (AnInterest w i) = ⊤
  Sent face (AData w e) = IsSentToAskers seen face w e answer.sends
  Sent face (ANack reason w i) = ⊤
  Sent face Idle = ⊤

  by_decision : (face : ℕ) (w : List ℕ) (e : PlainData) (said : Decision) → said ≡ decided.Allowed rule → RepliesByDecision seen face w e answer said → IsSentToAskers seen face w e answer.sends
  by_decision face w e said is h = (subst (RepliesByDecision seen face w e answer) is h).1

  data_sent : (face : ℕ) (w : List ℕ) (e : PlainData) (b : Bool)
      → IfTrueElse b (answer ≡ dropped OutOfScope) ((said : Decision) × IsDecidedAs p (AData w e) said × RepliesByDecision seen face w e answer said)
      → (if not b then Some (AData w e) else None) ≡ Some (AData whole d) → Sent face (AData whole d)
  data_sent face w e true h brings = cc brings
  data_sent face w e false h brings =
      let same : AData w e ≡ AData whole d = cc brings in
      let said : IsDecidedAs p (AData w e) (decided.Allowed rule) = subst (λ (f : PlainFrame). IsDecidedAs p f (decided.Allowed rule)) (sym same) allowed in
      subst (Sent face) same (by_decision face w e h.0 (one_said p (AData w e) h.0 (decided.Allowed rule) apart h.1 said) h.2)

  no_interest : (w : List ℕ) (i : PlainInterest) (b : Bool) {A : Type 0} → (if b then Some (AnInterest w i) else None) ≡ Some (AData whole d) → A
  no_interest w i true brings = cc brings
  no_interest w i false brings = cc brings

  packet_sent : (face : ℕ) (octets : List ℕ) (read : Result PlainFrame PacketFault) → RepliesToPacket seen face (token_at octets) read answer
      → packet_to_decide p face read ≡ Some (AData whole d) → Sent face (AData whole d)
  packet_sent face octets (Err fault) h brings = cc brings
  packet_sent face octets (Ok (AnInterest w i)) h brings = no_interest w i (is_command (request_of p face i)) brings
  packet_sent face octets (Ok (AData w e)) h brings = data_sent face w e (is_out_of_scope p face e.name) h brings
  packet_sent face octets (Ok (ANack reason w i)) h brings = cc brings
  packet_sent face octets (Ok Idle) h brings = cc brings

  pub delivered : (event : PlainEvent) → Replies seen event answer → decided_packet p event ≡ Some (AData whole d) → IsSentToAskers seen (face_in event) whole d answer.sends
  delivered (Packet face now octets) h brings = by_open (is_open face p.faces) h brings
    where
      by_open : (b : Bool) → IfTrueElse b (RepliesToPacket seen face (token_at octets) (frame_at octets) answer) (answer ≡ dropped NoFace)
          → (if b then packet_to_decide p face (frame_at octets) else None) ≡ Some (AData whole d) → Sent face (AData whole d)
      by_open true h brings = packet_sent face octets (frame_at octets) h brings
      by_open false h brings = cc brings
  delivered (FaceUp face scope now) h brings = cc brings
  delivered (FaceDown face now) h brings = cc brings
  delivered (Tick now) h brings = cc brings
  delivered (NewRules rules keys now) h brings = cc brings
