-- Let no key book have two keys of the same name. Two runs with the same events that start from the
-- same policy lead to the same policy. For the same request, each answer that is valid after one of
-- the runs equals each answer that is valid after the other run. For the same Data, each verdict
-- that is valid after one of the runs equals each verdict that is valid after the other run.
use Rattle.std.proofs.Common.{◌≡◌, ℕ, Bool, true, false, List, refl, sym, ap, subst, ◌∙◌, Result, Ok, Err}
use Rattle.std.specs.Prelude.{Option, nat_le}
use Rattle.std.specs.FinMap as map
use Rattle.key_files.specs.KeyFile.{AreApart}
use Rattle.ndn_packets.specs.Key.{PlainKey}
use Rattle.pit_fib.specs.declared.pit.TheConstants.{MAX_PENDING}
use Rattle.pit_fib.specs.Records.{Records, records_at}
use Rattle.ndn_packets.specs.FrameReading.{frame_at, token_at}
use Rattle.ndn_packets.specs.Packet.{PlainInterest, PlainData, PlainFrame, AnInterest, AData, ANack, Idle}
use Rattle.ndn_packets.specs.declared.fault.PacketFault.{PacketFault}
use Rattle.info_rules.specs.declared.decision.Decision.{Decision}
use Rattle.info_rules.specs.declared.decision.Decision.TheVariants as decided
use Rattle.forwarder.specs.Event.{PlainEvent, Packet, FaceUp, FaceDown, Tick, NewRules, Token}
use Rattle.forwarder.specs.OpenFaces.{is_open}
use Rattle.forwarder.specs.Event.{moment}
use Rattle.forwarder.specs.Verdict.{Answer, IfTrueElse, NoFace, Scope as OutOfScope, dropped}
use Rattle.forwarder.specs.Policy.{Policy, at_moment}
use Rattle.forwarder.specs.Request.{Request, Refused, ForList, ForTables, ForRepository, ForData, is_out_of_scope, request_of}
use Rattle.forwarder.specs.Deciding.{IsDecidedAs}
use Rattle.forwarder.specs.Commands.{command_answer}
use Rattle.forwarder.specs.Replies.{Replies, RepliesByDecision, RepliesToCommand, RepliesToData, RepliesToPacket, RepliesToRequest}
use Rattle.forwarder.specs.Effects.{IsAfter}
use Rattle.forwarder.specs.Runs.{Run, Start, Then, BringsData, BringsRequest, HaveOneHistory, IsDataPacket, IsPolicyOf, KeysAreApart, IsRequestPacket, MayCache, MayReply, is_request, seen_after}
use Rattle.forwarder.proofs.LaterMoments.{policy_apart}
use Rattle.forwarder.proofs.RunSteps.{seen_with}
use Rattle.forwarder.proofs.OneEffect.{one_effect, one_said}

pub one_history : (run : Run) → HaveOneHistory run run
one_history Start = tt
one_history (Then before event answer) = (refl, one_history before)

pub one_policy : (first p q : Policy) (past other : Run) → KeysAreApart first past → HaveOneHistory past other → IsPolicyOf first past p → IsPolicyOf first other q → p ≡ q
one_policy first p q Start Start apart same h k = h ∙ sym k
one_policy first p q Start (Then other another reply) apart same h k = absurd same
one_policy first p q (Then before event answer) Start apart same h k = absurd same
one_policy first p q (Then before event answer) (Then other another reply) apart same h k =
    let was : h.0 ≡ k.0 = one_policy first h.0 k.0 before other apart.0 same.1 h.1 k.1 in
    let keys = policy_apart first before h.0 apart.0 h.1 in
    let after : IsAfter h.0 event q = subst (λ (e : PlainEvent). IsAfter h.0 e q) (sym same.0) (subst (λ (w : Policy). IsAfter w another q) (sym was) k.2) in
    one_effect h.0 p q event keys h.2 after

module _ (p : Policy) (r s : PlainKey → Records) (f g : Bool) (G H : PlainKey → Option (List ℕ) → Type 0) (apart : AreApart p.keys) (a b : Answer) where
  one_command : (face : ℕ) (token : Token) (whole : List ℕ) (i : PlainInterest) → RepliesToCommand (seen_with p r f G) face token whole i a → RepliesToCommand (seen_with p s g H) face token whole i b → a ≡ b
  one_command face token whole i h k =
      h.2 ∙ ap (λ (said : Decision). command_answer p face token i said) (one_said p (AnInterest whole i) h.0 k.0 apart h.1 k.1) ∙ sym k.2

  one_request : (face : ℕ) (token : Token) (whole : List ℕ) (i : PlainInterest) (q : Request) → is_request q ≡ true → RepliesToRequest (seen_with p r f G) face token whole i a q
      → RepliesToRequest (seen_with p s g H) face token whole i b q → a ≡ b
  one_request face token whole i (Refused reason) is h k = h ∙ sym k
  one_request face token whole i (ForList asked) is h k = h ∙ sym k
  one_request face token whole i ForTables is h k = one_command face token whole i h k
  one_request face token whole i ForRepository is h k = one_command face token whole i h k
  one_request face token whole i ForData is h k = cc is

  one_to_packet : (face : ℕ) (token : Token) (read : Result PlainFrame PacketFault) → IsRequestPacket p face read → RepliesToPacket (seen_with p r f G) face token read a
      → RepliesToPacket (seen_with p s g H) face token read b → a ≡ b
  one_to_packet face token (Err fault) is h k = absurd is
  one_to_packet face token (Ok (AnInterest whole i)) is h k = one_request face token whole i (request_of p face i) is h k
  one_to_packet face token (Ok (AData whole d)) is h k = absurd is
  one_to_packet face token (Ok (ANack reason whole i)) is h k = absurd is
  one_to_packet face token (Ok Idle) is h k = absurd is

  pub one_answer : (event : PlainEvent) → BringsRequest p event → Replies (seen_with p r f G) event a → Replies (seen_with p s g H) event b → a ≡ b
  one_answer (Packet face now octets) is h k = by_open (is_open face p.faces) h k
    where
      by_open : (o : Bool) → IfTrueElse o (RepliesToPacket (seen_with p r f G) face (token_at octets) (frame_at octets) a) (a ≡ dropped NoFace)
          → IfTrueElse o (RepliesToPacket (seen_with p s g H) face (token_at octets) (frame_at octets) b) (b ≡ dropped NoFace) → a ≡ b
      by_open true h k = one_to_packet face (token_at octets) (frame_at octets) is h k
      by_open false h k = h ∙ sym k
  one_answer (FaceUp face scope now) is h k = absurd is
  one_answer (FaceDown face now) is h k = absurd is
  one_answer (Tick now) is h k = absurd is
  one_answer (NewRules rules keys now) is h k = absurd is

  by_said : (face : ℕ) (whole : List ℕ) (d : PlainData) (said : Decision) → RepliesByDecision (seen_with p r f G) face whole d a said
      → RepliesByDecision (seen_with p s g H) face whole d b said → a.verdict ≡ b.verdict
  by_said face whole d (decided.Allowed rule) h k = h.0 ∙ sym k.0
  by_said face whole d (decided.Denied rule reason) h k = ap (λ (x : Answer). x.verdict) (h ∙ sym k)
  by_said face whole d decided.NoRule h k = ap (λ (x : Answer). x.verdict) (h ∙ sym k)

  one_of_data : (face : ℕ) (whole : List ℕ) (d : PlainData) → RepliesToData (seen_with p r f G) face whole d a → RepliesToData (seen_with p s g H) face whole d b
      → a.verdict ≡ b.verdict
  one_of_data face whole d h k = by_scope (is_out_of_scope p face d.name) h k
    where
      by_scope : (o : Bool) → IfTrueElse o (a ≡ dropped OutOfScope) ((said : Decision) × IsDecidedAs p (AData whole d) said × RepliesByDecision (seen_with p r f G) face whole d a said)
          → IfTrueElse o (b ≡ dropped OutOfScope) ((said : Decision) × IsDecidedAs p (AData whole d) said × RepliesByDecision (seen_with p s g H) face whole d b said) → a.verdict ≡ b.verdict
      by_scope true h k = ap (λ (x : Answer). x.verdict) (h ∙ sym k)
      by_scope false h k =
          by_said face whole d h.0 h.2
          (subst (λ (said : Decision). RepliesByDecision (seen_with p s g H) face whole d b said) (one_said p (AData whole d) k.0 h.0 apart k.1 h.1) k.2)

  one_verdict_of : (face : ℕ) (token : Token) (read : Result PlainFrame PacketFault) → IsDataPacket read → RepliesToPacket (seen_with p r f G) face token read a
      → RepliesToPacket (seen_with p s g H) face token read b → a.verdict ≡ b.verdict
  one_verdict_of face token (Err fault) is h k = absurd is
  one_verdict_of face token (Ok (AnInterest whole i)) is h k = absurd is
  one_verdict_of face token (Ok (AData whole d)) is h k = one_of_data face whole d h k
  one_verdict_of face token (Ok (ANack reason whole i)) is h k = absurd is
  one_verdict_of face token (Ok Idle) is h k = absurd is

  pub one_verdict : (event : PlainEvent) → BringsData event → Replies (seen_with p r f G) event a → Replies (seen_with p s g H) event b → a.verdict ≡ b.verdict
  one_verdict (Packet face now octets) is h k = by_open (is_open face p.faces) h k
    where
      by_open : (o : Bool) → IfTrueElse o (RepliesToPacket (seen_with p r f G) face (token_at octets) (frame_at octets) a) (a ≡ dropped NoFace)
          → IfTrueElse o (RepliesToPacket (seen_with p s g H) face (token_at octets) (frame_at octets) b) (b ≡ dropped NoFace) → a.verdict ≡ b.verdict
      by_open true h k = one_verdict_of face (token_at octets) (frame_at octets) is h k
      by_open false h k = ap (λ (x : Answer). x.verdict) (h ∙ sym k)
  one_verdict (FaceUp face scope now) is h k = absurd is
  one_verdict (FaceDown face now) is h k = absurd is
  one_verdict (Tick now) is h k = absurd is
  one_verdict (NewRules rules keys now) is h k = absurd is

-- In this module, `past` and `other` are two runs with the same events. The answer `a` is valid
-- after `past`, and the answer `b` is valid after `other`. The policy is the same after both runs.
module _ (first : Policy) (past other : Run) (event : PlainEvent) (a b : Answer) (apart : KeysAreApart first past) (same : HaveOneHistory past other)
    (h : MayReply first past event a) (k : MayReply first other event b) where
  was_one : k.was ≡ h.was
  was_one = sym (one_policy first h.was k.was past other apart same h.is_policy k.is_policy)

  keys_apart : AreApart h.was.keys
  keys_apart = policy_apart first past h.was apart h.is_policy

  other_replies : Replies (seen_after other (at_moment h.was (moment event)) k.waiting) event b
  other_replies = subst (λ (w : Policy). Replies (seen_after other (at_moment w (moment event)) k.waiting) event b) was_one k.replies

  pub histories_answer : (p : Policy) → IsPolicyOf first past p → BringsRequest (at_moment p (moment event)) event → a ≡ b
  histories_answer p is brings =
      let q = at_moment h.was (moment event) in
      let past_is : HaveOneHistory past past = one_history past in
      let e : p ≡ h.was = one_policy first p h.was past past apart past_is is h.is_policy in
      one_answer q (records_at h.waiting) (records_at k.waiting) (nat_le MAX_PENDING (map.len h.waiting)) (nat_le MAX_PENDING (map.len k.waiting)) (MayCache past q.now) (MayCache other q.now) keys_apart a b event
      (subst (λ (w : Policy). BringsRequest (at_moment w (moment event)) event) e brings) h.replies other_replies

  pub histories_judge : BringsData event → a.verdict ≡ b.verdict
  histories_judge brings =
      let q = at_moment h.was (moment event) in
      one_verdict q (records_at h.waiting) (records_at k.waiting) (nat_le MAX_PENDING (map.len h.waiting)) (nat_le MAX_PENDING (map.len k.waiting)) (MayCache past q.now) (MayCache other q.now) keys_apart a b event
      brings h.replies other_replies
