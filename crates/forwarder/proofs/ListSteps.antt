-- An Interest for a list is answered by a segment, or dropped.
use Rattle.std.proofs.Common.{◌≡◌, ℕ, ◌+◌, ◌-◌, ◌^◌, Bool, true, false, cond, List, [], ◌∷◌, Option, None, Some, refl, sym, ap, subst, ◌∙◌, ◌≤◌}
use Rattle.std.specs.Prelude.{map, max, min, ◌||◌, ◌==◌, IfSome, length}
use Rattle.std.proofs.lemmas.Bool.{eq-eqb}
use Rattle.ndn_tlv.specs.Element.{Field}
use Rattle.ndn_tlv.specs.Number.{spelling}
use Rattle.ndn_packets.specs.Key.{key_of}
use Rattle.ndn_packets.specs.Packet.{PlainInterest, AnInterest}
use Rattle.mgmt_core.specs.Writing.{segment_at}
use Rattle.pit_fib.specs.Cause.{Cause, Arrives, SentTo, Withdrawn}
use Rattle.forwarder.specs.Event.{Send, Token, sent_back}
use Rattle.forwarder.specs.Verdict.{Answer, NoSegment, Verdict, dropped}
use Rattle.pit_fib.specs.Fib.{due_count, left_at}
use Rattle.forwarder.specs.Policy.{Policy, at_moment}
use Rattle.forwarder.specs.Request.{ForList, ListAsked, Request, is_command, list_asked, request_of}
use Rattle.forwarder.specs.Datasets.{dataset_text, is_present, list_answer, segment_answer, segment_data, segment_name}
use Rattle.forwarder.specs.Causes.{in_record_for, interest_causes, is_nack}
use Rattle.forwarder.specs.Cache.{CacheAfter, CacheUse}
use Rattle.forwarder.specs.Replies.{RepliesToRequest}
use Rattle.forwarder.specs.Handling.{IsAnswered, IsPacketEffect, packet_causes, packet_use, seen_by}
use Rattle.forwarder.specs.Node.{FollowAll, NodeState}
use Rattle.forwarder.specs.State.{IsLater}
use Rattle.ndn_packets.specs.Link.{IsToken}
use Rattle.forwarder.proofs.Contents.{back_is_no_nack, begins, data_is_no_nack}
use Rattle.forwarder.proofs.ReplyLengths.{segment_at_len, segment_is_short, segment_name_len}
use Rattle.forwarder.proofs.Requests.{for_list}
use Rattle.forwarder.proofs.Uses.{list_use}

-- Let `packet` have at most 8,800 octets and not be a Nack. If the only send returns `packet` to
-- the face that asked, then the Interest has no causes.
pub back_causes : (now face : ℕ) (token : Token) (whole : List ℕ) (i : PlainInterest) (packet : List ℕ) → IfSome token IsToken → length packet ≤ 8800 → is_nack packet ≡ false
    → interest_causes now face token whole i (sent_back face token packet ∷ []) ≡ []
back_causes now face token whole i packet is short plain =
    let other = back_is_no_nack token packet is short plain in
    let kept : List Cause = Arrives (key_of i) face (in_record_for now token whole i) ∷ map (λ (sent : Send). SentTo (key_of i) sent.0 i.nonce now) (sent_back face token packet ∷ []) in
    let gone : List Cause = Withdrawn (key_of i) face ∷ [] in
    ap (λ (b : Bool). cond (b || false) gone (cond ((face == face) || false) [] kept)) other
    ∙ ap (λ (b : Bool). cond (b || false) [] kept) (eq-eqb face face refl)

segment_begins : (name : List Field) (content : List ℕ) (last : ℕ) → begins 6 (segment_data name content last) ≡ true
unfolding spelling
segment_begins name content last = refl

segment_causes : (now face : ℕ) (token : Token) (whole : List ℕ) (i : PlainInterest) (name : List Field) (part : Option (List ℕ × ℕ))
    → IfSome token IsToken → ((content : List ℕ) (last : ℕ) → part ≡ Some (content, last) → length (segment_data name content last) ≤ 8800)
    → packet_causes now face token (AnInterest whole i) (segment_answer face token name part) ≡ []
segment_causes now face token whole i name None is few = refl
segment_causes now face token whole i name (Some part) is few =
    back_causes now face token whole i (segment_data name part.0 part.1) is (few part.0 part.1 refl) (data_is_no_nack (segment_data name part.0 part.1) (segment_begins name part.0 part.1))

list_causes : (p : Policy) (now face : ℕ) (token : Token) (whole : List ℕ) (i : PlainInterest) (asked : ListAsked) → IfSome token IsToken
    → packet_causes now face token (AnInterest whole i) (list_answer p face token asked) ≡ []
list_causes p now face token whole i asked is =
    let name = segment_name asked.kind p.table_number asked.segment in
    let part = segment_at (dataset_text p asked.kind) asked.segment in
    elim (is_present p asked.version) as (λ b. packet_causes now face token (AnInterest whole i) (cond b (segment_answer face token name part) (dropped NoSegment)) ≡ []) [
      | true ↦ segment_causes now face token whole i name part is (λ content last some. segment_is_short name content last (segment_name_len asked.kind p.table_number asked.segment) (segment_at_len (dataset_text p asked.kind) asked.segment (content, last) some))
      | false ↦ refl
    ]

list_cached : (was : NodeState) (face : ℕ) (token : Token) (whole : List ℕ) (i : PlainInterest) (asked : ListAsked) → list_asked i ≡ Some asked
    → CacheAfter was.policy.now was.pending (packet_use was.policy.now face (AnInterest whole i) (list_answer was.policy face token asked).verdict) was.cache was.cache
list_cached was face token whole i asked is =
    let name = segment_name asked.kind was.policy.table_number asked.segment in
    let part = segment_at (dataset_text was.policy asked.kind) asked.segment in
    elim (is_present was.policy asked.version) as (λ b. Keeps (cond b (segment_answer face token name part) (dropped NoSegment)).verdict) [
      | true ↦ elim part as (λ o. Keeps (segment_answer face token name o).verdict) [
        | None ↦ refl
        | Some p ↦ subst (λ (used : CacheUse). CacheAfter was.policy.now was.pending used was.cache was.cache) (sym (list_use was.policy.now face whole i asked is)) refl
      ]
      | false ↦ refl
    ]
  where
    Keeps : Verdict → Type 0
    Keeps v = CacheAfter was.policy.now was.pending (packet_use was.policy.now face (AnInterest whole i) v) was.cache was.cache

pub list_answered : (old was : NodeState) (moment face : ℕ) (token : Token) (whole : List ℕ) (i : PlainInterest) (asked : ListAsked) → IfSome token IsToken → IsLater old moment was
    → request_of old.policy face i ≡ ForList asked → IsAnswered was face token (AnInterest whole i) (list_answer was.policy face token asked) was
list_answered old was moment face token whole i asked tok later is =
    let request : request_of was.policy face i ≡ ForList asked = ap (λ (p : Policy). request_of p face i) later.policy ∙ is in
    let answer = list_answer was.policy face token asked in
    record {
      replies = subst (λ (r : Request). RepliesToRequest (seen_by was) face token whole i answer r) (sym request) refl;
      policy = subst (λ (r : Request). IsPacketEffect was.policy face (AnInterest whole i) was.policy (is_command r)) (sym request) refl;
      pending = subst (λ (causes : List Cause). FollowAll causes was.pending was.pending) (sym (list_causes was.policy was.policy.now face token whole i asked tok)) (λ key. refl);
      alive = later.living;
      cache = list_cached was face token whole i asked (for_list was.policy face i asked request);
    }

-- The time, routes, strategies and version for a request's moment are computed before time
-- advances. The computed values are those of the policy `p` after time has advanced.
pub then_listed : (old p : Policy) (moment now due number : ℕ) → p ≡ at_moment old moment → now ≡ max old.now moment → due ≡ due_count now old.routes
    → number ≡ min (old.table_number + due) (2 ^ 64 - 1)
    → (p.now ≡ now) × (p.routes ≡ left_at now old.routes) × (p.choices ≡ old.choices) × (p.table_number ≡ number)
then_listed old p moment now due number is at ends counted = (
  ap (λ (q : Policy). q.now) is ∙ sym at,
  ap (λ (q : Policy). q.routes) is ∙ ap (λ (n : ℕ). left_at n old.routes) (sym at),
  ap (λ (q : Policy). q.choices) is,
  ap (λ (q : Policy). q.table_number) is ∙ ap (λ (n : ℕ). min (old.table_number + due_count n old.routes) (2 ^ 64 - 1)) (sym at)
      ∙ sym (counted ∙ ap (λ (n : ℕ). min (old.table_number + n) (2 ^ 64 - 1)) ends),
)

-- Let an Interest ask for a list. Then `list_answer` gives the answer to this Interest. The node
-- `was`, in which time has already advanced, does not change.
pub list_handled : (old was : NodeState) (moment face : ℕ) (token : Token) (whole : List ℕ) (i : PlainInterest) (asked : ListAsked) (answer : Answer) → IfSome token IsToken → IsLater old moment was
    → request_of old.policy face i ≡ ForList asked → list_answer was.policy face token asked ≡ answer → IsAnswered was face token (AnInterest whole i) answer was
list_handled old was moment face token whole i asked answer tok later is given =
    subst (λ (a : Answer). IsAnswered was face token (AnInterest whole i) a was) given (list_answered old was moment face token whole i asked tok later is)
