-- The PIT token in the octets of a frame has 1 to 32 octets.
use Rattle.std.proofs.Common.{◌≡◌, ℕ, true, false, cond, not, eqb, ltb, List, [], ◌∷◌, ◌++◌, length, Option, None, Some, Result, Ok, Err, refl, sym, ap, subst, ◌∙◌, inl, inr}
use Rattle.std.specs.Prelude.{IfOk, IfSome, is_some}
use Rattle.std.specs.Option.{option_map}
use Rattle.std.specs.Borrow.{Bor}
use Rattle.std.proofs.lemmas.Bool.{leb-true, ne_eqb, not-false, and_parts, or_parts, cases_eq}
use Rattle.ndn_tlv.specs.declared.fault.TlvFault.{TlvFault}
use Rattle.ndn_tlv.specs.Element.{Field}
use Rattle.ndn_tlv.specs.Reading.{◌>>=◌, on_result, elements_of}
use Rattle.ndn_tlv.specs.Writing.{optional}
use Rattle.ndn_tlv.proofs.Numbers.{IsBytes}
use Rattle.ndn_packets.specs.declared.fault.PacketFault.{PacketFault}
use Rattle.ndn_packets.specs.declared.fault.PacketFault.TheVariants.{LpField, TooLong}
use Rattle.ndn_packets.specs.declared.frame.Framed.{Framed}
use Rattle.ndn_packets.specs.Packet.{PlainFrame, PlainFramed, framed_with, AnInterest, AData, ANack, Idle}
use Rattle.ndn_packets.specs.View.{plain_frame, plain_framed}
use Rattle.ndn_packets.specs.Writing.{AreOctets}
use Rattle.ndn_packets.specs.Link.{IsToken, IsFrameWith, IsLinkPacket, headers_of}
use Rattle.ndn_packets.specs.FrameReading.{only_element, packet_of, LinkSoFar, no_headers_yet, nack_at, is_token, is_refused_header, with_header, take_header, fragment_at, last_of, no_fragment, link_from, link_at, outer_of, framed_at, frame_at, token_at}
use Rattle.ndn_packets.proofs.Steps.{bind_ok, guard_ok, good, err_is_not_ok, none_is_not_some, ok_is, IsBytes-fields, IsBytes-inside}
use Rattle.ndn_packets.proofs.FieldLists.{AreBytes}
use Rattle.ndn_packets.proofs.FrameFaults.{at_most_made}
use Rattle.ndn_packets.proofs.Packets.{framed_found, token_of_framed}
use Rattle.ndn_packets.proofs.Wholes.{last_is}

-- ---- the length of the token

abbrev SizedAt : LinkSoFar → LinkSoFar → List ℕ → ℕ → Type 0
SizedAt s t v kind = is_refused_header s (kind, v) ≡ false → with_header s (kind, v) ≡ Ok t → IfSome t.token IsToken

abbrev IsSized : LinkSoFar → Type 0
IsSized s = IfSome s.token IsToken

token_sized : (s t : LinkSoFar) (v : List ℕ) → SizedAt s t v 98
token_sized s t v free e =
    let parts = or_parts (is_some s.token) (not (is_token v)) free in
    let sizes = and_parts _ _ (not-false (is_token v) parts.1) in
    subst IsSized (ok_is _ t e) (leb-true 1 (length v) sizes.0, leb-true (length v) 32 sizes.1)

header_sized : (s t : LinkSoFar) (e : Field) → IsSized s → SizedAt s t e.1 e.0
header_sized s t e sized =
    elim (cases_eq e.0 81) [
      | inl is ↦ subst (SizedAt s t e.1) (sym is) (λ _ made. subst IsSized (ok_is _ t made) sized)
      | inr no81 ↦ elim (cases_eq e.0 82) [
        | inl is ↦ subst (SizedAt s t e.1) (sym is) (λ _ made. subst IsSized (at_most_made 0 e.1 _ t made) sized)
        | inr no82 ↦ elim (cases_eq e.0 83) [
          | inl is ↦ subst (SizedAt s t e.1) (sym is) (λ _ made. subst IsSized (at_most_made 1 e.1 _ t made) sized)
          | inr no83 ↦ elim (cases_eq e.0 98) [
            | inl is ↦ subst (SizedAt s t e.1) (sym is) (token_sized s t e.1)
            | inr no98 ↦ elim (cases_eq e.0 800) [
              | inl is ↦ subst (SizedAt s t e.1) (sym is) (λ _ made.
                  let n = bind_ok (nack_at e.1) (λ reason. good (record { sequence = s.sequence; frag_index = s.frag_index; frag_count = s.frag_count; token = s.token; nack = Some reason })) t made in
                  subst IsSized (ok_is _ t n.2) sized)
              | inr no800 ↦ rw (ne_eqb e.0 81 no81, ne_eqb e.0 82 no82, ne_eqb e.0 83 no83, ne_eqb e.0 98 no98, ne_eqb e.0 800 no800)
                  (λ _ made. subst IsSized (ok_is s t made) sized)
            ]
          ]
        ]
      ]
    ]

nothing_sized : (token : Option (List ℕ)) (nack : Option ℕ) (f : PlainFramed) → IfSome token IsToken → no_fragment token nack ≡ Ok f → IfSome f.token IsToken
nothing_sized token None f sized e = subst (λ (g : PlainFramed). IfSome g.token IsToken) (ok_is (framed_with token Idle) f e) sized
nothing_sized token (Some reason) f sized e = absurd (err_is_not_ok _ f e)

link_sized : (s : LinkSoFar) (elements : List (Result Field TlvFault)) (f : PlainFramed) → IsSized s → link_from s elements ≡ Ok f → IfSome f.token IsToken
link_sized s [] f sized e = nothing_sized s.token s.nack f sized e
link_sized s (Err t ∷ elements) f sized e = absurd (err_is_not_ok _ f e)
link_sized s (Ok x ∷ elements) f sized e =
    elim (eqb x.0 80) as (λ b. cond b (fragment_at s.nack x.1 >>= λ frame. last_of (framed_with s.token frame) elements) (take_header s x >>= λ t. link_from t elements) ≡ Ok f → IfSome f.token IsToken) [
      | true ↦ λ e.
          let b = bind_ok (fragment_at s.nack x.1) (λ frame. last_of (framed_with s.token frame) elements) f e in
          subst (λ (g : PlainFramed). IfSome g.token IsToken) (last_is (framed_with s.token b.0) f elements b.2) sized
      | false ↦ λ e.
          let b = bind_ok (take_header s x) (λ t. link_from t elements) f e in
          let g = guard_ok (is_refused_header s x) LpField (with_header s x) b.0 b.1 in
          link_sized b.0 elements f (header_sized s b.0 x sized g.0 g.1) b.2
    ] e

pub framed_sized : (text : List ℕ) (f : PlainFramed) → framed_at text ≡ Ok f → IfSome f.token IsToken
unfolding framed_at link_at
framed_sized text f e =
    let g = guard_ok (ltb 9000 (length text)) TooLong (only_element text >>= outer_of text) f e in
    let b = bind_ok (only_element text) (outer_of text) f g.1 in
    elim (eqb b.0.0 100) as (λ t. cond t (link_from no_headers_yet (elements_of b.0.1)) (packet_of text b.0 >>= λ frame. good (framed_with None frame)) ≡ Ok f → IfSome f.token IsToken) [
      | true ↦ λ e. link_sized no_headers_yet (elements_of b.0.1) f tt e
      | false ↦ λ e.
          let q = bind_ok (packet_of text b.0) (λ frame. good (framed_with None frame)) f e in
          subst (λ (g : PlainFramed). IfSome g.token IsToken) (ok_is (framed_with None q.0) f q.2) tt
    ] b.2

-- if `token_at` finds the PIT token `t` in `text`, then reading `text` gives a frame with the PIT
-- token `t`
pub framed_of_token : (text t : List ℕ) → token_at text ≡ Some t → (f : PlainFramed) × (framed_at text ≡ Ok f) × (f.token ≡ Some t)
unfolding token_at
framed_of_token text t e = of_result (framed_at text) refl e
  where
    of_result : (r : Result PlainFramed PacketFault) → framed_at text ≡ r → on_result (λ f. f.token) (λ _. None) r ≡ Some t → (f : PlainFramed) × (framed_at text ≡ Ok f) × (f.token ≡ Some t)
    of_result (Ok f) is e = (f, is, e)
    of_result (Err fault) is e = absurd (none_is_not_some t e)

pub token_is_token : (text t : List ℕ) → token_at text ≡ Some t → IsToken t
token_is_token text t e =
    let f = framed_of_token text t e in
    subst (λ (o : Option (List ℕ)). IfSome o IsToken) f.2 (framed_sized text f.0 f.1)

-- ---- the octets of the token

bytes_left : (kind : ℕ) (headers : List Field) (back : List Field) → AreBytes (headers ++ back) → AreBytes (headers_of kind headers)
bytes_left kind [] back fits = tt
bytes_left kind (h ∷ headers) back fits =
    elim (eqb h.0 kind) as (λ b. AreBytes (cond b (h ∷ headers_of kind headers) (headers_of kind headers))) [
      | true ↦ (fits.0, bytes_left kind headers back fits.1)
      | false ↦ bytes_left kind headers back fits.1
    ]

link_token_octets : (text : List ℕ) (token : Option (List ℕ)) (nack : Option ℕ) (fragment : Option (List ℕ)) (t : List ℕ) → IsLinkPacket text token nack fragment → token ≡ Some t → AreOctets t
link_token_octets text token nack fragment t link is =
    let value = IsBytes-inside text link.value 100 link.octets link.outer in
    let all = IsBytes-fields (link.headers ++ optional 80 fragment) (subst IsBytes link.inner.1 value) in
    let own : headers_of 98 link.headers ≡ (98, t) ∷ [] = link.tokened ∙ ap (optional 98) is in
    (subst AreBytes own (bytes_left 98 link.headers (optional 80 fragment) all)).0

frame_token_octets : (text : List ℕ) (token : Option (List ℕ)) (f : PlainFrame) (t : List ℕ) → IsFrameWith text token f → token ≡ Some t → AreOctets t
frame_token_octets text token (AnInterest whole i) t (h, inl same) is = absurd (none_is_not_some t (sym same.1 ∙ is))
frame_token_octets text token (AnInterest whole i) t (h, inr link) is = link_token_octets text token None (Some whole) t link is
frame_token_octets text token (AData whole d) t (h, inl same) is = absurd (none_is_not_some t (sym same.1 ∙ is))
frame_token_octets text token (AData whole d) t (h, inr link) is = link_token_octets text token None (Some whole) t link is
frame_token_octets text token (ANack reason whole i) t h is = link_token_octets text token (Some reason) (Some whole) t h.1 is
frame_token_octets text token Idle t h is = link_token_octets text token None None t h is

pub token_octets : (text t : List ℕ) → AreOctets text → token_at text ≡ Some t → AreOctets t
token_octets text t fits e =
    let f = framed_of_token text t e in
    frame_token_octets text f.0.token f.0.frame t (framed_found text f.0 fits f.1) f.2

-- ---- the frame and the token that a reader of frames returns

abbrev Reads : List ℕ → Result Framed PacketFault → Type 0
Reads text r = on_result (λ f. good (plain_framed f)) (λ fault. Err fault) r ≡ framed_at text

pub frame_from : (text : List ℕ) (r : Result Framed PacketFault) → Reads text r → on_result (λ f. good (plain_frame f.frame)) (λ fault. Err fault) r ≡ frame_at text
unfolding frame_at
frame_from text (Ok f) e = ap (λ (r : Result PlainFramed PacketFault). r >>= λ framed. good framed.frame) e
frame_from text (Err fault) e = ap (λ (r : Result PlainFramed PacketFault). r >>= λ framed. good framed.frame) e

pub token_from : (text : List ℕ) (r : Result Framed PacketFault) → Reads text r → IfOk r (λ f. option_map (λ t. t.now) f.token ≡ token_at text)
token_from text (Ok f) e = sym (token_of_framed text (plain_framed f) (sym e))
token_from text (Err fault) e = tt

pub sizes_from : (text : List ℕ) (r : Result Framed PacketFault) → Reads text r → IfOk r (λ f. IfSome f.token (λ t. IsToken t.now))
sizes_from text (Ok f) e = of_token f.token (framed_sized text (plain_framed f) (sym e))
  where
    of_token : (token : Option (Bor (List ℕ))) → IfSome (option_map (λ t. t.now) token) IsToken → IfSome token (λ t. IsToken t.now)
    of_token None h = tt
    of_token (Some t) h = h
sizes_from text (Err fault) e = tt
