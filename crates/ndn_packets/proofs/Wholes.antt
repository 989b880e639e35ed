-- A packet inside a link packet is a frame by itself.
use Rattle.std.proofs.Common.{◌≡◌, ℕ, ◌≤◌, true, false, cond, eqb, ltb, List, [], ◌∷◌, length, Option, None, Some, Result, Ok, Err, refl, sym, ap, subst, ◌∙◌, arith}
use Rattle.std.proofs.lemmas.Bool.{eqb-true, ltb-false, le-ltb}
use Rattle.ndn_tlv.specs.declared.fault.TlvFault.{TlvFault}
use Rattle.ndn_tlv.specs.Element.{Field}
use Rattle.ndn_tlv.specs.Reading.{◌>>=◌, elements_of}
use Rattle.ndn_packets.specs.declared.fault.PacketFault.TheVariants.{BadField, TooLong}
use Rattle.ndn_packets.specs.Packet.{PlainInterest, PlainData, PlainFrame, PlainFramed, framed_with, AnInterest, AData, ANack, Idle}
use Rattle.ndn_packets.specs.Reading.{interest_at, data_at}
use Rattle.ndn_packets.specs.FrameReading.{only_element, interest_of, data_of, packet_of, nacked_of, LinkSoFar, take_header, fragment_at, last_of, no_fragment, link_from, link_at, no_headers_yet, outer_of, framed_at, frame_at}
use Rattle.ndn_packets.proofs.Packets.{framed_of_frame}
use Rattle.ndn_packets.proofs.Steps.{bind_ok, guard_ok, err_is_not_ok, ok_is}

-- the frame is an Interest or a Data, and the received octets of this packet are `text`
abbrev Holds : PlainFrame → List ℕ → Type 0
Holds (AnInterest whole i) text = whole ≡ text
Holds (AData whole d) text = whole ≡ text
Holds (ANack reason whole i) text = ⊥
Holds Idle text = ⊥

holds_one : (f : PlainFrame) (a b : List ℕ) → Holds f a → Holds f b → a ≡ b
holds_one (AnInterest whole i) a b p q = sym p ∙ q
holds_one (AData whole d) a b p q = sym p ∙ q
holds_one (ANack reason whole i) a b p q = absurd p
holds_one Idle a b p q = absurd p

-- ---- a packet that is not in a link packet

packet_holds : (text : List ℕ) (x : Field) (f : PlainFrame) → packet_of text x ≡ Ok f → Holds f text × (length text ≤ 8800) × (eqb x.0 100 ≡ false)
packet_holds text x f e =
    elim (eqb x.0 5) as (λ b. eqb x.0 5 ≡ b → cond b (interest_of text x.1 >>= λ i. Ok (AnInterest text i)) (cond (eqb x.0 6) (data_of text x.1 >>= λ d. Ok (AData text d)) (Err BadField)) ≡ Ok f
    → Holds f text × (length text ≤ 8800) × (eqb x.0 100 ≡ false)) [
      | true ↦ λ is e.
          let b = bind_ok (interest_of text x.1) (λ i. Ok (AnInterest text i)) f e in
          let g = guard_ok (ltb 8800 (length text)) TooLong (interest_at x.1) b.0 b.1 in
          (subst (λ (h : PlainFrame). Holds h text) (ok_is _ f b.2) refl, ltb-false 8800 (length text) g.0, rw (eqb-true x.0 5 is) refl)
      | false ↦ λ _ e.
          elim (eqb x.0 6) as (λ b. eqb x.0 6 ≡ b → cond b (data_of text x.1 >>= λ d. Ok (AData text d)) (Err BadField) ≡ Ok f → Holds f text × (length text ≤ 8800) × (eqb x.0 100 ≡ false)) [
            | true ↦ λ is e.
                let b = bind_ok (data_of text x.1) (λ d. Ok (AData text d)) f e in
                let g = guard_ok (ltb 8800 (length text)) TooLong (data_at x.1) b.0 b.1 in
                (subst (λ (h : PlainFrame). Holds h text) (ok_is _ f b.2) refl, ltb-false 8800 (length text) g.0, rw (eqb-true x.0 6 is) refl)
            | false ↦ λ _ e. absurd (err_is_not_ok _ f e)
          ] refl e
    ] refl e

packet_alone : (text : List ℕ) (f : PlainFrame) → (only_element text >>= packet_of text) ≡ Ok f → Holds f text × (length text ≤ 8800) × (frame_at text ≡ Ok f)
unfolding frame_at framed_at
packet_alone text f e =
    let b = bind_ok (only_element text) (packet_of text) f e in
    let h = packet_holds text b.0 f b.2 in
    (h.0, h.1, rw (le-ltb 9000 (length text) (omega (arith, h.1)), b.1, h.2, b.2) refl)

-- the octets `own` are one element, and reading this element as a packet returns `f`
abbrev IsAlone : List ℕ → PlainFrame → Type 0
IsAlone own f = (only_element own >>= packet_of own) ≡ Ok f

-- ---- a packet in a link packet

nack_holds : (reason : ℕ) (text own : List ℕ) (f : PlainFrame) → (only_element text >>= nacked_of reason text) ≡ Ok f → Holds f own → ⊥
nack_holds reason text own f e h =
    let b = bind_ok (only_element text) (nacked_of reason text) f e in
    elim (eqb b.0.0 5) as (λ t. cond t (interest_of text b.0.1 >>= λ i. Ok (ANack reason text i)) (Err BadField) ≡ Ok f → ⊥) [
      | true ↦ λ e. (let i = bind_ok (interest_of text b.0.1) (λ i. Ok (ANack reason text i)) f e in subst (λ (g : PlainFrame). Holds g own) (sym (ok_is _ f i.2)) h)
      | false ↦ λ e. err_is_not_ok _ f e
    ] b.2

fragment_alone : (nack : Option ℕ) (text own : List ℕ) (f : PlainFrame) → fragment_at nack text ≡ Ok f → Holds f own → IsAlone own f
fragment_alone None text own f e h =
    let p = packet_alone text f e in
    subst (λ (t : List ℕ). IsAlone t f) (holds_one f text own p.0 h) e
fragment_alone (Some reason) text own f e h = absurd (nack_holds reason text own f e h)

pub last_is : (framed f : PlainFramed) (elements : List (Result Field TlvFault)) → last_of framed elements ≡ Ok f → framed ≡ f
last_is framed f [] e = ok_is framed f e
last_is framed f (Err t ∷ elements) e = absurd (err_is_not_ok _ f e)
last_is framed f (Ok x ∷ elements) e = absurd (err_is_not_ok _ f e)

nothing_held : (token : Option (List ℕ)) (nack : Option ℕ) (own : List ℕ) (f : PlainFramed) → no_fragment token nack ≡ Ok f → Holds f.frame own → ⊥
nothing_held token None own f e h = subst (λ (g : PlainFramed). Holds g.frame own) (sym (ok_is (framed_with token Idle) f e)) h
nothing_held token (Some reason) own f e h = err_is_not_ok _ f e

link_alone : (s : LinkSoFar) (elements : List (Result Field TlvFault)) (own : List ℕ) (f : PlainFramed) → link_from s elements ≡ Ok f → Holds f.frame own → IsAlone own f.frame
link_alone s [] own f e h = absurd (nothing_held s.token s.nack own f e h)
link_alone s (Err t ∷ elements) own f e h = absurd (err_is_not_ok _ f e)
link_alone s (Ok x ∷ elements) own f e h =
    elim (eqb x.0 80) as (λ b. cond b (fragment_at s.nack x.1 >>= λ frame. last_of (framed_with s.token frame) elements) (take_header s x >>= λ t. link_from t elements) ≡ Ok f → IsAlone own f.frame) [
      | true ↦ λ e.
          let b = bind_ok (fragment_at s.nack x.1) (λ frame. last_of (framed_with s.token frame) elements) f e in
          let same : b.0 ≡ f.frame = ap (λ (g : PlainFramed). g.frame) (last_is (framed_with s.token b.0) f elements b.2) in
          subst (λ (g : PlainFrame). IsAlone own g) same (fragment_alone s.nack x.1 own b.0 b.1 (subst (λ (g : PlainFrame). Holds g own) (sym same) h))
      | false ↦ λ e.
          let b = bind_ok (take_header s x) (λ t. link_from t elements) f e in
          link_alone b.0 elements own f b.2 h
    ] e

-- ---- the packet in any frame

framed_alone : (text own : List ℕ) (f : PlainFramed) → framed_at text ≡ Ok f → Holds f.frame own → IsAlone own f.frame
unfolding framed_at link_at
framed_alone text own f e h =
    let g = guard_ok (ltb 9000 (length text)) TooLong (only_element text >>= outer_of text) f e in
    let b = bind_ok (only_element text) (outer_of text) f g.1 in
    elim (eqb b.0.0 100) as (λ t. cond t (link_at b.0.1) (packet_of text b.0 >>= λ frame. Ok (framed_with None frame)) ≡ Ok f → IsAlone own f.frame) [
      | true ↦ λ e. link_alone no_headers_yet (elements_of b.0.1) own f e h
      | false ↦ λ e.
          let q = bind_ok (packet_of text b.0) (λ frame. Ok (framed_with None frame)) f e in
          let same : q.0 ≡ f.frame = ap (λ (g : PlainFramed). g.frame) (ok_is (framed_with None q.0) f q.2) in
          let one : IsAlone text f.frame = rw (b.1) (q.1 ∙ ap (λ (g : PlainFrame). Ok g) same) in
          subst (λ (t : List ℕ). IsAlone t f.frame) (holds_one f.frame text own (packet_alone text f.frame one).0 h) one
    ] b.2

frame_alone : (text own : List ℕ) (f : PlainFrame) → frame_at text ≡ Ok f → Holds f own → IsAlone own f
frame_alone text own f e h =
    let t = framed_of_frame text f e in
    framed_alone text own (framed_with t.0 f) t.1 h

pub interest_alone : (text whole : List ℕ) (i : PlainInterest) → frame_at text ≡ Ok (AnInterest whole i) → frame_at whole ≡ Ok (AnInterest whole i)
interest_alone text whole i e = (packet_alone whole (AnInterest whole i) (frame_alone text whole (AnInterest whole i) e refl)).2

-- an Interest that is read has at most 8,800 octets
pub interest_short : (text whole : List ℕ) (i : PlainInterest) → frame_at text ≡ Ok (AnInterest whole i) → length whole ≤ 8800
interest_short text whole i e = (packet_alone whole (AnInterest whole i) (frame_alone text whole (AnInterest whole i) e refl)).1

pub data_alone : (text whole : List ℕ) (d : PlainData) → frame_at text ≡ Ok (AData whole d) → frame_at whole ≡ Ok (AData whole d)
data_alone text whole d e = (packet_alone whole (AData whole d) (frame_alone text whole (AData whole d) e refl)).2

pub data_short : (text whole : List ℕ) (d : PlainData) → frame_at text ≡ Ok (AData whole d) → length whole ≤ 8800
data_short text whole d e = (packet_alone whole (AData whole d) (frame_alone text whole (AData whole d) e refl)).1

-- if a frame is read as the Data `d` with the octets `whole`, then `whole` is exactly one element,
-- and reading this element as a packet gives the same Data
pub data_packet : (text whole : List ℕ) (d : PlainData) → frame_at text ≡ Ok (AData whole d) → (only_element whole >>= packet_of whole) ≡ Ok (AData whole d)
data_packet text whole d e = frame_alone text whole (AData whole d) e refl
