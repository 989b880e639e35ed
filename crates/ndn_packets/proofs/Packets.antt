-- The reader accepts exactly the frames of the grammar.
use Rattle.std.proofs.Common.{◌≡◌, ℕ, ◌≤◌, ◌⊎◌, true, cond, ltb, List, [], ◌∷◌, length, Option, Some, None, Result, Ok, Err, refl, sym, ap, subst, ◌∙◌, arith, inl, inr}
use Rattle.std.specs.Prelude.{IfOk}
use Rattle.std.proofs.lemmas.Bool.{ltb-false, le-ltb, ne_eqb, cases_eq}
use Rattle.std.proofs.lemmas.List.{append-nil}
use Rattle.ndn_tlv.specs.declared.fault.TlvFault.{TlvFault}
use Rattle.ndn_tlv.specs.Element.{Field, element, IsElement}
use Rattle.ndn_tlv.specs.Reading.{◌>>=◌, on_result, element_at}
use Rattle.ndn_tlv.proofs.Numbers.{IsBytes}
use Rattle.ndn_tlv.proofs.Fields.{element_found, seen}
use Rattle.ndn_packets.specs.declared.fault.PacketFault.{PacketFault}
use Rattle.ndn_packets.specs.declared.fault.PacketFault.TheVariants.{Tlv, BadField, TooLong}
use Rattle.ndn_packets.specs.Packet.{PlainInterest, PlainData, PlainFrame, PlainFramed, framed_with, AnInterest, AData, ANack, Idle}
use Rattle.ndn_packets.specs.Grammar.{IsInterest, IsData}
use Rattle.ndn_packets.specs.Link.{IsLinkPacket, IsFrameWith, IsFramed, IsFrame}
use Rattle.ndn_packets.specs.Reading.{is_nil, interest_at, data_at}
use Rattle.ndn_packets.specs.FrameReading.{only_element, interest_of, data_of, packet_of, nacked_of, outer_of, framed_at, frame_at, token_at}
use Rattle.ndn_packets.proofs.Steps.{bind_ok, guard_ok, good, err_is_not_ok, ok_is, IsBytes-inside}
use Rattle.ndn_packets.proofs.FieldLists.{MayBeBytes}
use Rattle.ndn_packets.proofs.Locators.{element_alone}
use Rattle.ndn_packets.proofs.Interests.{interest_found, interest_again}
use Rattle.ndn_packets.proofs.DataPackets.{data_found, data_again}
use Rattle.ndn_packets.proofs.Links.{held, LinkValue, link_found, link_again}

-- ---- octets that are exactly one element

is_nil_is : {A : Type 0} (xs : List A) → is_nil xs ≡ true → xs ≡ []
is_nil_is [] e = refl
is_nil_is (x ∷ xs) e = absurd cc

pub one_element : (r : Result (Field × List ℕ) TlvFault) (outer : Field) → on_result (λ x. cond (is_nil x.1) (good x.0) (Err BadField)) (λ f. Err (Tlv f)) r ≡ Ok outer → r ≡ seen outer.0 outer.1 []
one_element (Err f) outer e = absurd (err_is_not_ok _ outer e)
one_element (Ok (f, [])) outer e = ap (λ (g : Field). seen g.0 g.1 []) (ok_is f outer e)
one_element (Ok (f, o ∷ rest)) outer e = absurd (err_is_not_ok _ outer e)

pub only_found : (text : List ℕ) (outer : Field) → IsBytes text → only_element text ≡ Ok outer → IsElement text outer.0 outer.1
only_found text outer fits e =
    let found = element_found text outer [] fits (one_element (element_at text) outer e) in
    (found.0, found.1 ∙ append-nil (element outer))

pub only_again : (text value : List ℕ) (kind : ℕ) → IsElement text kind value → only_element text ≡ Ok (kind, value)
only_again text value kind outer = rw (element_alone text value kind outer) refl

-- ---- an Interest, a Data or a Nack in octets that are one element

pub interest_of_found : (text value : List ℕ) (i : PlainInterest) → IsBytes text → IsElement text 5 value → interest_of text value ≡ Ok i → IsInterest text i
interest_of_found text value i fits outer e =
    let g = guard_ok (ltb 8800 (length text)) TooLong (interest_at value) i e in
    interest_found text value i (record { outer = outer; short = ltb-false _ _ g.0; octets = fits }) g.1

pub data_of_found : (text value : List ℕ) (d : PlainData) → IsBytes text → IsElement text 6 value → data_of text value ≡ Ok d → IsData text d
data_of_found text value d fits outer e =
    let g = guard_ok (ltb 8800 (length text)) TooLong (data_at value) d e in
    data_found text value d (record { outer = outer; short = ltb-false _ _ g.0; octets = fits }) g.1

-- `f` is an Interest or a Data, and the octets of this packet are `text`
abbrev IsPacketOf : List ℕ → PlainFrame → Type 0
IsPacketOf text f = ((i : PlainInterest) × IsInterest text i × (AnInterest text i ≡ f)) ⊎ ((d : PlainData) × IsData text d × (AData text d ≡ f))

packet_found : (text : List ℕ) (outer : Field) (f : PlainFrame) → IsBytes text → IsElement text outer.0 outer.1 → packet_of text outer ≡ Ok f → IsPacketOf text f
packet_found text outer f fits own e =
    elim (cases_eq outer.0 5) [
      | inl is ↦
          let i = bind_ok (interest_of text outer.1) (λ i. good (AnInterest text i)) f (subst (λ (k : ℕ). packet_of text (k, outer.1) ≡ Ok f) is e) in
          inl (i.0, interest_of_found text outer.1 i.0 fits (subst (λ (k : ℕ). IsElement text k outer.1) is own) i.1, ok_is _ f i.2)
      | inr no5 ↦ elim (cases_eq outer.0 6) [
        | inl is ↦
            let d = bind_ok (data_of text outer.1) (λ d. good (AData text d)) f (subst (λ (k : ℕ). packet_of text (k, outer.1) ≡ Ok f) is e) in
            inr (d.0, data_of_found text outer.1 d.0 fits (subst (λ (k : ℕ). IsElement text k outer.1) is own) d.1, ok_is _ f d.2)
        | inr no6 ↦ absurd (err_is_not_ok _ f (rw (ne_eqb outer.0 5 no5, ne_eqb outer.0 6 no6) at e))
      ]
    ]

nacked_found : (reason : ℕ) (text : List ℕ) (outer : Field) (f : PlainFrame) → IsBytes text → IsElement text outer.0 outer.1 → nacked_of reason text outer ≡ Ok f → (i : PlainInterest) × IsInterest text i × (ANack reason text i ≡ f)
nacked_found reason text outer f fits own e =
    elim (cases_eq outer.0 5) [
      | inl is ↦
          let i = bind_ok (interest_of text outer.1) (λ i. good (ANack reason text i)) f (subst (λ (k : ℕ). nacked_of reason text (k, outer.1) ≡ Ok f) is e) in
          (i.0, interest_of_found text outer.1 i.0 fits (subst (λ (k : ℕ). IsElement text k outer.1) is own) i.1, ok_is _ f i.2)
      | inr no5 ↦ absurd (err_is_not_ok _ f (rw (ne_eqb outer.0 5 no5) at e))
    ]

interest_of_again : (text : List ℕ) (i : PlainInterest) (h : IsInterest text i) → interest_of text h.fields.value ≡ Ok i
interest_of_again text i h = rw (le-ltb 8800 (length text) h.fields.short) (interest_again text i h)

data_of_again : (text : List ℕ) (d : PlainData) (h : IsData text d) → data_of text h.fields.value ≡ Ok d
data_of_again text d h = rw (le-ltb 8800 (length text) h.fields.short) (data_again text d h)

-- ---- the frames that the reader accepts, and the frames of the grammar

is_link : (text value : List ℕ) (f : PlainFramed) (h : LinkValue value f) → IsElement text 100 value → length text ≤ 9000 → IsBytes text → IsLinkPacket text h.token h.nack h.fragment
is_link text value f h outer short fits = record { value = value; headers = h.headers; outer = outer; inner = h.inner; allowed = h.allowed; once = h.once; tokened = h.tokened; nacked = h.nacked; short = short; octets = fits }

alone_is : (text : List ℕ) (f : PlainFrame) → IsPacketOf text f → IsFrameWith text None f
alone_is text f (inl i) = subst (IsFrameWith text None) i.2 (i.1, inl (refl, refl))
alone_is text f (inr d) = subst (IsFrameWith text None) d.2 (d.1, inl (refl, refl))

linked_is : (text : List ℕ) (token : Option (List ℕ)) (nack : Option ℕ) (fragment : Option (List ℕ)) (f : PlainFramed) → MayBeBytes fragment → held token nack fragment ≡ Ok f → IsLinkPacket text token nack fragment → IsFramed text f
linked_is text token None None f fits e link = subst (IsFramed text) (ok_is (framed_with token Idle) f e) link
linked_is text token (Some reason) None f fits e link = absurd (err_is_not_ok _ f e)
linked_is text token None (Some whole) f fits e link =
    let b = bind_ok (only_element whole >>= packet_of whole) (λ frame. good (framed_with token frame)) f e in
    let o = bind_ok (only_element whole) (packet_of whole) b.0 b.1 in
    subst (IsFramed text) (ok_is (framed_with token b.0) f b.2) (elim (packet_found whole o.0 b.0 fits (only_found whole o.0 fits o.1) o.2) [
      | inl i ↦ subst (IsFrameWith text token) i.2 (i.1, inr link)
      | inr d ↦ subst (IsFrameWith text token) d.2 (d.1, inr link)
    ])
linked_is text token (Some reason) (Some whole) f fits e link =
    let b = bind_ok (only_element whole >>= nacked_of reason whole) (λ frame. good (framed_with token frame)) f e in
    let o = bind_ok (only_element whole) (nacked_of reason whole) b.0 b.1 in
    let i = nacked_found reason whole o.0 b.0 fits (only_found whole o.0 fits o.1) o.2 in
    subst (IsFramed text) (ok_is (framed_with token b.0) f b.2) (subst (IsFrameWith text token) i.2 (i.1, link))

pub framed_found : (text : List ℕ) (f : PlainFramed) → IsBytes text → framed_at text ≡ Ok f → IsFramed text f
unfolding framed_at
framed_found text f fits e =
    let a = guard_ok (ltb 9000 (length text)) TooLong (only_element text >>= outer_of text) f e in
    let o = bind_ok (only_element text) (outer_of text) f a.1 in
    let own = only_found text o.0 fits o.1 in
    elim (cases_eq o.0.0 100) [
      | inl is ↦
          let outer = subst (λ (k : ℕ). IsElement text k o.0.1) is own in
          let h = link_found o.0.1 f (IsBytes-inside text o.0.1 100 fits outer) (subst (λ (k : ℕ). outer_of text (k, o.0.1) ≡ Ok f) is o.2) in
          linked_is text h.token h.nack h.fragment f h.fits h.holds (is_link text o.0.1 f h outer (ltb-false _ _ a.0) fits)
      | inr other ↦
          let b = bind_ok (packet_of text o.0) (λ frame. good (framed_with None frame)) f (rw (ne_eqb o.0.0 100 other) at o.2) in
          subst (IsFramed text) (ok_is (framed_with None b.0) f b.2) (alone_is text b.0 (packet_found text o.0 b.0 fits own b.1))
    ]

link_again_in : (text : List ℕ) (token : Option (List ℕ)) (nack : Option ℕ) (fragment : Option (List ℕ)) (f : PlainFramed) → IsLinkPacket text token nack fragment → held token nack fragment ≡ Ok f → framed_at text ≡ Ok f
unfolding framed_at
link_again_in text token nack fragment f h holds =
    rw (le-ltb 9000 (length text) h.short, only_again text h.value 100 h.outer) (link_again text token nack fragment f h holds)

interest_alone_again : (whole : List ℕ) (i : PlainInterest) → IsInterest whole i → framed_at whole ≡ Ok (framed_with None (AnInterest whole i))
unfolding framed_at
interest_alone_again whole i h = rw (le-ltb 9000 (length whole) (omega (arith, h.fields.short)), only_again whole h.fields.value 5 h.fields.outer, interest_of_again whole i h) refl

data_alone_again : (whole : List ℕ) (d : PlainData) → IsData whole d → framed_at whole ≡ Ok (framed_with None (AData whole d))
unfolding framed_at
data_alone_again whole d h = rw (le-ltb 9000 (length whole) (omega (arith, h.fields.short)), only_again whole h.fields.value 6 h.fields.outer, data_of_again whole d h) refl

again_with : (text : List ℕ) (token : Option (List ℕ)) (f : PlainFrame) → IsFrameWith text token f → framed_at text ≡ Ok (framed_with token f)
again_with text token (AnInterest whole i) (h, inl same) =
    ap framed_at same.0 ∙ (interest_alone_again whole i h ∙ ap (λ (t : Option (List ℕ)). good (framed_with t (AnInterest whole i))) (sym same.1))
again_with text token (AnInterest whole i) (h, inr link) =
    link_again_in text token None (Some whole) (framed_with token (AnInterest whole i)) link (rw (only_again whole h.fields.value 5 h.fields.outer, interest_of_again whole i h) refl)
again_with text token (AData whole d) (h, inl same) =
    ap framed_at same.0 ∙ (data_alone_again whole d h ∙ ap (λ (t : Option (List ℕ)). good (framed_with t (AData whole d))) (sym same.1))
again_with text token (AData whole d) (h, inr link) =
    link_again_in text token None (Some whole) (framed_with token (AData whole d)) link (rw (only_again whole h.fields.value 6 h.fields.outer, data_of_again whole d h) refl)
again_with text token (ANack reason whole i) h =
    link_again_in text token (Some reason) (Some whole) (framed_with token (ANack reason whole i)) h.1 (rw (only_again whole h.0.fields.value 5 h.0.fields.outer, interest_of_again whole i h.0) refl)
again_with text token Idle h = link_again_in text token None None (framed_with token Idle) h refl

pub framed_again : (text : List ℕ) (f : PlainFramed) → IsFramed text f → framed_at text ≡ Ok f
framed_again text f h = again_with text f.token f.frame h

-- `frame_at` returns the frame that `framed_at` returns, without its PIT token. `token_at` returns
-- only this PIT token.

pub frame_of_framed : (text : List ℕ) (f : PlainFramed) → framed_at text ≡ Ok f → frame_at text ≡ Ok f.frame
unfolding frame_at
frame_of_framed text f e = rw e refl

pub token_of_framed : (text : List ℕ) (f : PlainFramed) → framed_at text ≡ Ok f → token_at text ≡ f.token
unfolding token_at
token_of_framed text f e = rw e refl

pub framed_of_frame : (text : List ℕ) (f : PlainFrame) → frame_at text ≡ Ok f → (token : Option (List ℕ)) × (framed_at text ≡ Ok (framed_with token f))
unfolding frame_at
framed_of_frame text f e =
    let b = bind_ok (framed_at text) (λ framed. good framed.frame) f e in
    (b.0.token, b.1 ∙ ap (λ (g : PlainFrame). good (framed_with b.0.token g)) (ok_is b.0.frame f b.2))

pub frame_found : (text : List ℕ) (f : PlainFrame) → IsBytes text → frame_at text ≡ Ok f → IsFrame text f
frame_found text f fits e =
    let t = framed_of_frame text f e in
    (t.0, framed_found text (framed_with t.0 f) fits t.1)

pub frame_again : (text : List ℕ) (f : PlainFrame) → IsFrame text f → frame_at text ≡ Ok f
frame_again text f h = frame_of_framed text (framed_with h.0 f) (again_with text h.0 f h.1)

pub found_from : {X : Type 0} (view : X → PlainFrame) (text : List ℕ) (r : Result X PacketFault) → IsBytes text → on_result (λ x. good (view x)) (λ f. Err f) r ≡ frame_at text → IfOk r (λ x. IsFrame text (view x))
found_from view text (Ok x) fits e = frame_found text (view x) fits (sym e)
found_from view text (Err f) fits e = tt

pub framed_from : {X : Type 0} (view : X → PlainFramed) (text : List ℕ) (r : Result X PacketFault) → IsBytes text → on_result (λ x. good (view x)) (λ f. Err f) r ≡ framed_at text → IfOk r (λ x. IsFramed text (view x))
framed_from view text (Ok x) fits e = framed_found text (view x) fits (sym e)
framed_from view text (Err f) fits e = tt
