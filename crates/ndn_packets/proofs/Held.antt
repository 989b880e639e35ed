-- Each packet in memory is the packet that its received octets encode.
use Rattle.std.proofs.Common.{◌≡◌, ℕ, List, [], ◌-◌, ◌≤◌, length, take, ◌∙◌, ap, Option, None, Some, Ok, refl, sym, subst, inl, inr}
use Rattle.std.specs.Prelude.{IsSome, option_map}
use Rattle.ndn_names.specs.Name.{IsNameValue}
use Rattle.ndn_names.specs.View.{components}
use Rattle.std.proofs.Math.Logic.{∥∥₁_elim}
use Rattle.std.proofs.Props.{props}
use Rattle.ndn_tlv.proofs.Numbers.{IsBytes}
use Rattle.ndn_packets.specs.declared.interest.Interest.{Interest}
use Rattle.ndn_packets.specs.declared.data.Data.{Data}
use Rattle.ndn_packets.specs.Packet.{plain_signature, PlainInterest, PlainData, PlainFrame, AnInterest, AData}
use Rattle.ndn_packets.specs.View.{plain_interest, plain_data, IsReadInterest, IsReadData}
use Rattle.ndn_packets.specs.Grammar.{IsInterest, IsData}
use Rattle.ndn_packets.specs.FrameReading.{frame_at}
use Rattle.ndn_packets.specs.Covered.{CoversData, CoversInterest, EndsInDigest, HoldsSecond}
use Rattle.ndn_packets.proofs.Packets.{frame_found, frame_again}
use Rattle.ndn_packets.proofs.Covers.{data_covered, one_covered, covers_any, first_is_front, interest_covered, is_some_map}

IsBytes-prop : (text : List ℕ) → IsProp (IsBytes text)
IsBytes-prop text = hlevel props

reads-prop : (text : List ℕ) (frame : PlainFrame) → IsProp (frame_at text ≡ Ok frame)
reads-prop text frame = hlevel props

octets-prop : (a b : List ℕ) → IsProp (a ≡ b)
octets-prop a b = hlevel props

⊥-prop : IsProp ⊥
⊥-prop = hlevel props

pub interest_held : (text : List ℕ) (i : PlainInterest) → ∥ IsInterest text i ∥₁ → IsInterest text i
interest_held text i held =
    let fits : IsBytes text = ∥∥₁_elim held (IsBytes-prop text) (λ h. h.fields.octets) in
    let read : frame_at text ≡ Ok (AnInterest text i) = ∥∥₁_elim held (reads-prop text (AnInterest text i)) (λ h. frame_again text (AnInterest text i) (None, (h, inl (refl, refl)))) in
    (frame_found text (AnInterest text i) fits read).1.0

pub data_held : (text : List ℕ) (d : PlainData) → ∥ IsData text d ∥₁ → IsData text d
data_held text d held =
    let fits : IsBytes text = ∥∥₁_elim held (IsBytes-prop text) (λ h. h.fields.octets) in
    let read : frame_at text ≡ Ok (AData text d) = ∥∥₁_elim held (reads-prop text (AData text d)) (λ h. frame_again text (AData text d) (None, (h, inl (refl, refl)))) in
    (frame_found text (AData text d) fits read).1.0

pub interest_read : (i : Interest) → IsReadInterest i
interest_read i = interest_held i.whole.now (plain_interest i) i.spelled

pub data_read : (d : Data) → IsReadData d
data_read d = data_held d.whole.now (plain_data d) d.spelled

-- the field `covered` of a Data in memory has the octets that the signature of this Data covers
pub data_covered_read : (d : Data) → CoversData d.whole.now d.covered.now
data_covered_read d =
    let there = data_covered d.whole.now (plain_data d) (data_read d) in
    let packet = AData d.whole.now (plain_data d) in
    let same : d.covered.now ≡ there.0 = ∥∥₁_elim d.covers (octets-prop d.covered.now there.0) (λ c. (one_covered packet d.covered.now [] there.0 [] (c, refl) (there.1, refl)).0) in
    subst (CoversData d.whole.now) (sym same) there.1

pub interest_second_read : (i : Interest) → HoldsSecond (components i.name) i.whole.now (option_map (λ c. c.now) i.covered)
interest_second_read i = held (option_map (λ c. c.now) i.covered) i.covers
  where
    held : (covered : Option (List ℕ)) → ∥ HoldsSecond (components i.name) i.whole.now covered ∥₁ → HoldsSecond (components i.name) i.whole.now covered
    held None covers = λ first second c. ∥∥₁_elim covers ⊥-prop (λ none. none first second c)
    held (Some second) covers =
        elim (covers_any i.whole.now (plain_interest i) (interest_read i)) [
          | inl there ↦
              let same : second ≡ there.1 = ∥∥₁_elim covers (octets-prop second there.1) (λ c. (one_covered (AnInterest i.whole.now (plain_interest i)) c.0 second there.0 there.1 c.1 there.2).1) in
              (there.0, subst (CoversInterest (components i.name) i.whole.now there.0) (sym same) there.2)
          | inr never ↦ absurd (∥∥₁_elim covers ⊥-prop (λ c. never c.0 second c.1))
        ]

pub parts_none : (i : Interest) → i.covered ≡ None → (first second : List ℕ) → CoversInterest (components i.name) i.whole.now first second → ⊥
parts_none i none = subst (λ (covered : Option (List ℕ)). HoldsSecond (components i.name) i.whole.now covered) (ap (option_map (λ c. c.now)) none) (interest_second_read i)

-- If the field `covered` of an Interest in memory has a value, this value is the second of the two
-- parts that the signature covers. The first part is the TLV-VALUE of the name, without the last 34
-- octets of this TLV-VALUE.
pub parts_some : (i : Interest) (octets second : List ℕ) → option_map (λ c. c.now) i.covered ≡ Some second → IsNameValue octets (components i.name)
    → (34 ≤ length octets) × CoversInterest (components i.name) i.whole.now (take (length octets - 34) octets) second
parts_some i octets second some named =
    let there = subst (HoldsSecond (components i.name) i.whole.now) some (interest_second_read i) in
    let front = first_is_front octets i.whole.now there.0 second (components i.name) named there.1 in
    (front.0, subst (λ (first : List ℕ). CoversInterest (components i.name) i.whole.now first second) front.1 there.1)

-- an Interest has covered octets exactly if it is signed and its digest of parameters is the last
-- component of its name
pub covers_where : (i : Interest) → ((first second : List ℕ) → CoversInterest (components i.name) i.whole.now first second → IsSome i.signature × EndsInDigest (components i.name))
    × (IsSome i.signature × EndsInDigest (components i.name) → (first second : List ℕ) × CoversInterest (components i.name) i.whole.now first second)
covers_where i =
    let signed = is_some_map plain_signature i.signature in
    let covered = interest_covered i.whole.now (plain_interest i) (interest_read i) in
    (λ first second c. (let e = covered.0 (first, second, c) in (sym signed ∙ e.0, e.1)), λ e. covered.1 (signed ∙ e.0, e.1))
