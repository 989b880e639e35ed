-- Which packets have octets that a signature covers, and which octets those are.
use Rattle.std.proofs.Common.{◌≡◌, ◌≢◌, ℕ, suc, ◌+◌, ◌-◌, ◌≤◌, ◌⊎◌, Bool, true, false, cond, eqb, List, [], ◌∷◌, ◌++◌, length, take, Option, None, Some, refl, sym, ap, subst, ◌∙◌, append_assoc, arith, inl, inr}
use Rattle.std.specs.Prelude.{IsSome, OnSome, is_some, option_map}
use Rattle.std.specs.List.{flat_map, AllByRecursion}
use Rattle.std.proofs.lemmas.Bool.{eqb-true, eqb-false, ne_eqb}
use Rattle.std.proofs.lemmas.List.{append-nil, length-append, take_at, append_cancel_right}
use Rattle.std.proofs.lemmas.List.Concat.{flat_map-cons, flat_map-append}
use Rattle.std.proofs.lemmas.List.Elements.{filter-append}
use Rattle.sha2.specs.Sha256.{sha256}
use Rattle.ndn_tlv.specs.Element.{Field, IsField, element, IsElement, IsElements}
use Rattle.ndn_packets.specs.Packet.{PlainSignature, PlainInterest, PlainData, PlainFrame, AnInterest, AData, ANack, Idle, digests_in}
use Rattle.ndn_tlv.specs.Writing.{optional, flag}
use Rattle.ndn_packets.specs.Fields.{Fields, is_even_high, interest_schema}
use Rattle.ndn_packets.specs.Grammar.{IsSigned, IsDigested, from_parameters, IsInterest, IsData}
use Rattle.ndn_packets.specs.Covered.{IsCut, from_first, CoversData, CoversInterest, Covered, EndsInDigest, EndsAtSignature, HoldsSecond, IsSignedAt, second_part}
use Rattle.ndn_packets.proofs.Steps.{ok_is, some_is, none_is_not_some}
use Rattle.ndn_names.specs.declared.first_of_type.FirstOfType.{FirstOfType}
use Rattle.ndn_tlv.specs.Number.{spelling}
use Rattle.ndn_names.specs.Name.{IsComponent, IsNameValue}
use Rattle.ndn_names.specs.FirstOfType.{NoneOfType, FindsFirst}
use Rattle.ndn_packets.proofs.Digests.{none_left, digests_from}
use Rattle.ndn_packets.proofs.Packets.{only_again}
use Rattle.ndn_tlv.proofs.Numbers.{IsBytes, IsBytes-back}
use Rattle.ndn_packets.proofs.Cuts.{cut_found, cut_within, cut_read, cut_is, never_cut, never_in, all_front, cut_among}
use Rattle.ndn_packets.proofs.Places.{Others, Met, meet_parameters, meet_info, meet_signature, meet_value, Has, has_following, has_back, others_lack, earlier_others, front_fields, back_fields, fields_are, earlier_front, other_optional, hop_apart, all_both}

-- ---- the octets that `from_first` finds, and the covered octets

outer_one : (text : List ℕ) (kind : ℕ) (value other : List ℕ) → IsElement text kind value → IsElement text kind other → value ≡ other
outer_one text kind value other a b = ap (λ (f : Field). f.1) (ok_is (kind, value) (kind, other) (sym (only_again text value kind a) ∙ only_again text other kind b))

pub value_read : (text value covered : List ℕ) → IsElement text 6 value → (h : CoversData text covered) → from_first 23 value ≡ Some h.from_signature
value_read text value covered outer h = ap (from_first 23) (outer_one text 6 value h.value outer h.outer) ∙ cut_read 23 h.value covered h.from_signature h.cut

pub parameters_read : (name : List Field) (text value first second : List ℕ) → IsElement text 5 value → (h : CoversInterest name text first second) → from_first 36 value ≡ Some h.from_parameters
parameters_read name text value first second outer h = ap (from_first 36) (outer_one text 5 value h.value outer h.outer) ∙ cut_read 36 h.value h.early h.from_parameters h.parameters

pub info_read : (name : List Field) (text value first second from : List ℕ) → IsElement text 5 value → from_first 36 value ≡ Some from → (h : CoversInterest name text first second) → from_first 44 from ≡ Some h.from_info
info_read name text value first second from outer there h =
    let same : from ≡ h.from_parameters = some_is from h.from_parameters (sym there ∙ parameters_read name text value first second outer h) in
    ap (from_first 44) same ∙ cut_read 44 h.from_parameters h.to_info h.from_info h.info

pub signature_read : (name : List Field) (text value first second from from_info : List ℕ) → IsElement text 5 value → from_first 36 value ≡ Some from → from_first 44 from ≡ Some from_info
    → (h : CoversInterest name text first second) → from_first 46 from_info ≡ Some h.from_signature
signature_read name text value first second from from_info outer there info h =
    let same : from_info ≡ h.from_info = some_is from_info h.from_info (sym info ∙ info_read name text value first second from outer there h) in
    ap (from_first 46) same ∙ cut_read 46 h.from_info h.to_signature h.from_signature h.signature

-- if `from` is `to_info ++ to_signature ++ from_signature`, then removing the last
-- `length from_signature` octets of `from` leaves `to_info ++ to_signature`
pub between : (from to_info from_info to_signature from_signature : List ℕ) → from ≡ to_info ++ from_info → from_info ≡ to_signature ++ from_signature
    → take (length from - length from_signature) from ≡ to_info ++ to_signature
between from to_info from_info to_signature from_signature info signature =
    let all : from ≡ (to_info ++ to_signature) ++ from_signature = info ∙ ap (λ (t : List ℕ). to_info ++ t) signature ∙ sym (append_assoc to_info to_signature from_signature) in
    let len : length (to_info ++ to_signature) ≡ length from - length from_signature = omega (arith, ap length all, length-append (to_info ++ to_signature) from_signature) in
    ap (take (length from - length from_signature)) all ∙ take_at (to_info ++ to_signature) from_signature (length from - length from_signature) len

-- ---- the octets that the signature of a Data covers

pub data_covered : (text : List ℕ) (d : PlainData) → IsData text d → (covered : List ℕ) × CoversData text covered
data_covered text d h =
    let fields = h.fields in
    let all = (7, h.name_value) ∷ fields.elements in
    elim (meet_value is_even_high fields.elements _ fields.recognised) [
      | inl m ↦ (
        flat_map element ((7, h.name_value) ∷ m.front),
        record {
          value = fields.value;
          from_signature = flat_map element ((23, m.value) ∷ m.back);
          outer = fields.outer;
          cut = subst (λ (t : List ℕ). IsCut 23 t (flat_map element ((7, h.name_value) ∷ m.front)) (flat_map element ((23, m.value) ∷ m.back))) (sym fields.inner.1)
              (cut_among 23 m.value all ((7, h.name_value) ∷ m.front) m.back fields.inner.0 (ap (λ (es : List Field). (7, h.name_value) ∷ es) m.elements_are) (eqb-false 7 23 refl, m.none));
        },
      )
      | inr m ↦
          let signed : Has 23 (optional 20 h.meta_value ++ (optional 21 d.content ++ ((22, h.info_value) ∷ (23, d.signature.value) ∷ []))) =
          has_following 23 (optional 20 h.meta_value) _ (has_following 23 (optional 21 d.content) ((22, h.info_value) ∷ (23, d.signature.value) ∷ []) (inr (inl refl))) in
          absurd (others_lack 23 _ (earlier_others [] [] 23 _ m.1) signed)
    ]

-- the signature of a Data covers the octets of the Data's TLV-VALUE before the first SignatureValue
pub data_covers : (text value covered from : List ℕ) (d : PlainData) → IsData text d → IsElement text 6 value → from_first 23 value ≡ Some from → covered ≡ take (length value - length from) value → CoversData text covered
data_covers text value covered from d h outer mark is =
    let there = data_covered text d h in
    let at : from ≡ there.1.from_signature = some_is from there.1.from_signature (sym mark ∙ value_read text value there.0 outer there.1) in
    let all : value ≡ there.0 ++ from = outer_one text 6 value there.1.value outer there.1.outer ∙ there.1.cut.octets_are ∙ ap (λ (t : List ℕ). there.0 ++ t) (sym at) in
    let len : length there.0 ≡ length value - length from = omega (arith, ap length all, length-append there.0 from) in
    let front : take (length value - length from) value ≡ there.0 = ap (take (length value - length from)) all ∙ take_at there.0 from (length value - length from) len in
    subst (CoversData text) (sym (is ∙ front)) there.1

-- ---- the positions of the parameters and of the signature in the TLV-VALUE of an Interest

-- `value` is the TLV-VALUE of an Interest. The suffix `from_parameters` of `value` begins at the
-- first ApplicationParameters. The suffix `from_info` of `value` begins at the first
-- InterestSignatureInfo after these ApplicationParameters. The suffix `from_signature` of `value`
-- begins at the first InterestSignatureValue after this InterestSignatureInfo.
record IsCutAt (value from_parameters from_info from_signature : List ℕ) : Type 0 where
  early : List ℕ
  to_info : List ℕ
  to_signature : List ℕ
  parameters : IsCut 36 value early from_parameters
  info : IsCut 44 from_parameters to_info from_info
  signature : IsCut 46 from_info to_signature from_signature

abbrev Cuts : List ℕ → Type 0
Cuts value = (from_parameters from_info from_signature : List ℕ) × IsCutAt value from_parameters from_info from_signature

abbrev HasBoth : List Field → Type 0
HasBoth fields = Has 44 fields × Has 46 fields

-- either both `Cuts value` and `HasBoth fields` hold, or neither of them holds
abbrev Decided : List ℕ → List Field → Type 0
Decided value fields = (Cuts value × HasBoth fields) ⊎ ((Cuts value → ⊥) × (HasBoth fields → ⊥))

has_met : (ignores : ℕ → Bool) (kind : ℕ) (later : List ℕ) (elements fields : List Field) (m : Met ignores kind later elements fields) → Has kind fields
has_met ignores kind later elements fields m = subst (Has kind) (sym m.fields_are) (has_following kind m.early ((kind, m.value) ∷ m.late) (inl refl))

later_met : (ignores : ℕ → Bool) (kind k : ℕ) (later : List ℕ) (elements fields : List Field) (m : Met ignores kind later elements fields) → Has k m.late → Has k fields
later_met ignores kind k later elements fields m h = subst (Has k) (sym m.fields_are) (has_following k m.early ((kind, m.value) ∷ m.late) (inr h))

following_met : (ignores : ℕ → Bool) (kind k : ℕ) (later : List ℕ) (elements fields : List Field) (m : Met ignores kind later elements fields) → Others k m.early → kind ≢ k → Has k fields → Has k m.late
following_met ignores kind k later elements fields m others other h =
    elim (has_back k m.early ((kind, m.value) ∷ m.late) others (subst (Has k) m.fields_are h)) [
      | inl same ↦ absurd (other same)
      | inr there ↦ there
    ]

decided : (value : List ℕ) (name : List ℕ) (elements fields : List Field) → IsElements value ((7, name) ∷ elements) → Fields is_even_high interest_schema elements fields → Decided value fields
decided value name elements fields inner recognised =
    let all = (7, name) ∷ elements in
    elim (meet_parameters is_even_high elements fields recognised) [
      | inr p ↦ inr (
        λ cuts. none_is_not_some cuts.0 (sym (ap (from_first 36) inner.1 ∙ never_in 36 all inner.0 (eqb-false 7 36 refl, p.0)) ∙ cut_read 36 value cuts.3.early cuts.0 cuts.3.parameters),
        λ both. others_lack 44 fields (earlier_others (36 ∷ []) (46 ∷ []) 44 fields p.1) both.0,
      )
      | inl p ↦
          let following = (36, p.value) ∷ p.back in
          let from = flat_map element following in
          let are : all ≡ ((7, name) ∷ p.front) ++ following = ap (λ (es : List Field). (7, name) ∷ es) p.elements_are in
          let before = flat_map element ((7, name) ∷ p.front) in
          let cut : IsCut 36 value before from = subst (λ (t : List ℕ). IsCut 36 t before from) (sym inner.1) (cut_among 36 p.value all ((7, name) ∷ p.front) p.back inner.0 are (eqb-false 7 36 refl, p.none)) in
          let sizes = (all_front IsField ((7, name) ∷ p.front) following (subst (AllByRecursion IsField) are inner.0)).1 in
          let d = decided_info value from before p.value p.back p.late cut refl sizes p.following in
          elim d [
            | inl y ↦ inl (y.0, (later_met is_even_high 36 44 (44 ∷ 46 ∷ []) elements fields p y.1.0, later_met is_even_high 36 46 (44 ∷ 46 ∷ []) elements fields p y.1.1))
            | inr n ↦ inr (
              n.0,
              λ both. n.1 (
                following_met is_even_high 36 44 (44 ∷ 46 ∷ []) elements fields p (earlier_others (36 ∷ []) (46 ∷ []) 44 p.early p.earlier) (eqb-false 36 44 refl) both.0,
                following_met is_even_high 36 46 (44 ∷ 46 ∷ []) elements fields p (earlier_others (36 ∷ 44 ∷ []) [] 46 p.early p.earlier) (eqb-false 36 46 refl) both.1,
              ),
            )
          ]
    ]
  where
    decided_signature : (value from from_info before to_info info : List ℕ) (elements fields : List Field) → IsCut 36 value before from → IsCut 44 from to_info from_info → from_info ≡ flat_map element ((44, info) ∷ elements)
        → AllByRecursion IsField ((44, info) ∷ elements) → Fields is_even_high (46 ∷ []) elements fields → (Cuts value × Has 46 fields) ⊎ ((Cuts value → ⊥) × (Has 46 fields → ⊥))
    decided_signature value from from_info before to_info info elements fields cut cut_info is sizes recognised =
        let all = (44, info) ∷ elements in
        elim (meet_signature is_even_high elements fields recognised) [
          | inr s ↦ inr (
            λ cuts. (
                let at : from ≡ cuts.0 = cut_is 36 value from cuts.3.early cuts.0 (cut_read 36 value before from cut) cuts.3.parameters in
                let at_info : from_info ≡ cuts.1 = cut_is 44 cuts.0 from_info cuts.3.to_info cuts.1 (ap (from_first 44) (sym at) ∙ cut_read 44 from to_info from_info cut_info) cuts.3.info in
                let none : from_first 46 cuts.1 ≡ None = ap (from_first 46) (sym at_info ∙ is) ∙ never_in 46 all sizes (eqb-false 44 46 refl, s.0) in
                never_cut 46 cuts.1 cuts.3.to_signature cuts.2 none cuts.3.signature),
            others_lack 46 fields (earlier_others [] [] 46 fields s.1),
          )
          | inl s ↦
              let from_signature = flat_map element ((46, s.value) ∷ s.back) in
              let to_signature = flat_map element ((44, info) ∷ s.front) in
              let are : all ≡ ((44, info) ∷ s.front) ++ (46, s.value) ∷ s.back = ap (λ (es : List Field). (44, info) ∷ es) s.elements_are in
              let cut_signature : IsCut 46 from_info to_signature from_signature = subst (λ (t : List ℕ). IsCut 46 t to_signature from_signature) (sym is)
              (cut_among 46 s.value all ((44, info) ∷ s.front) s.back sizes are (eqb-false 44 46 refl, s.none)) in
              inl ((from, from_info, from_signature, record { early = before; to_info = to_info; to_signature = to_signature; parameters = cut; info = cut_info; signature = cut_signature }), has_met is_even_high 46 [] elements fields s)
        ]

    decided_info : (value from before parameters : List ℕ) (elements fields : List Field) → IsCut 36 value before from → from ≡ flat_map element ((36, parameters) ∷ elements)
        → AllByRecursion IsField ((36, parameters) ∷ elements) → Fields is_even_high (44 ∷ 46 ∷ []) elements fields → Decided value fields
    decided_info value from before parameters elements fields cut is sizes recognised =
        let all = (36, parameters) ∷ elements in
        elim (meet_info is_even_high elements fields recognised) [
          | inr i ↦ inr (
            λ cuts. (
                let at : from ≡ cuts.0 = cut_is 36 value from cuts.3.early cuts.0 (cut_read 36 value before from cut) cuts.3.parameters in
                let none : from_first 44 cuts.0 ≡ None = ap (from_first 44) (sym at ∙ is) ∙ never_in 44 all sizes (eqb-false 36 44 refl, i.0) in
                never_cut 44 cuts.0 cuts.3.to_info cuts.1 none cuts.3.info),
            λ both. others_lack 44 fields (earlier_others [] (46 ∷ []) 44 fields i.1) both.0,
          )
          | inl i ↦
              let following = (44, i.value) ∷ i.back in
              let from_info = flat_map element following in
              let to_info = flat_map element ((36, parameters) ∷ i.front) in
              let are : all ≡ ((36, parameters) ∷ i.front) ++ following = ap (λ (es : List Field). (36, parameters) ∷ es) i.elements_are in
              let cut_info : IsCut 44 from to_info from_info = subst (λ (t : List ℕ). IsCut 44 t to_info from_info) (sym is) (cut_among 44 i.value all ((36, parameters) ∷ i.front) i.back sizes are (eqb-false 36 44 refl, i.none)) in
              let rest = (all_front IsField ((36, parameters) ∷ i.front) following (subst (AllByRecursion IsField) are sizes)).1 in
              elim (decided_signature value from from_info before to_info i.value i.back i.late cut cut_info refl rest i.following) [
                | inl y ↦ inl (y.0, (has_met is_even_high 44 (46 ∷ []) elements fields i, later_met is_even_high 44 46 (46 ∷ []) elements fields i y.1))
                | inr n ↦ inr (n.0, λ both. n.1 (following_met is_even_high 44 46 (46 ∷ []) elements fields i (earlier_others (44 ∷ []) [] 46 i.early i.earlier) (eqb-false 44 46 refl) both.1))
              ]
        ]

-- ---- which Interests have the fields of a signature

signed_has : (parameters info value : Option (List ℕ)) (signature : Option PlainSignature) → IsSigned info value signature → HasBoth (back_fields parameters info value) → IsSome signature
signed_has parameters None value signature h both =
    absurd (others_lack 44 (optional 46 value) (other_optional 46 44 value (eqb-false 46 44 refl)) (has_back 44 (optional 36 parameters) (optional 46 value) (other_optional 36 44 parameters (eqb-false 36 44 refl)) both.0))
signed_has parameters (Some v) None signature h both =
    absurd (others_lack 46 ((44, v) ∷ []) (eqb-false 44 46 refl, tt) (has_back 46 (optional 36 parameters) ((44, v) ∷ []) (other_optional 36 46 parameters (eqb-false 36 46 refl)) both.1))
signed_has parameters (Some v) (Some w) signature h both = rw h.2 refl

has_signed : (parameters info value : Option (List ℕ)) (signature : Option PlainSignature) → IsSigned info value signature → IsSome signature → HasBoth (back_fields parameters info value)
has_signed parameters None value signature h some = let none : IsSome {T = PlainSignature} None = subst IsSome h some in absurd cc
has_signed parameters (Some v) None signature h some = let none : IsSome {T = PlainSignature} None = subst IsSome h.2 some in absurd cc
has_signed parameters (Some v) (Some w) signature h some = (has_following 44 (optional 36 parameters) _ (inl refl), has_following 46 (optional 36 parameters) _ (inr (inl refl)))

-- In this module, `all_fields` are the fields of an Interest after the Name, and `back` are the
-- fields after the HopLimit. If `all_fields` has an InterestSignatureInfo and an
-- InterestSignatureValue, both are in `back`.
module _ (prefix fresh : Bool) (hint : Option (List ℕ)) (nonce : List ℕ) (lifetime hop : Option (List ℕ)) (back : List Field) where
  abbrev all_fields : List Field
  all_fields = flag 33 prefix ++ (flag 18 fresh ++ (optional 30 hint ++ ((10, nonce) ∷ (optional 12 lifetime ++ (optional 34 hop ++ back)))))

  are : all_fields ≡ front_fields prefix fresh hint nonce lifetime ++ (optional 34 hop ++ back)
  are = fields_are prefix fresh hint nonce lifetime (optional 34 hop ++ back)

  has_all : (kind : ℕ) → Has kind back → Has kind all_fields
  has_all kind h = subst (Has kind) (sym are) (has_following kind (front_fields prefix fresh hint nonce lifetime) (optional 34 hop ++ back) (has_following kind (optional 34 hop) back h))

  in_back : (kind : ℕ) → Others kind (front_fields prefix fresh hint nonce lifetime) → 34 ≢ kind → Has kind all_fields → Has kind back
  in_back kind others other h =
      has_back kind (optional 34 hop) back (other_optional 34 kind hop other) (has_back kind (front_fields prefix fresh hint nonce lifetime) (optional 34 hop ++ back) others (subst (Has kind) are h))

  both_in_back : HasBoth all_fields → HasBoth back
  both_in_back h =
      let earlier = earlier_front (34 ∷ 36 ∷ 44 ∷ 46 ∷ []) prefix fresh hint nonce lifetime hop_apart in (
        in_back 44 (earlier_others (34 ∷ 36 ∷ []) (46 ∷ []) 44 _ earlier) (eqb-false 34 44 refl) h.0,
        in_back 46 (earlier_others (34 ∷ 36 ∷ 44 ∷ []) [] 46 _ earlier) (eqb-false 34 46 refl) h.1,
      )

pub interest_covered : (text : List ℕ) (i : PlainInterest) → IsInterest text i
    → (((first second : List ℕ) × CoversInterest i.name text first second) → IsSome i.signature × EndsInDigest i.name) × ((IsSome i.signature × EndsInDigest i.name) → ((first second : List ℕ) × CoversInterest i.name text first second))
interest_covered text i h =
    let value = h.fields.value in
    let back = back_fields i.parameters h.info_value h.signature_value in
    let d = decided value h.name_value h.fields.elements _ h.fields.inner h.fields.recognised in (
      λ x. (
        elim d [
          | inl y ↦ signed_has i.parameters h.info_value h.signature_value i.signature h.signature (both_in_back i.can_be_prefix i.must_be_fresh h.hint i.nonce h.lifetime_value h.hop_value back y.1)
          | inr n ↦ absurd (n.0 (cuts_of x.2 (outer_one text 5 x.2.value value x.2.outer h.fields.outer)))
        ],
        (x.2.components, x.2.digest, x.2.named),
      ),
      λ s. elim d [
        | inl y ↦ (
          flat_map element s.1.0,
          y.0.3.to_info ++ y.0.3.to_signature,
          record {
            components = s.1.0;
            digest = s.1.1;
            value = value;
            early = y.0.3.early;
            from_parameters = y.0.0;
            to_info = y.0.3.to_info;
            from_info = y.0.1;
            to_signature = y.0.3.to_signature;
            from_signature = y.0.2;
            named = s.1.2;
            outer = h.fields.outer;
            parameters = y.0.3.parameters;
            info = y.0.3.info;
            signature = y.0.3.signature;
            first_is = refl;
            second_is = refl;
          },
        )
        | inr n ↦
            let both = has_signed i.parameters h.info_value h.signature_value i.signature h.signature s.0 in
            let has = has_all i.can_be_prefix i.must_be_fresh h.hint i.nonce h.lifetime_value h.hop_value back in
            absurd (n.1 (has 44 both.0, has 46 both.1))
      ],
    )
  where
    cuts_of : {first second value : List ℕ} (c : CoversInterest i.name text first second) → c.value ≡ value → Cuts value
    cuts_of c same = subst Cuts same (
      c.from_parameters,
      c.from_info,
      c.from_signature,
      record {
        early = c.early;
        to_info = c.to_info;
        to_signature = c.to_signature;
        parameters = c.parameters;
        info = c.info;
        signature = c.signature;
      },
    )

-- ---- the covered octets of an Interest end where its InterestSignatureValue begins

-- if two lists of fields are equal, the first field of type `kind` has the same value in both
first_value : (kind : ℕ) (xs us ys vs : List Field) (v w : List ℕ) → Others kind xs → Others kind us → xs ++ (kind, v) ∷ ys ≡ us ++ (kind, w) ∷ vs → v ≡ w
first_value kind [] [] ys vs v w p q e = (let first : (kind, v) ≡ (kind, w) = cc in ap (λ (f : Field). f.1) first)
first_value kind [] (u ∷ us) ys vs v w p q e = (let first : (kind, v) ≡ u = cc in absurd (q.0 (sym (ap (λ (f : Field). f.0) first))))
first_value kind (x ∷ xs) [] ys vs v w p q e = (let first : x ≡ (kind, w) = cc in absurd (p.0 (ap (λ (f : Field). f.0) first)))
first_value kind (x ∷ xs) (u ∷ us) ys vs v w p q e = (let rest : xs ++ (kind, v) ∷ ys ≡ us ++ (kind, w) ∷ vs = cc in first_value kind xs us ys vs v w p.1 q.1 rest)

-- `from` begins with the element of the first field of type `kind` in `fields`
record Begins (kind : ℕ) (from : List ℕ) (fields : List Field) : Type 0 where
  value : List ℕ
  after : List ℕ
  early : List Field
  late : List Field
  from_is : from ≡ element (kind, value) ++ after
  fields_are : fields ≡ early ++ (kind, value) ∷ late
  others : Others kind early

-- if `octets` are cut before the first element of type `kind`, the octets after the cut are this
-- element and all elements after this element
begins : (ignores : ℕ → Bool) (kind : ℕ) (later : List ℕ) (octets before from : List ℕ) (first : Field) (elements fields : List Field) (m : Met ignores kind later elements fields) → first.0 ≢ kind
    → octets ≡ flat_map element (first ∷ elements) → AllByRecursion IsField (first ∷ elements) → IsCut kind octets before from → from ≡ flat_map element ((kind, m.value) ∷ m.back)
begins ignores kind later octets before from first elements fields m other is sizes cut =
    let own : IsCut kind octets (flat_map element (first ∷ m.front)) (flat_map element ((kind, m.value) ∷ m.back)) =
    subst (λ (t : List ℕ). IsCut kind t (flat_map element (first ∷ m.front)) (flat_map element ((kind, m.value) ∷ m.back))) (sym is)
    (cut_among kind m.value (first ∷ elements) (first ∷ m.front) m.back sizes (ap (λ (es : List Field). first ∷ es) m.elements_are) (other, m.none)) in
    sym (cut_is kind octets (flat_map element ((kind, m.value) ∷ m.back)) before from (cut_read kind octets _ _ own) cut)

-- if `Begins` holds for `late`, it also holds for `fields`, because no field before `late` has type
-- `kind`
begins_following : (kind k : ℕ) (from : List ℕ) (v : List ℕ) (early late fields : List Field) → fields ≡ early ++ (k, v) ∷ late → Others kind early → k ≢ kind → Begins kind from late → Begins kind from fields
begins_following kind k from v early late fields is others other b = record {
  value = b.value;
  after = b.after;
  early = early ++ (k, v) ∷ b.early;
  late = b.late;
  from_is = b.from_is;
  fields_are = is ∙ ap (λ (fs : List Field). early ++ (k, v) ∷ fs) b.fields_are ∙ sym (append_assoc early ((k, v) ∷ b.early) ((kind, b.value) ∷ b.late));
  others = all_both (λ f. f.0 ≢ kind) early ((k, v) ∷ b.early) others (other, b.others);
}

-- if all elements have valid types and lengths, the elements from the field of type `kind` on have
-- valid types and lengths
sizes_following : (ignores : ℕ → Bool) (kind : ℕ) (later : List ℕ) (first : Field) (elements fields : List Field) (m : Met ignores kind later elements fields) → AllByRecursion IsField (first ∷ elements)
    → AllByRecursion IsField ((kind, m.value) ∷ m.back)
sizes_following ignores kind later first elements fields m sizes = (all_front IsField m.front ((kind, m.value) ∷ m.back) (subst (AllByRecursion IsField) m.elements_are sizes.1)).1

begins_value : (from_info to_signature from_signature info : List ℕ) (elements fields : List Field) → from_info ≡ flat_map element ((44, info) ∷ elements) → AllByRecursion IsField ((44, info) ∷ elements)
    → Fields is_even_high (46 ∷ []) elements fields → IsCut 46 from_info to_signature from_signature → Begins 46 from_signature fields
begins_value from_info to_signature from_signature info elements fields is sizes recognised cut =
    elim (meet_signature is_even_high elements fields recognised) [
      | inl m ↦ record {
        value = m.value;
        after = flat_map element m.back;
        early = m.early;
        late = m.late;
        from_is = begins is_even_high 46 [] from_info to_signature from_signature (44, info) elements fields m (eqb-false 44 46 refl) is sizes cut ∙ flat_map-cons element (46, m.value) m.back;
        fields_are = m.fields_are;
        others = earlier_others [] [] 46 m.early m.earlier;
      }
      | inr n ↦ absurd (never_cut 46 from_info to_signature from_signature (ap (from_first 46) is ∙ never_in 46 ((44, info) ∷ elements) sizes (eqb-false 44 46 refl, n.0)) cut)
    ]

begins_info : (from_parameters to_info from_info to_signature from_signature parameters : List ℕ) (elements fields : List Field) → from_parameters ≡ flat_map element ((36, parameters) ∷ elements)
    → AllByRecursion IsField ((36, parameters) ∷ elements) → Fields is_even_high (44 ∷ 46 ∷ []) elements fields → IsCut 44 from_parameters to_info from_info → IsCut 46 from_info to_signature from_signature
    → Begins 46 from_signature fields
begins_info from_parameters to_info from_info to_signature from_signature parameters elements fields is sizes recognised cut cut_signature =
    elim (meet_info is_even_high elements fields recognised) [
      | inl m ↦
          let at = begins is_even_high 44 (46 ∷ []) from_parameters to_info from_info (36, parameters) elements fields m (eqb-false 36 44 refl) is sizes cut in
          let b = begins_value from_info to_signature from_signature m.value m.back m.late at (sizes_following is_even_high 44 (46 ∷ []) (36, parameters) elements fields m sizes) m.following cut_signature in
          begins_following 46 44 from_signature m.value m.early m.late fields m.fields_are (earlier_others (44 ∷ []) [] 46 m.early m.earlier) (eqb-false 44 46 refl) b
      | inr n ↦ absurd (never_cut 44 from_parameters to_info from_info (ap (from_first 44) is ∙ never_in 44 ((36, parameters) ∷ elements) sizes (eqb-false 36 44 refl, n.0)) cut)
    ]

begins_parameters : (value early from_parameters to_info from_info to_signature from_signature name : List ℕ) (elements fields : List Field) → IsElements value ((7, name) ∷ elements) → Fields is_even_high interest_schema elements fields
    → IsCut 36 value early from_parameters → IsCut 44 from_parameters to_info from_info → IsCut 46 from_info to_signature from_signature → Begins 46 from_signature fields
begins_parameters value early from_parameters to_info from_info to_signature from_signature name elements fields inner recognised cut cut_info cut_signature =
    elim (meet_parameters is_even_high elements fields recognised) [
      | inl m ↦
          let at = begins is_even_high 36 (44 ∷ 46 ∷ []) value early from_parameters (7, name) elements fields m (eqb-false 7 36 refl) inner.1 inner.0 cut in
          let b = begins_info from_parameters to_info from_info to_signature from_signature m.value m.back m.late at (sizes_following is_even_high 36 (44 ∷ 46 ∷ []) (7, name) elements fields m inner.0) m.following cut_info cut_signature in
          begins_following 46 36 from_signature m.value m.early m.late fields m.fields_are (earlier_others (36 ∷ 44 ∷ []) [] 46 m.early m.earlier) (eqb-false 36 46 refl) b
      | inr n ↦ absurd (never_cut 36 value early from_parameters (ap (from_first 36) inner.1 ∙ never_in 36 ((7, name) ∷ elements) inner.0 (eqb-false 7 36 refl, n.0)) cut)
    ]

pub data_ends : (text : List ℕ) (d : PlainData) (covered : List ℕ) → IsData text d → CoversData text covered → (after : List ℕ) × IsElement text 6 (covered ++ (element (23, d.signature.value) ++ after))
data_ends text d covered h c =
    let fields = h.fields in
    let inside = outer_one text 6 c.value fields.value c.outer fields.outer in
    elim (meet_value is_even_high fields.elements _ fields.recognised) [
      | inl m ↦
          let at = begins is_even_high 23 [] c.value covered c.from_signature (7, h.name_value) fields.elements _ m (eqb-false 7 23 refl) (inside ∙ fields.inner.1) fields.inner.0 c.cut in
          let before = optional 20 h.meta_value ++ (optional 21 d.content ++ (22, h.info_value) ∷ []) in
          let others : Others 23 before = all_both (λ f. f.0 ≢ 23) (optional 20 h.meta_value) _ (other_optional 20 23 h.meta_value (eqb-false 20 23 refl))
          (all_both (λ f. f.0 ≢ 23) (optional 21 d.content) ((22, h.info_value) ∷ []) (other_optional 21 23 d.content (eqb-false 21 23 refl)) (eqb-false 22 23 refl, tt)) in
          let are : optional 20 h.meta_value ++ (optional 21 d.content ++ ((22, h.info_value) ∷ (23, d.signature.value) ∷ [])) ≡ before ++ (23, d.signature.value) ∷ [] =
          ap (λ (fs : List Field). optional 20 h.meta_value ++ fs) (sym (append_assoc (optional 21 d.content) ((22, h.info_value) ∷ []) ((23, d.signature.value) ∷ [])))
          ∙ sym (append_assoc (optional 20 h.meta_value) (optional 21 d.content ++ (22, h.info_value) ∷ []) ((23, d.signature.value) ∷ [])) in
          let same : m.value ≡ d.signature.value = first_value 23 m.early before m.late [] m.value d.signature.value (earlier_others [] [] 23 m.early m.earlier) others (sym m.fields_are ∙ are) in
          let from : c.from_signature ≡ element (23, d.signature.value) ++ flat_map element m.back = at ∙ flat_map-cons element (23, m.value) m.back ∙ ap (λ (v : List ℕ). element (23, v) ++ flat_map element m.back) same in
          (flat_map element m.back, subst (IsElement text 6) (c.cut.octets_are ∙ ap (λ (t : List ℕ). covered ++ t) from) c.outer)
      | inr n ↦ absurd (never_cut 23 c.value covered c.from_signature (ap (from_first 23) (inside ∙ fields.inner.1) ∙ never_in 23 ((7, h.name_value) ∷ fields.elements) fields.inner.0 (eqb-false 7 23 refl, n.0)) c.cut)
    ]

-- if an Interest has a signature, the signature's value is the TLV-VALUE of the
-- InterestSignatureValue
signed_value : (info value : Option (List ℕ)) (signature : Option PlainSignature) (s : PlainSignature) → IsSigned info value signature → signature ≡ Some s → value ≡ Some s.value
signed_value None value signature s h is = absurd (none_is_not_some s (sym h ∙ is))
signed_value (Some v) None signature s h is = absurd (none_is_not_some s (sym h.2 ∙ is))
signed_value (Some v) (Some w) signature s h is = ap (λ (t : PlainSignature). Some t.value) (some_is _ s (sym h.2 ∙ is))

-- if the signature of an Interest covers two parts, the octets after the second part begin with the
-- InterestSignatureValue
value_at : (text : List ℕ) (i : PlainInterest) (s : PlainSignature) (first second : List ℕ) → IsInterest text i → i.signature ≡ Some s → (c : CoversInterest i.name text first second)
    → (after : List ℕ) × (c.from_signature ≡ element (46, s.value) ++ after)
value_at text i s first second h signed c =
    let fields = h.fields in
    let inside = outer_one text 5 c.value fields.value c.outer fields.outer in
    let b = begins_parameters c.value c.early c.from_parameters c.to_info c.from_info c.to_signature c.from_signature h.name_value fields.elements _ (subst (λ (t : List ℕ). IsElements t ((7, h.name_value) ∷ fields.elements)) (sym inside) fields.inner)
    fields.recognised c.parameters c.info c.signature in
    let value = signed_value h.info_value h.signature_value i.signature s h.signature signed in
    let early = front_fields i.can_be_prefix i.must_be_fresh h.hint i.nonce h.lifetime_value in
    let later = optional 34 h.hop_value ++ (optional 36 i.parameters ++ optional 44 h.info_value) in
    let others : Others 46 (early ++ later) = all_both (λ f. f.0 ≢ 46) early later
    (earlier_others (34 ∷ 36 ∷ 44 ∷ []) [] 46 early (earlier_front (34 ∷ 36 ∷ 44 ∷ 46 ∷ []) i.can_be_prefix i.must_be_fresh h.hint i.nonce h.lifetime_value hop_apart))
    (all_both (λ f. f.0 ≢ 46) (optional 34 h.hop_value) _ (other_optional 34 46 h.hop_value (eqb-false 34 46 refl))
    (all_both (λ f. f.0 ≢ 46) (optional 36 i.parameters) (optional 44 h.info_value) (other_optional 36 46 i.parameters (eqb-false 36 46 refl)) (other_optional 44 46 h.info_value (eqb-false 44 46 refl)))) in
    let last : later ++ optional 46 h.signature_value ≡ optional 34 h.hop_value ++ back_fields i.parameters h.info_value h.signature_value =
    append_assoc (optional 34 h.hop_value) (optional 36 i.parameters ++ optional 44 h.info_value) (optional 46 h.signature_value)
    ∙ ap (λ (fs : List Field). optional 34 h.hop_value ++ fs) (append_assoc (optional 36 i.parameters) (optional 44 h.info_value) (optional 46 h.signature_value)) in
    let are : (early ++ later) ++ (46, s.value) ∷ [] ≡ b.early ++ (46, b.value) ∷ b.late =
    append_assoc early later ((46, s.value) ∷ []) ∙ ap (λ (v : Option (List ℕ)). early ++ (later ++ optional 46 v)) (sym value) ∙ ap (λ (fs : List Field). early ++ fs) last
    ∙ sym (fields_are i.can_be_prefix i.must_be_fresh h.hint i.nonce h.lifetime_value (optional 34 h.hop_value ++ back_fields i.parameters h.info_value h.signature_value)) ∙ b.fields_are in
    let same : s.value ≡ b.value = first_value 46 (early ++ later) b.early [] b.late s.value b.value others b.others are in
    (b.after, b.from_is ∙ ap (λ (v : List ℕ). element (46, v) ++ b.after) (sym same))

-- `from_parameters` returns the list of fields from the first ApplicationParameters on
from_met : (front back : List Field) (value : List ℕ) → Others 36 front → from_parameters (front ++ (36, value) ∷ back) ≡ (36, value) ∷ back
from_met [] back value others = refl
from_met (e ∷ front) back value others = rw (ne_eqb e.0 36 others.0) (from_met front back value others.1)

parameters_at : (value early from name : List ℕ) (elements fields : List Field) → IsElements value ((7, name) ∷ elements) → Fields is_even_high interest_schema elements fields → IsCut 36 value early from
    → from ≡ flat_map element (from_parameters elements)
parameters_at value early from name elements fields inner recognised cut =
    elim (meet_parameters is_even_high elements fields recognised) [
      | inl m ↦
          begins is_even_high 36 (44 ∷ 46 ∷ []) value early from (7, name) elements fields m (eqb-false 7 36 refl) inner.1 inner.0 cut
          ∙ ap (flat_map element) (sym (ap from_parameters m.elements_are ∙ from_met m.front m.back m.value m.none))
      | inr n ↦ absurd (never_cut 36 value early from (ap (from_first 36) inner.1 ∙ never_in 36 ((7, name) ∷ elements) inner.0 (eqb-false 7 36 refl, n.0)) cut)
    ]

same_last : {A : Type 0} (xs ys : List A) (x y : A) → xs ++ x ∷ [] ≡ ys ++ y ∷ [] → (xs ≡ ys) × (x ≡ y)
same_last [] [] x y e = (refl, cc)
same_last [] (b ∷ []) x y e = absurd cc
same_last [] (b ∷ c ∷ ys) x y e = absurd cc
same_last (a ∷ []) [] x y e = absurd cc
same_last (a ∷ c ∷ xs) [] x y e = absurd cc
same_last (a ∷ xs) (b ∷ ys) x y e =
    let first : a ≡ b = cc in
    let rest : xs ++ x ∷ [] ≡ ys ++ y ∷ [] = cc in
    let r = same_last xs ys x y rest in
    ((λ k. first k ∷ r.0 k), r.1)

not_empty : {A : Type 0} (xs ys : List A) (x : A) → xs ++ x ∷ ys ≡ [] → ⊥
not_empty [] ys x e = cc
not_empty (a ∷ xs) ys x e = cc

never_empty : {A : Type 0} (xs : List A) (x : A) → xs ++ x ∷ [] ≡ [] → ⊥
never_empty [] x e = cc
never_empty (a ∷ xs) x e = cc

-- if the name of an Interest ends in a digest of parameters, this digest is SHA-256 of the elements
-- from the ApplicationParameters on
digest_is : (name elements components : List Field) (digest : List ℕ) (parameters : Option (List ℕ)) → name ≡ components ++ (2, digest) ∷ [] → IsDigested name elements parameters
    → digest ≡ sha256 (flat_map element (from_parameters elements))
digest_is name elements components digest None is h =
    absurd (never_empty (digests_in components) (2, digest) (sym (filter-append (λ (c : Field). eqb c.0 2) components ((2, digest) ∷ [])) ∙ ap digests_in (sym is) ∙ h))
digest_is name elements components digest (Some p) is h =
    let right = sha256 (flat_map element (from_parameters elements)) in
    ap (λ (f : Field). f.1) (same_last (digests_in components) [] (2, digest) (2, right) (sym (filter-append (λ (c : Field). eqb c.0 2) components ((2, digest) ∷ [])) ∙ ap digests_in (sym is) ∙ h)).1

pub interest_ends : (text : List ℕ) (i : PlainInterest) (s : PlainSignature) (first second : List ℕ) → IsInterest text i → i.signature ≡ Some s → CoversInterest i.name text first second
    → EndsAtSignature i.name s.value text first second
interest_ends text i s first second h signed c =
    let fields = h.fields in
    let v = value_at text i s first second h signed c in
    let inner = subst (λ (t : List ℕ). IsElements t ((7, h.name_value) ∷ fields.elements)) (outer_one text 5 fields.value c.value fields.outer c.outer) fields.inner in
    let from : c.from_parameters ≡ second ++ (element (46, s.value) ++ v.0) = c.info.octets_are ∙ ap (λ (t : List ℕ). c.to_info ++ t) (c.signature.octets_are ∙ ap (λ (t : List ℕ). c.to_signature ++ t) v.1)
    ∙ sym (append_assoc c.to_info c.to_signature (element (46, s.value) ++ v.0)) ∙ ap (λ (t : List ℕ). t ++ (element (46, s.value) ++ v.0)) (sym c.second_is) in
    let digest : c.digest ≡ sha256 (second ++ (element (46, s.value) ++ v.0)) = digest_is i.name fields.elements c.components c.digest i.parameters c.named h.digested
    ∙ ap sha256 (sym (parameters_at c.value c.early c.from_parameters h.name_value fields.elements _ inner fields.recognised c.parameters) ∙ from) in
    record {
      components = c.components;
      early = c.early;
      after = v.0;
      named = c.named ∙ ap (λ (d : List ℕ). c.components ++ (2, d) ∷ []) digest;
      first_is = c.first_is;
      outer = subst (IsElement text 5) (c.parameters.octets_are ∙ ap (λ (t : List ℕ). c.early ++ t) from) c.outer;
    }

-- ---- the digest at the end of an Interest's name, and the two parts that a signature covers

-- Let a name end in a digest of parameters, and let `back` be the components of the name after some
-- digest of parameters. If no component in `back` is a digest of parameters, `back` is empty.
last_one : (front back components : List Field) (v d : List ℕ) → NoneOfType 2 back → front ++ (2, v) ∷ back ≡ components ++ (2, d) ∷ [] → back ≡ []
last_one [] back [] v d none e = cc
last_one [] back (c ∷ components) v d none e =
    let rest : back ≡ components ++ (2, d) ∷ [] = cc in
    absurd ((all_front (λ f. f.0 ≢ 2) components ((2, d) ∷ []) (subst (NoneOfType 2) rest none)).1.0 refl)
last_one (f ∷ front) back [] v d none e = let rest : front ++ (2, v) ∷ back ≡ [] = cc in absurd (not_empty front back (2, v) rest)
last_one (f ∷ front) back (c ∷ components) v d none e =
    let rest : front ++ (2, v) ∷ back ≡ components ++ (2, d) ∷ [] = cc in
    last_one front back components v d none rest

-- the name of an Interest has at most one digest of parameters
only_one : (name elements : List Field) (parameters : Option (List ℕ)) (x : Field) (others : List Field) → digests_in name ≡ x ∷ others → IsDigested name elements parameters → others ≡ []
only_one name elements None x others is h = absurd (let no : x ∷ others ≡ [] = sym is ∙ h in cc)
only_one name elements (Some p) x others is h = (let same = sym is ∙ h in cc)

no_digest : (name : List Field) (text first second : List ℕ) → NoneOfType 2 name → CoversInterest name text first second → ⊥
no_digest name text first second none c = (all_front (λ f. f.0 ≢ 2) c.components ((2, c.digest) ∷ []) (subst (NoneOfType 2) c.named none)).1.0 refl

not_both : (b : Bool) → b ≡ false → b ≡ true → ⊥
not_both b e t = cc

pub second_noted : (text value : List ℕ) (i : PlainInterest) (digest : Option FirstOfType) (p v : List ℕ) → IsInterest text i → IsElement text 5 value → FindsFirst 2 i.name digest → OnSome i.signature (IsSignedAt value p v)
    → HoldsSecond i.name text (second_part i.signature digest p v)
second_noted text value i digest p v h outer found at =
    elim (i.signature) as (λ s. i.signature ≡ s → OnSome s (IsSignedAt value p v) → HoldsSecond i.name text (second_part s digest p v)) [
      | None ↦ λ is _. λ first second c. (let some : IsSome {T = PlainSignature} None = subst IsSome is ((interest_covered text i h).0 (first, second, c)).0 in absurd cc)
      | Some s ↦ λ is at. of_digest digest found s is at
    ] refl at
  where
    of_digest : (digest : Option FirstOfType) → FindsFirst 2 i.name digest → (s : PlainSignature) → i.signature ≡ Some s → IsSignedAt value p v → HoldsSecond i.name text (second_part (Some s) digest p v)
    of_digest None none s is at = λ first second c. no_digest i.name text first second none c
    of_digest (Some d) there s is at =
        elim (d.is_last) as (λ b. d.is_last ≡ b → HoldsSecond i.name text (cond b (Some (take (length p - length v) p)) None)) [
          | true ↦ λ last.
              let end : i.name ≡ there.front ++ (2, d.value.now) ∷ [] = there.components_are ∙ ap (λ (cs : List Field). there.front ++ (2, d.value.now) ∷ cs) (there.last.0 last) in
              let c = (interest_covered text i h).1 (subst IsSome (sym is) refl, (there.front, d.value.now, end)) in
              let parameters : p ≡ c.2.from_parameters = some_is p c.2.from_parameters (sym at.1 ∙ parameters_read i.name text value c.0 c.1 outer c.2) in
              let value_at : v ≡ c.2.from_signature = some_is v c.2.from_signature (sym at.3 ∙ signature_read i.name text value c.0 c.1 p at.0 outer at.1 at.2 c.2) in
              let second : c.1 ≡ take (length p - length v) p = c.2.second_is ∙ sym (between c.2.from_parameters c.2.to_info c.2.from_info c.2.to_signature c.2.from_signature c.2.info.octets_are c.2.signature.octets_are)
              ∙ (λ k. take (length (sym parameters k) - length (sym value_at k)) (sym parameters k)) in
              (c.0, subst (λ (t : List ℕ). CoversInterest i.name text c.0 t) second c.2)
          | false ↦ λ others. λ first second c.
              let alone : digests_in there.back ≡ [] = only_one i.name h.fields.elements i.parameters (2, d.value.now) (digests_in there.back) (digests_from i.name d there) h.digested in
              let last = there.last.1 (last_one there.front there.back c.components d.value.now c.digest (none_left there.back alone) (sym there.components_are ∙ c.named)) in
              not_both d.is_last others last
        ] refl

-- it is decidable whether the last component of a name is a digest of parameters
ends_in_digest : (name : List Field) → EndsInDigest name ⊎ (EndsInDigest name → ⊥)
ends_in_digest [] = inr (λ e. never_empty e.0 (2, e.1) (sym e.2))
ends_in_digest (c ∷ []) =
    elim (eqb c.0 2) as (λ b. eqb c.0 2 ≡ b → EndsInDigest (c ∷ []) ⊎ (EndsInDigest (c ∷ []) → ⊥)) [
      | true ↦ λ is. inl ([], c.1, (λ k. (eqb-true c.0 2 is k, c.1) ∷ []))
      | false ↦ λ other. inr (λ e. eqb-false c.0 2 other (ap (λ (f : Field). f.0) (same_last [] e.0 c (2, e.1) e.2).1))
    ] refl
ends_in_digest (c ∷ d ∷ name) =
    elim (ends_in_digest (d ∷ name)) [
      | inl e ↦ inl (c ∷ e.0, e.1, ap (λ (cs : List Field). c ∷ cs) e.2)
      | inr n ↦ inr (λ e. following e.0 e.1 n e.2)
    ]
  where
    following : (front : List Field) (digest : List ℕ) → (EndsInDigest (d ∷ name) → ⊥) → c ∷ d ∷ name ≡ front ++ (2, digest) ∷ [] → ⊥
    following [] digest n e = cc
    following (f ∷ front) digest n e = let rest : d ∷ name ≡ front ++ (2, digest) ∷ [] = cc in n (front, digest, rest)

-- it is decidable whether the signature of an Interest covers two parts
pub covers_any : (text : List ℕ) (i : PlainInterest) → IsInterest text i → ((first second : List ℕ) × CoversInterest i.name text first second) ⊎ ((first second : List ℕ) → CoversInterest i.name text first second → ⊥)
covers_any text i h =
    elim (ends_in_digest i.name) [
      | inr n ↦ inr (λ first second c. n (c.components, c.digest, c.named))
      | inl e ↦
          elim (i.signature) as (λ s. i.signature ≡ s → ((first second : List ℕ) × CoversInterest i.name text first second) ⊎ ((first second : List ℕ) → CoversInterest i.name text first second → ⊥)) [
            | None ↦ λ is. inr (λ first second c. (let some : IsSome {T = PlainSignature} None = subst IsSome is ((interest_covered text i h).0 (first, second, c)).0 in absurd cc))
            | Some s ↦ λ is. inl ((interest_covered text i h).1 (subst IsSome (sym is) refl, e))
          ] refl
    ]

digest_len : (digest : List ℕ) → length digest ≡ 32 → length (element (2, digest)) ≡ 34
unfolding spelling
digest_len digest is = rw is (ap (λ n. suc (suc n)) is)

-- if the signature of an Interest covers two parts, the TLV-VALUE of the Interest's name has at
-- least 34 octets, and the first part is this TLV-VALUE without its last 34 octets
pub first_is_front : (octets text first second : List ℕ) (name : List Field) → IsNameValue octets name → CoversInterest name text first second → (34 ≤ length octets) × (first ≡ take (length octets - 34) octets)
first_is_front octets text first second name h c =
    let digest : length c.digest ≡ 32 = (all_front IsComponent c.components ((2, c.digest) ∷ []) (subst (AllByRecursion IsComponent) c.named h.1.1)).1.0.2 (omega arith) in
    let all : octets ≡ first ++ element (2, c.digest) = h.0.1 ∙ ap (flat_map element) c.named ∙ flat_map-append element c.components ((2, c.digest) ∷ []) ∙ (λ k. sym c.first_is k ++ append-nil (element (2, c.digest)) k) in
    let len : length octets ≡ length first + 34 = ap length all ∙ length-append first (element (2, c.digest)) ∙ ap (λ n. length first + n) (digest_len c.digest digest) in
    let front : length first ≡ length octets - 34 = omega arith in
    (omega arith, sym (ap (take (length octets - 34)) all ∙ take_at first (element (2, c.digest)) (length octets - 34) front))

-- if `IsSignedAt` holds for `rest`, the octets after the Name of an Interest, `IsSignedAt` also
-- holds for `value`, the whole TLV-VALUE of the Interest
pub noted_after : (value rest p v : List ℕ) → ((kind : ℕ) → kind ≢ 7 → from_first kind value ≡ from_first kind rest) → IsSignedAt rest p v → IsSignedAt value p v
noted_after value rest p v place at = (at.0, place 36 (eqb-false 36 7 refl) ∙ at.1, at.2, at.3)

pub second_within : (octets p v : List ℕ) → IsBytes octets → IsSignedAt octets p v → length v ≤ length p
second_within octets p v fits at =
    let whole = cut_found 36 octets p fits at.1 in
    let from_p = IsBytes-back whole.0 p (subst IsBytes whole.1.octets_are fits) in
    let info = cut_found 44 p at.0 from_p at.2 in
    let from_info = IsBytes-back info.0 at.0 (subst IsBytes info.1.octets_are from_p) in
    let in_p = cut_within 44 p at.0 from_p at.2 in
    let in_info = cut_within 46 at.0 v from_info at.3 in
    omega arith

-- ---- a packet determines its covered octets

-- octets have at most one cut before the first element of type `kind`
one_cut : (kind : ℕ) (octets other before from front back : List ℕ) → octets ≡ other → IsCut kind octets before from → IsCut kind other front back → (before ≡ front) × (from ≡ back)
one_cut kind octets other before from front back same cut again =
    let following : from ≡ back = cut_is kind other from front back (ap (from_first kind) (sym same) ∙ cut_read kind octets before from cut) again in
    (append_cancel_right before front from (sym cut.octets_are ∙ same ∙ again.octets_are ∙ ap (λ (t : List ℕ). front ++ t) (sym following)), following)

pub one_covered : (packet : PlainFrame) (first second other_first other_second : List ℕ) → Covered packet first second → Covered packet other_first other_second → (first ≡ other_first) × (second ≡ other_second)
one_covered (AnInterest whole i) first second other_first other_second c d =
    let parameters = one_cut 36 c.value d.value c.early c.from_parameters d.early d.from_parameters (outer_one whole 5 c.value d.value c.outer d.outer) c.parameters d.parameters in
    let info = one_cut 44 c.from_parameters d.from_parameters c.to_info c.from_info d.to_info d.from_info parameters.1 c.info d.info in
    let signature = one_cut 46 c.from_info d.from_info c.to_signature c.from_signature d.to_signature d.from_signature info.1 c.signature d.signature in
    let components = (same_last c.components d.components (2, c.digest) (2, d.digest) (sym c.named ∙ d.named)).0 in
    (c.first_is ∙ ap (flat_map element) components ∙ sym d.first_is, c.second_is ∙ (λ k. info.0 k ++ signature.0 k) ∙ sym d.second_is)
one_covered (AData whole d) first second other_first other_second c e =
    ((one_cut 23 c.0.value e.0.value first c.0.from_signature other_first e.0.from_signature (outer_one whole 6 c.0.value e.0.value c.0.outer e.0.outer) c.0.cut e.0.cut).0, c.1 ∙ sym e.1)
one_covered (ANack reason whole i) first second other_first other_second c d = absurd c
one_covered Idle first second other_first other_second c d = absurd c

pub is_some_map : {A B : Type 0} (f : A → B) (o : Option A) → is_some (option_map f o) ≡ is_some o
is_some_map f None = refl
is_some_map f (Some x) = refl
