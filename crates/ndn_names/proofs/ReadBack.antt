-- The text of a name reads as that name.
use Rattle.std.proofs.Common.{◌≡◌, ◌≢◌, ℕ, zero, suc, ◌*◌, ◌/◌, ◌%◌, ◌^◌, ◌<◌, ◌≤◌, Bool, true, false, cond, eqb, leb, List, [], ◌∷◌, ◌++◌, length, map, Result, Ok, Err, refl, sym, ap, subst, ◌∙◌, arith, inl, inr}
use Rattle.std.specs.Prelude.{Option, Some, None, codes, decimal, flat_map, bytes_eq, ◌==◌, not}
use Rattle.std.specs.Char.{digit_value}
use Rattle.std.specs.Fmt.{digit_glyph}
use Rattle.std.specs.List.{AllByRecursion, list_all}
use Rattle.std.proofs.lemmas.Bool.{agree_below, agree_below_at, cond_both, and_parts, not-true, eqb-true, eqb-false, leb-true, leb-false, false≢true}
use Rattle.std.proofs.lemmas.Fmt.{decimal_is_IsNumeral}
use Rattle.std.proofs.lemmas.List.{append-nil, take_at}
use Rattle.std.proofs.lemmas.Slice.Eq.{bytes_eq-Decides}
use Rattle.ndn_tlv.specs.declared.fault.TlvFault.{TlvFault}
use Rattle.ndn_tlv.specs.Element.{Field, element}
use Rattle.ndn_tlv.specs.Number.{IsNni, spelling, shortest_nni}
use Rattle.ndn_tlv.specs.Reading.{on_result, nni_at}
use Rattle.ndn_tlv.proofs.Numbers.{IsBytes, IsBytes-rest, IsBytes-back, IsBytes-take}
use Rattle.ndn_tlv.proofs.Integers.{nni_found}
use Rattle.ndn_names.specs.Name.{IsComponent, IsName, IsNameValue, octets_of}
use Rattle.ndn_names.specs.TypeName.{type_name_of, shortest_number}
use Rattle.ndn_names.specs.Uri.{is_unreserved, hexadecimal, escaped, is_periods, padded, value_text, plain_text, number_text, text_by_type_name, component_text, AreOctets, uri_of}
use Rattle.ndn_names.specs.ReadsAs.{IsHexPair, IsHex, IsOctetText, StandsFor, IsValueText, ReadsComponent, ReadsEach, ReadsAs}

abbrev AreBelow256 : List ℕ → Type 0
AreBelow256 octets = AllByRecursion (λ o. o < 256) octets

abbrev LacksEquals : List ℕ → Type 0
LacksEquals text = AllByRecursion (λ o. o ≢ 61) text

AllByRecursion-append : (P : ℕ → Type 0) (xs ys : List ℕ) → AllByRecursion P xs → AllByRecursion P ys → AllByRecursion P (xs ++ ys)
AllByRecursion-append P [] ys p q = q
AllByRecursion-append P (x ∷ xs) ys p q = (p.0, AllByRecursion-append P xs ys p.1 q)

-- if `agree_below` finds that `test` is true for all numbers below `limit`, `test` is true for each
-- number `n` below `limit`
passes_below : (test : ℕ → Bool) (limit n : ℕ) → agree_below test (λ _. true) limit ≡ true → n < limit → test n ≡ true
passes_below test limit n all lt = agree_below_at test (λ _. true) limit n all lt

-- ---- hexadecimal digits

abbrev is_worth_itself : Bool → ℕ → Bool
is_worth_itself is_upper d = eqb (digit_value (digit_glyph is_upper d)) d

digit_glyph-value : (is_upper : Bool) (d : ℕ) → d < 16 → digit_value (digit_glyph is_upper d) ≡ d
digit_glyph-value true d lt = eqb-true _ d (passes_below (is_worth_itself true) 16 d refl lt)
digit_glyph-value false d lt = eqb-true _ d (passes_below (is_worth_itself false) 16 d refl lt)

digits_read : (is_upper : Bool) (o : ℕ) → o < 256 → IsHexPair (digit_glyph is_upper (o / 16)) (digit_glyph is_upper (o % 16)) o
digits_read is_upper o lt =
    let high = digit_glyph-value is_upper (o / 16) (omega arith) in
    let low = digit_glyph-value is_upper (o % 16) (omega arith) in
    (omega arith, omega arith, omega arith)

hexadecimal_reads : (is_upper : Bool) (octets : List ℕ) → AreBelow256 octets → IsHex (flat_map (hexadecimal is_upper) octets) octets
hexadecimal_reads is_upper [] h = refl
hexadecimal_reads is_upper (o ∷ octets) h =
    (digit_glyph is_upper (o / 16), digit_glyph is_upper (o % 16), flat_map (hexadecimal is_upper) octets, refl, digits_read is_upper o h.0, hexadecimal_reads is_upper octets h.1)

length-hexadecimal : (is_upper : Bool) (octets : List ℕ) → length (flat_map (hexadecimal is_upper) octets) ≡ 2 * length octets
length-hexadecimal is_upper [] = refl
length-hexadecimal is_upper (o ∷ octets) = omega (arith, length-hexadecimal is_upper octets)

-- ---- the text of a value reads as this value

escaped_reads : (o : ℕ) → o < 256 → IsOctetText (escaped o) o
escaped_reads o lt =
    cond_both (is_unreserved o) (o ∷ []) (codes "%" ++ hexadecimal true o) (λ text. IsOctetText text o)
    (λ e. inl (refl, differs 37 refl e, differs 47 refl e))
    (λ e. inr (digit_glyph true (o / 16), digit_glyph true (o % 16), refl, digits_read true o lt))
  where
    differs : (mark : ℕ) → is_unreserved mark ≡ false → is_unreserved o ≡ true → o ≢ mark
    differs mark reserved e is = false≢true (sym reserved ∙ ap is_unreserved (sym is) ∙ e)

escaped_stand : (octets : List ℕ) → AreBelow256 octets → StandsFor (flat_map escaped octets) octets
escaped_stand [] h = refl
escaped_stand (o ∷ octets) h = (escaped o, flat_map escaped octets, refl, escaped_reads o h.0, escaped_stand octets h.1)

padded_below : (value : List ℕ) → AreBelow256 value → AreBelow256 (padded value)
padded_below value h =
    cond_both (is_periods value) (value ++ codes "...") value AreBelow256
    (λ e. AllByRecursion-append (λ o. o < 256) value (codes "...") h (omega arith, (omega arith, (omega arith, tt))))
    (λ e. h)

value_reads : (value : List ℕ) → AreBelow256 value → IsValueText (value_text value) value
value_reads value h = escaped_stand (padded value) (padded_below value h)

-- ---- the text of a value contains no equals sign

abbrev is_without_equals : List ℕ → Bool
is_without_equals text = list_all (λ o. not (o == 61)) text

LacksEquals-from_test : (text : List ℕ) → is_without_equals text ≡ true → LacksEquals text
LacksEquals-from_test [] e = tt
LacksEquals-from_test (o ∷ text) e =
    let parts = and_parts (not (o == 61)) (is_without_equals text) e in
    (eqb-false o 61 (not-true (o == 61) parts.0), LacksEquals-from_test text parts.1)

escaped_lack : (octets : List ℕ) → AreBelow256 octets → LacksEquals (flat_map escaped octets)
escaped_lack [] h = tt
escaped_lack (o ∷ octets) h =
    AllByRecursion-append (λ o. o ≢ 61) (escaped o) (flat_map escaped octets)
    (LacksEquals-from_test (escaped o) (passes_below (λ n. is_without_equals (escaped n)) 256 o refl h.0))
    (escaped_lack octets h.1)

-- ---- values that are the shortest encoding of a number

IsBytes-from_below : (octets : List ℕ) → AreBelow256 octets → IsBytes octets
IsBytes-from_below [] h i = omega arith
IsBytes-from_below (o ∷ octets) h zero = h.0
IsBytes-from_below (o ∷ octets) h (suc i) = IsBytes-from_below octets h.1 i

IsNni-below : (text : List ℕ) (n : ℕ) → IsNni text n → n < 2 ^ 64
IsNni-below text n (inl p) = omega (arith, p.0)
IsNni-below text n (inr (inl p)) = omega (arith, p.0)
IsNni-below text n (inr (inr (inl p))) = omega (arith, p.0)
IsNni-below text n (inr (inr (inr p))) = p.0

abbrev number_if : Bool → ℕ → Option ℕ
number_if b n = cond b (Some n) None

number_if-some : (b : Bool) (n m : ℕ) → number_if b n ≡ Some m → (b ≡ true) × (n ≡ m)
number_if-some true n m e = (refl, cc)
number_if-some false n m e = absurd cc

shortest_number_found : (value : List ℕ) (n : ℕ) → AreBelow256 value → shortest_number value ≡ Some n → (n < 2 ^ 64) × (value ≡ shortest_nni n)
shortest_number_found value n h e = found (nni_at value) refl e
  where
    found : (r : Result ℕ TlvFault) → nni_at value ≡ r → on_result (λ m. number_if (bytes_eq (shortest_nni m) value) m) (λ _. None) r ≡ Some n → (n < 2 ^ 64) × (value ≡ shortest_nni n)
    found (Ok m) read e =
        let p = number_if-some (bytes_eq (shortest_nni m) value) m n e in
        let same : shortest_nni m ≡ value = (bytes_eq-Decides (shortest_nni m) value).0 p.0 in
        subst (λ (k : ℕ). (k < 2 ^ 64) × (value ≡ shortest_nni k)) p.1
        (IsNni-below value m (nni_found value m (IsBytes-from_below value h) read), sym same)
    found (Err f) read e = absurd cc

-- ---- the text of a component reads as this component

plain_reads : (c : Field) → IsComponent c → AreBelow256 c.1 → ReadsComponent (plain_text c) c
plain_reads c is h =
    cond_both (eqb c.0 8) (value_text c.1) (decimal c.0 ++ (codes "=" ++ value_text c.1)) (λ piece. ReadsComponent piece c)
    (λ e. inl (escaped_lack (padded c.1) (padded_below c.1 h), eqb-true c.0 8 e, value_reads c.1 h))
    (λ e. inr (inl (value_text c.1, refl, is.0, is.1, value_reads c.1 h)))

digest_reads : (c : Field) (type_name : List ℕ) → IsComponent c → AreBelow256 c.1 → type_name_of c.0 ≡ Some type_name → c.0 ≤ 2 → ReadsComponent (type_name ++ (codes "=" ++ flat_map (hexadecimal false) c.1)) c
digest_reads c type_name is h named small =
    let long : length c.1 ≡ 32 = is.2 small in
    inr (inr (inl (type_name, flat_map (hexadecimal false) c.1, refl, named, small, omega (arith, length-hexadecimal false c.1), hexadecimal_reads false c.1 h)))

number_reads : (c : Field) (type_name : List ℕ) → IsComponent c → AreBelow256 c.1 → type_name_of c.0 ≡ Some type_name → 2 < c.0
    → (o : Option ℕ) → shortest_number c.1 ≡ o → ReadsComponent (number_text type_name c o) c
number_reads c type_name is h named large None e = plain_reads c is h
number_reads c type_name is h named large (Some n) e =
    let found = shortest_number_found c.1 n h e in
    let numeral = decimal_is_IsNumeral n found.0 in
    inr (inr (inr (type_name, decimal n, refl, named, large, numeral.0, rw numeral.1 found.0, rw numeral.1 found.1)))

text_reads : (c : Field) → IsComponent c → AreBelow256 c.1 → (o : Option (List ℕ)) → type_name_of c.0 ≡ o → ReadsComponent (text_by_type_name c o) c
text_reads c is h None named = plain_reads c is h
text_reads c is h (Some type_name) named =
    cond_both (leb c.0 2) (type_name ++ (codes "=" ++ flat_map (hexadecimal false) c.1)) (number_text type_name c (shortest_number c.1)) (λ piece. ReadsComponent piece c)
    (λ e. digest_reads c type_name is h named (leb-true c.0 2 e))
    (λ e. number_reads c type_name is h named (leb-false c.0 2 e) (shortest_number c.1) refl)

-- ---- the text of a name reads as this name

components_read : (cs : List Field) → AllByRecursion IsComponent cs → AreOctets cs → ReadsEach (map component_text cs) cs
components_read [] are h = tt
components_read (c ∷ cs) are h = (text_reads c are.0 h.0 (type_name_of c.0) refl, components_read cs are.1 h.1)

pub name_reads : (cs : List Field) → IsName cs → AreOctets cs → ReadsAs (uri_of cs) cs
name_reads cs is h =
    ([], [], map component_text cs, sym (append-nil (uri_of cs)), inl refl, inl refl, components_read cs is.1 h, is)

-- ---- octets that are the TLV-VALUE of a name

IsBytes-front : (xs ys : List ℕ) → IsBytes (xs ++ ys) → IsBytes xs
IsBytes-front xs ys h = subst IsBytes (take_at xs ys (length xs) refl) (IsBytes-take (length xs) (xs ++ ys) h)

AreBelow256-from_bytes : (octets : List ℕ) → IsBytes octets → AreBelow256 octets
AreBelow256-from_bytes [] h = tt
AreBelow256-from_bytes (o ∷ octets) h = (h 0, AreBelow256-from_bytes octets (IsBytes-rest o octets h))

AreOctets-from_bytes : (cs : List Field) → IsBytes (octets_of cs) → AreOctets cs
AreOctets-from_bytes [] h = tt
AreOctets-from_bytes (c ∷ cs) h =
    let first = IsBytes-front (element c) (octets_of cs) h in
    let sized = IsBytes-back (spelling c.0) (spelling (length c.1) ++ c.1) first in
    (AreBelow256-from_bytes c.1 (IsBytes-back (spelling (length c.1)) c.1 sized), AreOctets-from_bytes cs (IsBytes-back (element c) (octets_of cs) h))

-- the text of the name with the TLV-VALUE `value` reads as this name
pub spelled_reads : (value text : List ℕ) (cs : List Field) → IsBytes value → IsNameValue value cs → text ≡ uri_of cs → ReadsAs text cs
spelled_reads value text cs fits is written = rw written (name_reads cs is.1 (AreOctets-from_bytes cs (subst IsBytes is.0.1 fits)))
