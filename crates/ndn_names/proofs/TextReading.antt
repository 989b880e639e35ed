-- Facts about texts from which octets are read.
use Rattle.std.proofs.Common.{◌≡◌, ◌≢◌, ℕ, zero, suc, ◌+◌, ◌-◌, ◌*◌, ◌<◌, Bool, true, false, cond, ltb, ◌&&◌, ◌==◌, List, [], ◌∷◌, ◌++◌, length, take, Result, Ok, Err, refl, sym, ap, subst, ◌∙◌, arith, inl, inr, eq-eqb, codes}
use Rattle.std.specs.List.{AllByRecursion}
use Rattle.std.specs.Char.{digit_value}
use Rattle.std.proofs.Math.Seq.{take-append_seam}
use Rattle.std.proofs.lemmas.List.{length-append}
use Rattle.std.proofs.lemmas.List.Folds.{list_all-append}
use Rattle.std.proofs.lemmas.Bool.{cases_eq, cases_Bool, and_parts, lt-ltb, le-ltb, ltb-true, ltb-false, eqb-true, ne_eqb}
use Rattle.ndn_names.specs.declared.fault.NameFault.{NameFault}
use Rattle.ndn_names.specs.declared.fault.NameFault.TheVariants.{BadUri}
use Rattle.ndn_names.specs.Uri.{is_periods, padded}
use Rattle.ndn_names.proofs.Names.{bind_ok, done, done_is}
use Rattle.ndn_names.specs.ReadsAs.{IsHexPair, IsHex, IsOctetText, StandsFor}
use Rattle.ndn_names.specs.UriReading.{pair_in, before, hex_in, octets_in, unpadded}

-- ---- steps of a reading that may fail

-- if `cond b r (Err BadUri)` is `Ok y`, the test `b` has passed, and `r` is `Ok y`
pub test_passed : {A : Type 0} (b : Bool) (r : Result A NameFault) (y : A) → cond b r (Err BadUri) ≡ Ok y → (b ≡ true) × (r ≡ Ok y)
test_passed true r y e = (refl, e)
test_passed false r y e = absurd cc

pub test_failed : {A : Type 0} (b : Bool) (r : Result A NameFault) (y : A) → cond b (Err BadUri) r ≡ Ok y → (b ≡ false) × (r ≡ Ok y)
test_failed true r y e = absurd cc
test_failed false r y e = (refl, e)

before_found : (o : ℕ) (r : Result (List ℕ) NameFault) (octets : List ℕ) → before o r ≡ Ok octets → (others : List ℕ) × (r ≡ Ok others) × (octets ≡ o ∷ others)
before_found o (Ok others) octets e = (others, refl, sym (done_is (o ∷ others) octets e))
before_found o (Err fault) octets e = absurd cc

-- ---- octets in hexadecimal digits

pub pair_found : (high low octet : ℕ) → pair_in high low ≡ Ok octet → IsHexPair high low octet
pair_found high low octet e =
    let p = test_passed (ltb (digit_value high) 16 && ltb (digit_value low) 16) (Ok (16 * digit_value high + digit_value low)) octet e in
    let both = and_parts (ltb (digit_value high) 16) (ltb (digit_value low) 16) p.0 in
    (ltb-true (digit_value high) 16 both.0, ltb-true (digit_value low) 16 both.1, sym (done_is (16 * digit_value high + digit_value low) octet p.1))

pub pair_again : (high low octet : ℕ) → IsHexPair high low octet → pair_in high low ≡ Ok octet
pair_again high low octet h = rw (lt-ltb (digit_value high) 16 h.0, lt-ltb (digit_value low) 16 h.1) (ap done (sym h.2))

pub hex_found : (text octets : List ℕ) → hex_in text ≡ Ok octets → IsHex text octets
hex_found [] octets e = subst (IsHex []) (done_is [] octets e) refl
hex_found (high ∷ []) octets e = absurd cc
hex_found (high ∷ low ∷ text) octets e =
    let p = bind_ok (pair_in high low) (λ o. before o (hex_in text)) octets e in
    let b = before_found p.0 (hex_in text) octets p.2 in
    subst (IsHex (high ∷ low ∷ text)) (sym b.2) (high, low, text, refl, pair_found high low p.0 p.1, hex_found text b.0 b.1)

pub hex_again : (text octets : List ℕ) → IsHex text octets → hex_in text ≡ Ok octets
hex_again text [] h = ap hex_in h
hex_again text (o ∷ octets) h = ap hex_in h.3 ∙ rw (pair_again h.0 h.1 o h.4, hex_again h.2 octets h.5) refl

pub hex_length : (text octets : List ℕ) → IsHex text octets → length text ≡ 2 * length octets
hex_length text [] h = ap length h
hex_length text (o ∷ octets) h = let shorter = hex_length h.2 octets h.5 in ap length h.3 ∙ omega arith

-- ---- octets in text with percent signs

abbrev pub Lacks : ℕ → List ℕ → Type 0
Lacks octet text = AllByRecursion (λ o. o ≢ octet) text

pub Lacks-append : (octet : ℕ) (a b : List ℕ) → Lacks octet a → Lacks octet b → Lacks octet (a ++ b)
Lacks-append octet [] b ha hb = hb
Lacks-append octet (o ∷ a) b ha hb = (ha.0, Lacks-append octet a b ha.1 hb)

pub Lacks-parts : (octet : ℕ) (a b : List ℕ) → Lacks octet (a ++ b) → Lacks octet a × Lacks octet b
Lacks-parts octet [] b h = (tt, h)
Lacks-parts octet (o ∷ a) b h = let parts = Lacks-parts octet a b h.1 in ((h.0, parts.0), parts.1)

-- a text that begins with an octet other than a percent sign reads as this octet, followed by what
-- the rest of the text reads as
octets_plain : (a : ℕ) (text : List ℕ) → a ≢ 37 → octets_in (a ∷ text) ≡ before a (octets_in text)
octets_plain a [] sign = rw (ne_eqb a 37 sign) refl
octets_plain a (b ∷ []) sign = rw (ne_eqb a 37 sign) refl
octets_plain a (b ∷ c ∷ text) sign = rw (ne_eqb a 37 sign) refl

plain_found : (a : ℕ) (text octets : List ℕ) → octets_in (a ∷ text) ≡ Ok octets → a ≢ 37 → a ≢ 47
    → ((others : List ℕ) → octets_in text ≡ Ok others → StandsFor text others) → StandsFor (a ∷ text) octets
plain_found a text octets e sign slash found =
    let b = before_found a (octets_in text) octets (sym (octets_plain a text sign) ∙ e) in
    subst (StandsFor (a ∷ text)) (sym b.2) (a ∷ [], text, refl, inl (refl, sign, slash), found b.0 b.1)

-- Let a text be an escape and a rest. If the rest stands for the octets that are read from the rest
-- (`StandsFor`), then the whole text stands for the octets that are read from the whole text.
escaped_found : (a b c : ℕ) (text octets : List ℕ) → octets_in (a ∷ b ∷ c ∷ text) ≡ Ok octets → a ≡ 37
    → ((others : List ℕ) → octets_in text ≡ Ok others → StandsFor text others) → StandsFor (a ∷ b ∷ c ∷ text) octets
escaped_found a b c text octets e is found =
    let here = rw (eq-eqb a 37 is) at e in
    let p = bind_ok (pair_in b c) (λ o. before o (octets_in text)) octets here in
    let r = before_found p.0 (octets_in text) octets p.2 in
    subst (StandsFor (a ∷ b ∷ c ∷ text)) (sym r.2)
    (a ∷ b ∷ c ∷ [], text, refl, inr (b, c, ap (λ (o : ℕ). o ∷ b ∷ c ∷ []) is, pair_found b c p.0 p.1), found r.0 r.1)

pub octets_found : (text octets : List ℕ) → octets_in text ≡ Ok octets → Lacks 47 text → StandsFor text octets
octets_found [] octets e h = subst (StandsFor []) (done_is [] octets e) refl
octets_found (a ∷ []) octets e h =
    elim (cases_eq a 37) [
      | inl is ↦ let here = rw (eq-eqb a 37 is) at e in absurd cc
      | inr sign ↦ plain_found a [] octets e sign h.0 (λ others e. octets_found [] others e h.1)
    ]
octets_found (a ∷ b ∷ []) octets e h =
    elim (cases_eq a 37) [
      | inl is ↦ let here = rw (eq-eqb a 37 is) at e in absurd cc
      | inr sign ↦ plain_found a (b ∷ []) octets e sign h.0 (λ others e. octets_found (b ∷ []) others e h.1)
    ]
octets_found (a ∷ b ∷ c ∷ text) octets e h =
    elim (cases_eq a 37) [
      | inl is ↦ escaped_found a b c text octets e is (λ others e. octets_found text others e h.1.1.1)
      | inr sign ↦ plain_found a (b ∷ c ∷ text) octets e sign h.0 (λ others e. octets_found (b ∷ c ∷ text) others e h.1)
    ]

pub octets_again : (text octets : List ℕ) → StandsFor text octets → octets_in text ≡ Ok octets
octets_again text [] h = ap octets_in h
octets_again text (o ∷ octets) h =
    elim h.3 [
      | inl p ↦ ap octets_in (h.2 ∙ ap (λ (f : List ℕ). f ++ h.1) p.0) ∙ octets_plain o h.1 p.1 ∙ ap (before o) (octets_again h.1 octets h.4)
      | inr p ↦ ap octets_in (h.2 ∙ ap (λ (f : List ℕ). f ++ h.1) p.2) ∙ rw (pair_again p.0 p.1 o p.3, octets_again h.1 octets h.4) refl
    ]

-- the text of an octet is not empty
octet_some : (text : List ℕ) (octet : ℕ) → IsOctetText text octet → 0 < length text
octet_some text octet (inl p) = let size = ap length p.0 in omega arith
octet_some text octet (inr p) = let size = ap length p.2 in omega arith

pub octets_some : (text octets : List ℕ) → StandsFor text octets → 0 < length octets → 0 < length text
octets_some text [] h some = absurd (omega arith)
octets_some text (o ∷ octets) h some = let size = ap length h.2 ∙ length-append h.0 h.1 in let first = octet_some h.0 o h.3 in omega arith

-- a hexadecimal digit is not a slash
digit_no_slash : (digit : ℕ) → digit_value digit < 16 → digit ≢ 47
digit_no_slash digit lt = λ is. let h : digit_value 47 < 16 = subst (λ (d : ℕ). digit_value d < 16) is lt in omega arith

octet_no_slash : (text : List ℕ) (octet : ℕ) → IsOctetText text octet → Lacks 47 text
octet_no_slash text octet (inl p) = subst (Lacks 47) (sym p.0) (p.2, tt)
octet_no_slash text octet (inr p) =
    subst (Lacks 47) (sym p.2) (λ e. absurd (omega arith), (digit_no_slash p.0 p.3.0, (digit_no_slash p.1 p.3.1, tt)))

pub octets_no_slash : (text octets : List ℕ) → StandsFor text octets → Lacks 47 text
octets_no_slash text [] h = subst (Lacks 47) (sym h) tt
octets_no_slash text (o ∷ octets) h =
    subst (Lacks 47) (sym h.2) (Lacks-append 47 h.0 h.1 (octet_no_slash h.0 o h.3) (octets_no_slash h.1 octets h.4))

pub hex_no_slash : (text octets : List ℕ) → IsHex text octets → Lacks 47 text
hex_no_slash text [] h = subst (Lacks 47) (sym h) tt
hex_no_slash text (o ∷ octets) h =
    subst (Lacks 47) (sym h.3) (digit_no_slash h.0 h.4.0, (digit_no_slash h.1 h.4.1, hex_no_slash h.2 octets h.5))

-- ---- three additional periods

-- a sequence of at least three periods ends with three periods
periods_end : (n : ℕ) (octets : List ℕ) → is_periods octets ≡ true → length octets ≡ n + 3 → take n octets ++ codes "..." ≡ octets
periods_end zero (a ∷ b ∷ c ∷ []) all is =
    let first = and_parts (a == 46) (is_periods (b ∷ c ∷ [])) all in
    let second = and_parts (b == 46) (is_periods (c ∷ [])) first.1 in
    let third = and_parts (c == 46) true second.1 in
    let ea = eqb-true a 46 first.0 in let eb = eqb-true b 46 second.0 in let ec = eqb-true c 46 third.0 in cc
periods_end zero [] all is = absurd (omega arith)
periods_end zero (a ∷ []) all is = absurd (omega arith)
periods_end zero (a ∷ b ∷ []) all is = absurd (omega arith)
periods_end zero (a ∷ b ∷ c ∷ d ∷ octets) all is = absurd (omega arith)
periods_end (suc n) [] all is = absurd (omega arith)
periods_end (suc n) (a ∷ octets) all is =
    let parts = and_parts (a == 46) (is_periods octets) all in
    ap (λ (os : List ℕ). a ∷ os) (periods_end n octets parts.1 (omega arith))

periods_front : (a b : List ℕ) → is_periods (a ++ b) ≡ true → is_periods a ≡ true
periods_front a b h = (and_parts (is_periods a) (is_periods b) (sym (list_all-append (λ o. o == 46) a b) ∙ h)).0

pub unpadded_found : (octets value : List ℕ) → unpadded octets ≡ Ok value → octets ≡ padded value
unpadded_found octets value e =
    elim (cases_Bool (is_periods octets)) [
      | inl all ↦
          let here = rw all at e in
          let p = test_failed (ltb (length octets) 3) (Ok (take (length octets - 3) octets)) value here in
          let many = ltb-false (length octets) 3 p.0 in
          let is = done_is (take (length octets - 3) octets) value p.1 in
          let whole = periods_end (length octets - 3) octets all (omega arith) in
          let front = periods_front (take (length octets - 3) octets) (codes "...") (ap is_periods whole ∙ all) in
          subst (λ (v : List ℕ). octets ≡ padded v) is (rw front (sym whole))
      | inr some ↦
          let here = rw some at e in
          subst (λ (v : List ℕ). octets ≡ padded v) (done_is octets value here) (rw some refl)
    ]

pub unpadded_again : (value : List ℕ) → unpadded (padded value) ≡ Ok value
unpadded_again value =
    elim (cases_Bool (is_periods value)) [
      | inl all ↦
          let whole : is_periods (value ++ codes "...") ≡ true = list_all-append (λ o. o == 46) value (codes "...") ∙ rw all refl in
          let size : length (value ++ codes "...") ≡ length value + 3 = length-append value (codes "...") in
          let many = le-ltb (length (value ++ codes "...")) 3 (omega arith) in
          let less : length (value ++ codes "...") - 3 ≡ length value = omega arith in
          rw (all, whole, many, less) (ap done (take-append_seam value (codes "...")))
      | inr some ↦ rw (some, some) refl
    ]

pub padded_some : (value : List ℕ) → 0 < length (padded value)
padded_some [] = omega arith
padded_some (o ∷ value) =
    elim (cases_Bool (is_periods (o ∷ value))) [ inl all ↦ rw all (omega arith) | inr some ↦ rw some (omega arith) ]
