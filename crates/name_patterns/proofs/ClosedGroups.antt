-- Whether a text contains a closing parenthesis that is not between `<` and `>`.
use Rattle.std.proofs.Common.{◌≡◌, ◌≢◌, ℕ, zero, suc, Bool, true, false, cond, eqb, leb, ◌||◌, List, [], ◌∷◌, ◌++◌, length, Option, Some, None, refl, sym, ap, subst, ◌∙◌, inl, inr, arith}
use Rattle.std.specs.Option.{option_map_or}
use Rattle.std.specs.Str.{all_ascii_digits}
use Rattle.std.specs.Str.Parse.{digits_value}
use Rattle.std.proofs.lemmas.Bool.{cases_eq, eq-eqb, ne_eqb, eqb-true, and_parts}
use Rattle.std.proofs.lemmas.Option.{same_Some}
use Rattle.ndn_tlv.specs.Element.{Field}
use Rattle.ndn_names.specs.UriReading.{cut_at}
use Rattle.ndn_names.proofs.TextReading.{Lacks, Lacks-append}
use Rattle.ndn_names.proofs.TypeNameReading.{own, digits-Lacks}
use Rattle.ndn_names.proofs.PieceReading.{IsCut, cut_found}
use Rattle.name_patterns.specs.Pattern.{PlainTest, Anything, OneOf, NoneOf, Bounds, once, any_number, PlainAtom}
use Rattle.name_patterns.specs.PatternReading.{◌>>=◌, FrontPart, has_special, text_in, quoted_in, list_end, listed_within, list_in, bracketed_in, quoted_test_in, test_in, count_in, range_by_comma, range_by_cut, range_in, braced_in, repeat_in, atom_in, is_closed}
use Rattle.name_patterns.proofs.Steps.{found_by, found_if, found_unless}
use Rattle.name_patterns.proofs.ListReading.{before_others}

-- the search for a closing parenthesis skips any octet other than `)` and `<`
passed : (o : ℕ) (text : List ℕ) → o ≢ 41 → o ≢ 60 → is_closed false (o ∷ text) ≡ is_closed false text
unfolding is_closed
passed o text closes opens = rw (ne_eqb o 41 closes, ne_eqb o 60 opens) refl

passed_sign : (sign o : ℕ) (text : List ℕ) → sign ≢ 41 → sign ≢ 60 → o ≡ sign → is_closed false (o ∷ text) ≡ is_closed false text
passed_sign sign o text closes opens is = passed o text (λ e. closes (sym is ∙ e)) (λ e. opens (sym is ∙ e))

passed_plain : (front back : List ℕ) → Lacks 41 front → Lacks 60 front → is_closed false (front ++ back) ≡ is_closed false back
passed_plain [] back closes opens = refl
passed_plain (o ∷ front) back closes opens = passed o (front ++ back) closes.0 opens.0 ∙ passed_plain front back closes.1 opens.1

passed_inside : (front back : List ℕ) → Lacks 62 front → is_closed true (front ++ 62 ∷ back) ≡ is_closed false back
unfolding is_closed
passed_inside [] back ends = refl
passed_inside (o ∷ front) back ends = rw (ne_eqb o 62 ends.0) (passed_inside front back ends.1)

-- ---- the search for a closing parenthesis skips a test

quoted_passed : (text : List ℕ) (quoted : List ℕ × List ℕ) → quoted_in text ≡ Some quoted → is_closed false text ≡ is_closed false quoted.1
unfolding is_closed
quoted_passed [] quoted e = absurd cc
quoted_passed (o ∷ text) quoted e =
    let p = found_if (eqb o 60) (cut_at 62 text) quoted e in
    let cut = subst (IsCut 62 text) p.1 (cut_found 62 text) in
    ap (λ (first : ℕ). is_closed false (first ∷ text)) (eqb-true o 60 p.0) ∙ ap (λ (t : List ℕ). is_closed true t) cut.0 ∙ passed_inside quoted.0 quoted.1 cut.1

end_passed : (text : List ℕ) (listed : FrontPart (List Field)) → list_end text ≡ Some listed → is_closed false text ≡ is_closed false listed.rest
end_passed [] listed e = absurd cc
end_passed (o ∷ text) listed e =
    let p = found_if (eqb o 93) (Some (record { part = []; is_inner = false; rest = text })) listed e in
    passed_sign 93 o text (omega arith) (omega arith) (eqb-true o 93 p.0) ∙ ap (λ (found : FrontPart (List Field)). is_closed false found.rest) (same_Some _ _ p.1)

listed_passed : (n : ℕ) (text : List ℕ) (listed : FrontPart (List Field)) → listed_within n text ≡ Some listed → is_closed false text ≡ is_closed false listed.rest
unfolding listed_within
listed_passed zero text listed e = end_passed text listed e
listed_passed (suc n) text listed e = by_text (quoted_in text) refl (λ rest others h. listed_passed n rest others h) e
  where
    by_text : (first : Option (List ℕ × List ℕ)) → quoted_in text ≡ first
        → ((rest : List ℕ) (others : FrontPart (List Field)) → listed_within n rest ≡ Some others → is_closed false rest ≡ is_closed false others.rest)
        → option_map_or (λ quoted. text_in quoted.0 >>= λ c. before_others (c ∷ []) (has_special quoted.0) (listed_within n quoted.1)) first (list_end text) ≡ Some listed
        → is_closed false text ≡ is_closed false listed.rest
    by_text None is further e = end_passed text listed e
    by_text (Some quoted) is further e =
        let c = found_by (text_in quoted.0) (λ c. before_others (c ∷ []) (has_special quoted.0) (listed_within n quoted.1)) listed e in
        let others = found_by (listed_within n quoted.1) (λ others. Some (record { part = c.0 ∷ others.part; is_inner = has_special quoted.0 || others.is_inner; rest = others.rest })) listed c.2 in
        quoted_passed text quoted is ∙ further quoted.1 others.0 others.1 ∙ ap (λ (found : FrontPart (List Field)). is_closed false found.rest) (same_Some _ _ others.2)

list_passed : (test : List Field → PlainTest) (text : List ℕ) (found : FrontPart PlainTest) → list_in test text ≡ Some found → is_closed false text ≡ is_closed false found.rest
list_passed test text found e =
    let listed = found_by (listed_within (length text) text)
    (λ listed. cond (eqb (length listed.part) 0) None (Some (record { part = test listed.part; is_inner = listed.is_inner; rest = listed.rest }))) found e in
    let some = found_unless (eqb (length listed.0.part) 0) (Some (record { part = test listed.0.part; is_inner = listed.0.is_inner; rest = listed.0.rest })) found listed.2 in
    listed_passed (length text) text listed.0 listed.1 ∙ ap (λ (found : FrontPart PlainTest). is_closed false found.rest) (same_Some _ _ some.1)

bracketed_passed : (text : List ℕ) (found : FrontPart PlainTest) → bracketed_in text ≡ Some found → is_closed false text ≡ is_closed false found.rest
bracketed_passed [] found e = list_passed OneOf [] found e
bracketed_passed (o ∷ text) found e =
    elim (cases_eq o 94) [
      | inl is ↦ passed_sign 94 o text (omega arith) (omega arith) is ∙ list_passed NoneOf text found (rw (eq-eqb o 94 is) at e)
      | inr other ↦ list_passed OneOf (o ∷ text) found (rw (ne_eqb o 94 other) at e)
    ]

quoted_test_passed : (text : List ℕ) (found : FrontPart PlainTest) → quoted_test_in text ≡ Some found → is_closed false text ≡ is_closed false found.rest
quoted_test_passed text found e =
    let quoted = found_by (quoted_in text)
    (λ quoted. cond (eqb (length quoted.0) 0) (Some (record { part = Anything; is_inner = false; rest = quoted.1 }))
    (text_in quoted.0 >>= λ c. Some (record { part = OneOf (c ∷ []); is_inner = has_special quoted.0; rest = quoted.1 }))) found e in
    quoted_passed text quoted.0 quoted.1 ∙ ap (is_closed false) (by_test (eqb (length quoted.0.0) 0) (text_in quoted.0.0) quoted.0 quoted.2)
  where
    by_test : (is_empty : Bool) (component : Option Field) (quoted : List ℕ × List ℕ)
        → cond is_empty (Some (record { part = Anything; is_inner = false; rest = quoted.1 }))
        (component >>= λ c. Some (record { part = OneOf (c ∷ []); is_inner = has_special quoted.0; rest = quoted.1 })) ≡ Some found
        → quoted.1 ≡ found.rest
    by_test true component quoted e = ap (λ (found : FrontPart PlainTest). found.rest) (same_Some _ _ e)
    by_test false None quoted e = absurd cc
    by_test false (Some c) quoted e = ap (λ (found : FrontPart PlainTest). found.rest) (same_Some _ _ e)

test_passed : (text : List ℕ) (found : FrontPart PlainTest) → test_in text ≡ Some found → is_closed false text ≡ is_closed false found.rest
unfolding test_in
test_passed [] found e = absurd cc
test_passed (o ∷ text) found e =
    elim (cases_eq o 91) [
      | inl is ↦ passed_sign 91 o text (omega arith) (omega arith) is ∙ bracketed_passed text found (rw (eq-eqb o 91 is) at e)
      | inr other ↦ quoted_test_passed (o ∷ text) found (rw (ne_eqb o 91 other) at e)
    ]

-- ---- the search for a closing parenthesis skips a repeat

-- a text without `)` and without `<`
abbrev IsPlain : List ℕ → Type 0
IsPlain text = Lacks 41 text × Lacks 60 text

count_plain : (text : List ℕ) (n : ℕ) → count_in text ≡ Some n → IsPlain text
count_plain text n e =
    let p = found_if _ (Some (digits_value 10 text)) n e in
    let digits = own.to text (and_parts (all_ascii_digits text) _ p.0).0 in
    (digits-Lacks 41 (inl (omega arith)) text digits, digits-Lacks 60 (inr (omega arith)) text digits)

empty_plain : (text : List ℕ) → length text ≡ 0 → IsPlain text
empty_plain [] none = (tt, tt)
empty_plain (o ∷ text) none = absurd (omega arith)

parts_plain : (low high : List ℕ) → IsPlain low → IsPlain high → IsPlain (low ++ 44 ∷ high)
parts_plain low high l h =
    (Lacks-append 41 low (44 ∷ high) l.0 (omega arith, h.0), Lacks-append 60 low (44 ∷ high) l.1 (omega arith, h.1))

comma_plain : (low high : List ℕ) (bounds : Bounds) → range_by_comma low high ≡ Some bounds → IsPlain (low ++ 44 ∷ high)
comma_plain low high bounds e =
    elim (cases_eq (length high) 0) [
      | inl none ↦
          let least = found_by (count_in low) (λ least. Some (record { least = least; most = None })) bounds (rw (eq-eqb (length high) 0 none) at e) in
          parts_plain low high (count_plain low least.0 least.1) (empty_plain high none)
      | inr some ↦
          let least = found_by (cond (eqb (length low) 0) (Some 0) (count_in low))
          (λ least. count_in high >>= λ most. cond (leb least most) (Some (record { least = least; most = Some most })) None) bounds (rw (ne_eqb (length high) 0 some) at e) in
          let most = found_by (count_in high) (λ most. cond (leb least.0 most) (Some (record { least = least.0; most = Some most })) None) bounds least.2 in
          parts_plain low high (low_plain least.0 least.1) (count_plain high most.0 most.1)
    ]
  where
    low_plain : (least : ℕ) → cond (eqb (length low) 0) (Some 0) (count_in low) ≡ Some least → IsPlain low
    low_plain least e =
        elim (cases_eq (length low) 0) [
          | inl none ↦ empty_plain low none
          | inr some ↦ count_plain low least (rw (ne_eqb (length low) 0 some) at e)
        ]

range_plain : (text : List ℕ) (bounds : Bounds) → range_in text ≡ Some bounds → IsPlain text
unfolding range_in
range_plain text bounds e = by_cut (cut_at 44 text) (cut_found 44 text) e
  where
    by_cut : (cut : Option (List ℕ × List ℕ)) → IsCut 44 text cut → range_by_cut text cut ≡ Some bounds → IsPlain text
    by_cut None is e = let n = found_by (count_in text) (λ n. Some (record { least = n; most = Some n })) bounds e in count_plain text n.0 n.1
    by_cut (Some parts) is e = subst IsPlain (sym is.0) (comma_plain parts.0 parts.1 bounds e)

braced_passed : (text : List ℕ) (found : Bounds × List ℕ) → braced_in text ≡ Some found → is_closed false text ≡ is_closed false found.1
braced_passed text found e =
    let parts = found_by (cut_at 125 text) (λ parts. range_in parts.0 >>= λ bounds. Some (bounds, parts.1)) found e in
    let bounds = found_by (range_in parts.0.0) (λ bounds. Some (bounds, parts.0.1)) found parts.2 in
    let cut = subst (IsCut 125 text) parts.1 (cut_found 125 text) in
    let plain = range_plain parts.0.0 bounds.0 bounds.1 in
    ap (is_closed false) cut.0 ∙ passed_plain parts.0.0 (125 ∷ parts.0.1) plain.0 plain.1
    ∙ passed_sign 125 125 parts.0.1 (omega arith) (omega arith) refl ∙ ap (λ (found : Bounds × List ℕ). is_closed false found.1) (same_Some _ _ bounds.2)

repeat_passed : (text : List ℕ) (found : Bounds × List ℕ) → repeat_in text ≡ Some found → is_closed false text ≡ is_closed false found.1
unfolding repeat_in
repeat_passed [] found e = ap (λ (found : Bounds × List ℕ). is_closed false found.1) (same_Some _ _ e)
repeat_passed (o ∷ text) found e =
    let rest : (bounds : Bounds) (after : List ℕ) → Some (bounds, after) ≡ Some found → is_closed false after ≡ is_closed false found.1 =
    λ bounds after e. ap (λ (found : Bounds × List ℕ). is_closed false found.1) (same_Some _ _ e) in
    elim (cases_eq o 123) [
      | inl is ↦ passed_sign 123 o text (omega arith) (omega arith) is ∙ braced_passed text found (rw (eq-eqb o 123 is) at e)
      | inr brace ↦
          elim (cases_eq o 42) [
            | inl is ↦ passed_sign 42 o text (omega arith) (omega arith) is ∙ rest any_number text (rw (ne_eqb o 123 brace, eq-eqb o 42 is) at e)
            | inr star ↦
                elim (cases_eq o 43) [
                  | inl is ↦ passed_sign 43 o text (omega arith) (omega arith) is ∙ rest _ text (rw (ne_eqb o 123 brace, ne_eqb o 42 star, eq-eqb o 43 is) at e)
                  | inr plus ↦
                      elim (cases_eq o 63) [
                        | inl is ↦ passed_sign 63 o text (omega arith) (omega arith) is ∙ rest _ text (rw (ne_eqb o 123 brace, ne_eqb o 42 star, ne_eqb o 43 plus, eq-eqb o 63 is) at e)
                        | inr question ↦ rest once (o ∷ text) (rw (ne_eqb o 123 brace, ne_eqb o 42 star, ne_eqb o 43 plus, ne_eqb o 63 question) at e)
                      ]
                ]
          ]
    ]

-- the search for a closing parenthesis skips an atom
pub atom_passed : (text : List ℕ) (found : FrontPart PlainAtom) → atom_in text ≡ Some found → is_closed false text ≡ is_closed false found.rest
unfolding atom_in
atom_passed text found e =
    let test = found_by (test_in text)
    (λ test. repeat_in test.rest >>= λ bounds. Some (record { part = record { test = test.part; bounds = bounds.0 }; is_inner = test.is_inner; rest = bounds.1 })) found e in
    let bounds = found_by (repeat_in test.0.rest)
    (λ bounds. Some (record { part = record { test = test.0.part; bounds = bounds.0 }; is_inner = test.0.is_inner; rest = bounds.1 })) found test.2 in
    test_passed text test.0 test.1 ∙ repeat_passed test.0.rest bounds.0 bounds.1 ∙ ap (λ (found : FrontPart PlainAtom). is_closed false found.rest) (same_Some _ _ bounds.2)

-- a text that begins with `)` contains a closing parenthesis that is not between `<` and `>`
pub closed_here : (o : ℕ) (text : List ℕ) → o ≡ 41 → is_closed false (o ∷ text) ≡ true
unfolding is_closed
closed_here o text is = rw (eq-eqb o 41 is) refl
