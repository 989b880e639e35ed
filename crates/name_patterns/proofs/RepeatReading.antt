-- The reader accepts exactly the repeats of the grammar.
use Rattle.std.proofs.Common.{◌≡◌, ◌⊎◌, ℕ, ◌<◌, ◌≤◌, false, cond, eqb, ltb, leb, ◌&&◌, ◌||◌, List, [], ◌∷◌, ◌++◌, length, Option, Some, None, refl, sym, ap, subst, ◌∙◌, arith, inl, inr, eq-eqb, append_assoc, codes}
use Rattle.std.specs.Str.{all_ascii_digits}
use Rattle.std.specs.Str.Parse.{digits_value}
use Rattle.std.proofs.lemmas.Bool.{cases_eq, cases_Bool, and_parts, or_parts, lt-ltb, ltb-true, leb-true, le-leb, eqb-true, eqb-false, ne_eqb}
use Rattle.std.proofs.lemmas.List.{nil_from_length}
use Rattle.ndn_names.specs.UriReading.{cut_at}
use Rattle.ndn_names.proofs.TextReading.{Lacks, Lacks-append}
use Rattle.ndn_names.proofs.TypeNameReading.{own, digits-Lacks}
use Rattle.ndn_names.proofs.PieceReading.{IsCut, cut_found, cut_again, cut_lacking}
use Rattle.name_patterns.specs.Pattern.{Bounds, once, any_number}
use Rattle.name_patterns.specs.Grammar.{IsCount, IsRange, IsRepeat}
use Rattle.name_patterns.specs.PatternReading.{◌>>=◌, count_in, range_by_comma, range_by_cut, range_in, begins_repeat, braced_in, repeat_in}
use Rattle.name_patterns.proofs.GrammarSteps.{bind_some, given, given_is, given_to, passed}

-- ---- reading a count

count_found : (text : List ℕ) (n : ℕ) → count_in text ≡ Some n → IsCount text n
count_found text n e =
    let p = passed (all_ascii_digits text && (ltb 0 (length text) && leb (digits_value 10 text) 64)) (Some (digits_value 10 text)) n e in
    let all = and_parts (all_ascii_digits text) (ltb 0 (length text) && leb (digits_value 10 text) 64) p.0 in
    let some = and_parts (ltb 0 (length text)) (leb (digits_value 10 text) 64) all.1 in
    let few = leb-true (digits_value 10 text) 64 some.1 in
    let is = given_is (digits_value 10 text) n p.1 in
    ((ltb-true 0 (length text) some.0, own.to text all.0), is, omega arith)

count_again : (text : List ℕ) (n : ℕ) → IsCount text n → count_in text ≡ Some n
count_again text n h =
    let is = h.1 in let few = h.2 in
    rw (own.from text h.0.1, lt-ltb 0 (length text) h.0.0, le-leb (digits_value 10 text) 64 (omega arith)) (ap given is)

count_lacks : (octet : ℕ) → (octet < 48) ⊎ (57 < octet) → (text : List ℕ) (n : ℕ) → IsCount text n → Lacks octet text
count_lacks octet out text n h = digits-Lacks octet out text h.0.1

-- ---- reading a range

abbrev IsRangeOf : List ℕ → Bounds → Type 0
IsRangeOf text bounds = IsRange text bounds.least bounds.most

-- a number followed by a comma is a range without a greatest number
least_found : (text low high : List ℕ) (bounds : Bounds) → text ≡ low ++ (44 ∷ high) → length high ≡ 0
    → (count_in low >>= λ least. Some (record { least = least; most = None })) ≡ Some bounds → IsRangeOf text bounds
least_found text low high bounds is none e =
    let a = bind_some (count_in low) (λ least. Some (record { least = least; most = None })) bounds e in
    given_to (IsRangeOf text) (record { least = a.0; most = None }) bounds a.2
    (low, is ∙ ap (λ (t : List ℕ). low ++ (44 ∷ t)) (nil_from_length high none), count_found low a.0 a.1)

most_found : (text low high : List ℕ) (least most : ℕ) → text ≡ low ++ (44 ∷ high) → cond (eqb (length low) 0) (Some 0) (count_in low) ≡ Some least → IsCount high most → least ≤ most
    → IsRange text least (Some most)
most_found text low high least most is e h le =
    elim (cases_Bool (eqb (length low) 0)) [
      | inl empty ↦
          let here = rw empty at e in
          let none = nil_from_length low (eqb-true (length low) 0 empty) in
          inr (inl (sym (given_is 0 least here), (high, is ∙ ap (λ (t : List ℕ). t ++ (44 ∷ high)) none, h)))
      | inr some ↦ inr (inr (low, high, is, count_found low least (rw some at e), h, le))
    ]

comma_found : (text low high : List ℕ) (bounds : Bounds) → text ≡ low ++ (44 ∷ high) → range_by_comma low high ≡ Some bounds → IsRangeOf text bounds
comma_found text low high bounds is e =
    elim (cases_Bool (eqb (length high) 0)) [
      | inl empty ↦ least_found text low high bounds is (eqb-true (length high) 0 empty) (rw empty at e)
      | inr some ↦
          let here = rw some at e in
          let a = bind_some (cond (eqb (length low) 0) (Some 0) (count_in low)) (λ least. count_in high >>= λ most.
          cond (leb least most) (Some (record { least = least; most = Some most })) None) bounds here in
          let b = bind_some (count_in high) (λ most. cond (leb a.0 most) (Some (record { least = a.0; most = Some most })) None) bounds a.2 in
          let p = passed (leb a.0 b.0) (Some (record { least = a.0; most = Some b.0 })) bounds b.2 in
          given_to (IsRangeOf text) (record { least = a.0; most = Some b.0 }) bounds p.1
          (most_found text low high a.0 b.0 is a.1 (count_found high b.0 b.1) (leb-true a.0 b.0 p.0))
    ]

range_found : (text : List ℕ) (bounds : Bounds) → range_in text ≡ Some bounds → IsRangeOf text bounds
unfolding range_in
range_found text bounds e =
    elim (cut_at 44 text) as (λ r. IsCut 44 text r → range_by_cut text r ≡ Some bounds → IsRangeOf text bounds) [
      | None ↦ λ cut e.
          let a = bind_some (count_in text) (λ n. Some (record { least = n; most = Some n })) bounds e in
          given_to (IsRangeOf text) (record { least = a.0; most = Some a.0 }) bounds a.2 (inl (refl, count_found text a.0 a.1))
      | Some parts ↦ λ cut e. comma_found text parts.0 parts.1 bounds cut.0 e
    ] (cut_found 44 text) e

-- a range with a comma is read from the texts before and after the comma
range_cut : (text low high : List ℕ) → text ≡ low ++ (44 ∷ high) → Lacks 44 low → range_in text ≡ range_by_comma low high
unfolding range_in
range_cut text low high is h = ap (range_by_cut text) (ap (cut_at 44) is ∙ cut_again 44 low high h)

some_digits : (text : List ℕ) (n : ℕ) → IsCount text n → eqb (length text) 0 ≡ false
some_digits text n h = let some = h.0.0 in ne_eqb (length text) 0 (omega arith)

range_again : (text : List ℕ) (least : ℕ) (most : Option ℕ) → IsRange text least most → range_in text ≡ Some (record { least = least; most = most })
unfolding range_in
range_again text least None h =
    range_cut text h.0 [] h.1 (count_lacks 44 (inl (omega arith)) h.0 least h.2) ∙ rw (count_again h.0 least h.2) refl
range_again text least (Some most) (inl h) =
    rw (cut_lacking 44 text (count_lacks 44 (inl (omega arith)) text most h.1), count_again text most h.1)
    (ap (λ (n : ℕ). Some (record { least = n; most = Some most })) (sym h.0))
range_again text least (Some most) (inr (inl h)) =
    range_cut text [] h.1.0 h.1.1 tt
    ∙ rw (some_digits h.1.0 most h.1.2, count_again h.1.0 most h.1.2, le-leb 0 most (omega arith))
    (ap (λ (n : ℕ). Some (record { least = n; most = Some most })) (sym h.0))
range_again text least (Some most) (inr (inr h)) =
    range_cut text h.0 h.1 h.2 (count_lacks 44 (inl (omega arith)) h.0 least h.3)
    ∙ rw (some_digits h.1 most h.4, some_digits h.0 least h.3, count_again h.0 least h.3, count_again h.1 most h.4, le-leb least most h.5) refl

-- neither a count nor a range contains a closing brace (code 125)
count_no_brace : (text : List ℕ) (n : ℕ) → IsCount text n → Lacks 125 text
count_no_brace text n h = count_lacks 125 (inr (omega arith)) text n h

comma_no_brace : (text : List ℕ) → Lacks 125 text → Lacks 125 (44 ∷ text)
comma_no_brace text h = (λ e. absurd (omega arith), h)

range_no_brace : (text : List ℕ) (least : ℕ) (most : Option ℕ) → IsRange text least most → Lacks 125 text
range_no_brace text least None h =
    subst (Lacks 125) (sym h.1) (Lacks-append 125 h.0 (codes ",") (count_no_brace h.0 least h.2) (comma_no_brace [] tt))
range_no_brace text least (Some most) (inl h) = count_no_brace text most h.1
range_no_brace text least (Some most) (inr (inl h)) = subst (Lacks 125) (sym h.1.1) (comma_no_brace h.1.0 (count_no_brace h.1.0 most h.1.2))
range_no_brace text least (Some most) (inr (inr h)) =
    subst (Lacks 125) (sym h.2)
    (Lacks-append 125 h.0 (44 ∷ h.1) (count_no_brace h.0 least h.3) (comma_no_brace h.1 (count_no_brace h.1 most h.4)))

-- ---- reading a repeat

-- the text of a repeat with these bounds, or the empty text with the bounds `once`
abbrev pub IsRepeatOrNone : List ℕ → Bounds → Type 0
IsRepeatOrNone text bounds = ((text ≡ []) × (bounds ≡ once)) ⊎ IsRepeat text bounds

abbrev pub IsRepeatAt : List ℕ → Bounds × List ℕ → Type 0
IsRepeatAt text found = (front : List ℕ) × (text ≡ front ++ found.1) × IsRepeatOrNone front found.0

braced_found : (text : List ℕ) (found : Bounds × List ℕ) → braced_in text ≡ Some found → IsRepeatAt (123 ∷ text) found
braced_found text found e =
    let a = bind_some (cut_at 125 text) (λ parts. range_in parts.0 >>= λ bounds. Some (bounds, parts.1)) found e in
    let b = bind_some (range_in a.0.0) (λ bounds. Some (bounds, a.0.1)) found a.2 in
    let cut = subst (IsCut 125 text) a.1 (cut_found 125 text) in
    let whole : text ≡ (a.0.0 ++ codes "}") ++ a.0.1 = cut.0 ∙ sym (append_assoc a.0.0 (codes "}") a.0.1) in
    given_to (IsRepeatAt (123 ∷ text)) (b.0, a.0.1) found b.2
    (123 ∷ (a.0.0 ++ codes "}"), ap (λ (t : List ℕ). 123 ∷ t) whole, inr (inr (inr (inr (a.0.0, refl, range_found a.0.0 b.0 b.1)))))

-- a repeat that consists of the one character `sign`, and is read at the front of a text, is in the
-- grammar
sign_found : (o sign : ℕ) (text : List ℕ) (bounds : Bounds) (found : Bounds × List ℕ) → o ≡ sign → IsRepeat (sign ∷ []) bounds → Some (bounds, text) ≡ Some found → IsRepeatAt (o ∷ text) found
sign_found o sign text bounds found is h e =
    given_to (IsRepeatAt (o ∷ text)) (bounds, text) found e (sign ∷ [], ap (λ (first : ℕ). first ∷ text) is, inr h)

-- if the text does not begin with a brace, the repeat that is read at its front is in the grammar
unbraced_found : (o : ℕ) (text : List ℕ) (found : Bounds × List ℕ)
    → cond (eqb o 42) (Some (any_number, text)) (cond (eqb o 43) (Some (record { least = 1; most = None }, text)) (cond (eqb o 63) (Some (record { least = 0; most = Some 1 }, text)) (Some (once, o ∷ text)))) ≡ Some found
    → IsRepeatAt (o ∷ text) found
unbraced_found o text found e =
    elim (cases_eq o 42) [
      | inl is ↦ sign_found o 42 text any_number found is (inl (refl, refl, refl)) (rw (eq-eqb o 42 is) at e)
      | inr no_star ↦
          let unstarred = rw (ne_eqb o 42 no_star) at e in
          elim (cases_eq o 43) [
            | inl is ↦ sign_found o 43 text (record { least = 1; most = None }) found is (inr (inl (refl, refl, refl))) (rw (eq-eqb o 43 is) at unstarred)
            | inr no_plus ↦
                let unsigned = rw (ne_eqb o 43 no_plus) at unstarred in
                elim (cases_eq o 63) [
                  | inl is ↦ sign_found o 63 text (record { least = 0; most = Some 1 }) found is (inr (inr (inl (refl, refl, refl)))) (rw (eq-eqb o 63 is) at unsigned)
                  | inr no_mark ↦
                      given_to (IsRepeatAt (o ∷ text)) (once, o ∷ text) found (rw (ne_eqb o 63 no_mark) at unsigned) ([], refl, inl (refl, refl))
                ]
          ]
    ]

pub repeat_found : (text : List ℕ) (found : Bounds × List ℕ) → repeat_in text ≡ Some found → IsRepeatAt text found
unfolding repeat_in
repeat_found [] found e = given_to (IsRepeatAt []) (once, []) found e ([], refl, inl (refl, refl))
repeat_found (o ∷ text) found e =
    elim (cases_eq o 123) [
      | inl is ↦ subst (λ (first : ℕ). IsRepeatAt (first ∷ text) found) (sym is) (braced_found text found (rw (eq-eqb o 123 is) at e))
      | inr no_brace ↦ unbraced_found o text found (rw (ne_eqb o 123 no_brace) at e)
    ]

bounds_are : (bounds : Bounds) (least : ℕ) (most : Option ℕ) → bounds.least ≡ least → bounds.most ≡ most → record { least = least; most = most } ≡ bounds
bounds_are bounds least most l m = λ i. record { least = sym l i; most = sym m i }

pub repeat_again : (front rest : List ℕ) (bounds : Bounds) → IsRepeat front bounds → repeat_in (front ++ rest) ≡ Some (bounds, rest)
unfolding repeat_in
repeat_again front rest bounds (inl h) =
    ap (λ (t : List ℕ). repeat_in (t ++ rest)) h.0 ∙ ap (λ (b : Bounds). Some (b, rest)) (bounds_are bounds 0 None h.1 h.2)
repeat_again front rest bounds (inr (inl h)) =
    ap (λ (t : List ℕ). repeat_in (t ++ rest)) h.0 ∙ ap (λ (b : Bounds). Some (b, rest)) (bounds_are bounds 1 None h.1 h.2)
repeat_again front rest bounds (inr (inr (inl h))) =
    ap (λ (t : List ℕ). repeat_in (t ++ rest)) h.0 ∙ ap (λ (b : Bounds). Some (b, rest)) (bounds_are bounds 0 (Some 1) h.1 h.2)
repeat_again front rest bounds (inr (inr (inr h))) =
    ap (λ (t : List ℕ). repeat_in (t ++ rest)) h.1 ∙ ap braced_in (append_assoc h.0 (codes "}") rest)
    ∙ rw (cut_again 125 h.0 rest (range_no_brace h.0 bounds.least bounds.most h.2), range_again h.0 bounds.least bounds.most h.2) refl

-- if the text does not begin with a repeat, `repeat_in` returns `once` and the whole text
pub repeat_none : (rest : List ℕ) → begins_repeat rest ≡ false → repeat_in rest ≡ Some (once, rest)
unfolding repeat_in
repeat_none [] h = refl
repeat_none (o ∷ rest) h =
    let star = or_parts (eqb 42 o) (eqb 43 o || (eqb 63 o || (eqb 123 o || false))) h in
    let plus = or_parts (eqb 43 o) (eqb 63 o || (eqb 123 o || false)) star.1 in
    let mark = or_parts (eqb 63 o) (eqb 123 o || false) plus.1 in
    let brace = or_parts (eqb 123 o) false mark.1 in
    rw (differs 123 brace.0, differs 42 star.0, differs 43 plus.0, differs 63 mark.0) refl
  where
    differs : (sign : ℕ) → eqb sign o ≡ false → eqb o sign ≡ false
    differs sign e = ne_eqb o sign (λ is. eqb-false sign o e (sym is))
