-- A test whose component texts have no special characters is read exactly if it is in the grammar.
use Rattle.std.proofs.Common.{◌≡◌, ◌≢◌, ◌⊎◌, ℕ, zero, suc, ◌≤◌, false, cond, eqb, ◌||◌, List, [], ◌∷◌, ◌++◌, length, Some, None, refl, sym, ap, subst, ◌∙◌, arith, inl, inr, eq-eqb, append_assoc, codes}
use Rattle.std.proofs.lemmas.Bool.{cases_eq, cases_Bool, or_parts, eqb-true, eqb-false, ne_eqb}
use Rattle.std.proofs.lemmas.List.{length-append, nil_from_length}
use Rattle.std.specs.Option.{option_map_or}
use Rattle.ndn_tlv.specs.Element.{Field}
use Rattle.name_patterns.specs.Pattern.{PlainTest, Anything, OneOf, NoneOf}
use Rattle.name_patterns.specs.Grammar.{IsQuoted, AreQuoted, IsTestText}
use Rattle.name_patterns.specs.PatternReading.{◌>>=◌, FrontPart, has_special, text_in, quoted_in, list_end, listed_within, list_in, bracketed_in, quoted_test_in, test_in}
use Rattle.name_patterns.proofs.GrammarSteps.{bind_some, given, given_is, given_to, passed, failed}
use Rattle.name_patterns.proofs.QuotedReading.{text_again, text_none, text_some, quoted_found, quoted_again, quoted_front, single_found}

-- ---- reading a list of quoted texts

abbrev IsListed : List ℕ → FrontPart (List Field) → Type 0
IsListed text found = (inner : List ℕ) × (text ≡ inner ++ (93 ∷ found.rest)) × AreQuoted inner found.part

end_found : (text : List ℕ) (found : FrontPart (List Field)) → list_end text ≡ Some found → IsListed text found
end_found [] found e = absurd cc
end_found (o ∷ text) found e =
    let p = passed (eqb o 93) (Some (record { part = []; is_inner = false; rest = text })) found e in
    given_to (IsListed (o ∷ text)) (record { part = []; is_inner = false; rest = text }) found p.1
    ([], ap (λ (first : ℕ). first ∷ text) (eqb-true o 93 p.0), refl)

-- if a list is in the grammar, the list with one more quoted text in front is in the grammar too
before_listed : (text : List ℕ) (quoted : List ℕ × List ℕ) (c : Field) (others found : FrontPart (List Field)) → quoted_in text ≡ Some quoted → text_in quoted.0 ≡ Some c
    → given (record { part = c ∷ others.part; is_inner = has_special quoted.0 || others.is_inner; rest = others.rest }) ≡ given found → found.is_inner ≡ false
    → (others.is_inner ≡ false → IsListed quoted.1 others) → IsListed text found
before_listed text quoted c others found was is e none listed =
    let same = given_is (record { part = c ∷ others.part; is_inner = has_special quoted.0 || others.is_inner; rest = others.rest }) found e in
    let both = or_parts (has_special quoted.0) others.is_inner (ap (λ (f : FrontPart (List Field)). f.is_inner) same ∙ none) in
    let s = single_found text quoted c was is both.0 in
    let h = listed both.1 in
    subst (IsListed text) same
    (s.0 ++ h.0, s.1 ∙ ap (λ (t : List ℕ). s.0 ++ t) h.1 ∙ sym (append_assoc s.0 h.0 (93 ∷ others.rest)), (s.0, h.0, refl, s.2, h.2))

listed_found : (n : ℕ) (text : List ℕ) (found : FrontPart (List Field)) → listed_within n text ≡ Some found → found.is_inner ≡ false → IsListed text found
unfolding listed_within
listed_found zero text found e none = end_found text found e
listed_found (suc n) text found e none =
    elim (quoted_in text) as (λ r. quoted_in text ≡ r
    → option_map_or (λ quoted. text_in quoted.0 >>= λ c. listed_within n quoted.1 >>= λ others.
    Some (record { part = c ∷ others.part; is_inner = has_special quoted.0 || others.is_inner; rest = others.rest })) r (list_end text) ≡ Some found
    → IsListed text found) [
      | None ↦ λ was e. end_found text found e
      | Some quoted ↦ λ was e.
          let c = bind_some (text_in quoted.0) (λ c. listed_within n quoted.1 >>= λ others.
          Some (record { part = c ∷ others.part; is_inner = has_special quoted.0 || others.is_inner; rest = others.rest })) found e in
          let others = bind_some (listed_within n quoted.1) (λ others.
          Some (record { part = c.0 ∷ others.part; is_inner = has_special quoted.0 || others.is_inner; rest = others.rest })) found c.2 in
          before_listed text quoted c.0 others.0 found was c.1 others.2 none (λ plain. listed_found n quoted.1 others.0 others.1 plain)
    ] refl e

listed_end : (n : ℕ) (rest : List ℕ) → listed_within n (93 ∷ rest) ≡ Some (record { part = []; is_inner = false; rest = rest })
unfolding listed_within
listed_end zero rest = refl
listed_end (suc n) rest = refl

listed_again : (n : ℕ) (inner rest : List ℕ) (cs : List Field) → length inner ≤ n → AreQuoted inner cs
    → listed_within n (inner ++ (93 ∷ rest)) ≡ Some (record { part = cs; is_inner = false; rest = rest })
unfolding listed_within
listed_again n inner rest [] le h = ap (λ (t : List ℕ). listed_within n (t ++ (93 ∷ rest))) h ∙ listed_end n rest
listed_again zero inner rest (c ∷ cs) le h =
    let size = ap length h.2 ∙ length-append h.0 h.1 in
    let some = ap length (quoted_front h.0 c h.3).1 in
    absurd (omega arith)
listed_again (suc n) inner rest (c ∷ cs) le h =
    let size = ap length h.2 ∙ length-append h.0 h.1 in
    let some = ap length (quoted_front h.0 c h.3).1 in
    let split : inner ++ (93 ∷ rest) ≡ h.0 ++ (h.1 ++ (93 ∷ rest)) =
    ap (λ (t : List ℕ). t ++ (93 ∷ rest)) h.2 ∙ append_assoc h.0 h.1 (93 ∷ rest) in
    let here = quoted_again h.0 (h.1 ++ (93 ∷ rest)) c h.3 in
    let text = text_again h.3.0 c h.3.2 in
    let none = text_none h.3.0 c h.3.2 in
    ap (listed_within (suc n)) split
    ∙ rw (here, text, listed_again n h.1 rest cs (omega arith) h.4, none) refl

abbrev IsList : (List Field → PlainTest) → List ℕ → FrontPart PlainTest → Type 0
IsList test text found = (inner : List ℕ) × (cs : List Field) × (text ≡ inner ++ (93 ∷ found.rest)) × (cs ≢ []) × AreQuoted inner cs × (test cs ≡ found.part)

list_is : (test : List Field → PlainTest) (text : List ℕ) (listed : FrontPart (List Field)) (found : FrontPart PlainTest) → eqb (length listed.part) 0 ≡ false
    → given (record { part = test listed.part; is_inner = listed.is_inner; rest = listed.rest }) ≡ given found → found.is_inner ≡ false
    → (listed.is_inner ≡ false → IsListed text listed) → IsList test text found
list_is test text listed found some e none plain =
    let same = given_is (record { part = test listed.part; is_inner = listed.is_inner; rest = listed.rest }) found e in
    let h = plain (ap (λ (f : FrontPart PlainTest). f.is_inner) same ∙ none) in
    let not_empty = eqb-false (length listed.part) 0 some in
    subst (IsList test text) same (h.0, listed.part, h.1, (λ empty. not_empty (ap length empty)), h.2, refl)

list_found : (test : List Field → PlainTest) (text : List ℕ) (found : FrontPart PlainTest) → list_in test text ≡ Some found → found.is_inner ≡ false → IsList test text found
list_found test text found e none =
    let a = bind_some (listed_within (length text) text) (λ listed.
    cond (eqb (length listed.part) 0) None (Some (record { part = test listed.part; is_inner = listed.is_inner; rest = listed.rest }))) found e in
    let p = failed (eqb (length a.0.part) 0) (Some (record { part = test a.0.part; is_inner = a.0.is_inner; rest = a.0.rest })) found a.2 in
    list_is test text a.0 found p.0 p.1 none (λ plain. listed_found (length text) text a.0 a.1 plain)

list_again : (test : List Field → PlainTest) (inner rest : List ℕ) (cs : List Field) → cs ≢ [] → AreQuoted inner cs
    → list_in test (inner ++ (93 ∷ rest)) ≡ Some (record { part = test cs; is_inner = false; rest = rest })
list_again test inner rest cs some h =
    let size = length-append inner (93 ∷ rest) in
    let other : eqb (length cs) 0 ≡ false = ne_eqb (length cs) 0 (λ none. some (nil_from_length cs none)) in
    rw (listed_again (length (inner ++ (93 ∷ rest))) inner rest cs (omega arith) h, other) refl

-- ---- reading a test

abbrev pub IsTestAt : List ℕ → FrontPart PlainTest → Type 0
IsTestAt text found = (front : List ℕ) × (text ≡ front ++ found.rest) × IsTestText front found.part

one_of_found : (text : List ℕ) (found : FrontPart PlainTest) → list_in OneOf text ≡ Some found → found.is_inner ≡ false → IsTestAt (91 ∷ text) found
one_of_found text found e none =
    let h = list_found OneOf text found e none in (
      91 ∷ (h.0 ++ codes "]"),
      ap (λ (t : List ℕ). 91 ∷ t) (h.2 ∙ sym (append_assoc h.0 (codes "]") found.rest)),
      subst (IsTestText (91 ∷ (h.0 ++ codes "]"))) h.5 (inr (h.0, refl, h.3, h.4)),
    )

none_of_found : (text : List ℕ) (found : FrontPart PlainTest) → list_in NoneOf text ≡ Some found → found.is_inner ≡ false → IsTestAt (91 ∷ 94 ∷ text) found
none_of_found text found e none =
    let h = list_found NoneOf text found e none in (
      91 ∷ 94 ∷ (h.0 ++ codes "]"),
      ap (λ (t : List ℕ). 91 ∷ 94 ∷ t) (h.2 ∙ sym (append_assoc h.0 (codes "]") found.rest)),
      subst (IsTestText (91 ∷ 94 ∷ (h.0 ++ codes "]"))) h.5 (h.0, refl, h.3, h.4),
    )

bracketed_found : (text : List ℕ) (found : FrontPart PlainTest) → bracketed_in text ≡ Some found → found.is_inner ≡ false → IsTestAt (91 ∷ text) found
bracketed_found [] found e none = one_of_found [] found e none
bracketed_found (o ∷ text) found e none =
    elim (cases_eq o 94) [
      | inl is ↦ subst (λ (first : ℕ). IsTestAt (91 ∷ first ∷ text) found) (sym is) (none_of_found text found (rw (eq-eqb o 94 is) at e) none)
      | inr other ↦ one_of_found (o ∷ text) found (rw (ne_eqb o 94 other) at e) none
    ]

anything_found : (text : List ℕ) (quoted : List ℕ × List ℕ) → quoted_in text ≡ Some quoted → length quoted.0 ≡ 0 → IsTestAt text (record { part = Anything; is_inner = false; rest = quoted.1 })
anything_found text quoted e none =
    let q = quoted_found text quoted e in
    (codes "<>", q.0 ∙ ap (λ (inner : List ℕ). (codes "<" ++ (inner ++ codes ">")) ++ quoted.1) (nil_from_length quoted.0 none), refl)

component_found : (text : List ℕ) (quoted : List ℕ × List ℕ) (c : Field) (found : FrontPart PlainTest) → quoted_in text ≡ Some quoted → text_in quoted.0 ≡ Some c
    → given (record { part = OneOf (c ∷ []); is_inner = has_special quoted.0; rest = quoted.1 }) ≡ given found → found.is_inner ≡ false → IsTestAt text found
component_found text quoted c found was is e none =
    let same = given_is (record { part = OneOf (c ∷ []); is_inner = has_special quoted.0; rest = quoted.1 }) found e in
    let s = single_found text quoted c was is (ap (λ (f : FrontPart PlainTest). f.is_inner) same ∙ none) in
    subst (IsTestAt text) same (s.0, s.1, inl (c, refl, s.2))

quoted_test_found : (text : List ℕ) (found : FrontPart PlainTest) → quoted_test_in text ≡ Some found → found.is_inner ≡ false → IsTestAt text found
quoted_test_found text found e none =
    let a = bind_some (quoted_in text) (λ quoted.
    cond (eqb (length quoted.0) 0) (Some (record { part = Anything; is_inner = false; rest = quoted.1 })) (text_in quoted.0 >>= λ c.
    Some (record { part = OneOf (c ∷ []); is_inner = has_special quoted.0; rest = quoted.1 }))) found e in
    elim (cases_Bool (eqb (length a.0.0) 0)) [
      | inl empty ↦
          given_to (IsTestAt text) (record { part = Anything; is_inner = false; rest = a.0.1 }) found (rw empty at a.2)
          (anything_found text a.0 a.1 (eqb-true (length a.0.0) 0 empty))
      | inr some ↦
          let c = bind_some (text_in a.0.0) (λ c. Some (record { part = OneOf (c ∷ []); is_inner = has_special a.0.0; rest = a.0.1 })) found (rw some at a.2) in
          component_found text a.0 c.0 found a.1 c.1 c.2 none
    ]

pub test_found : (text : List ℕ) (found : FrontPart PlainTest) → test_in text ≡ Some found → found.is_inner ≡ false → IsTestAt text found
unfolding test_in
test_found [] found e none = absurd cc
test_found (o ∷ text) found e none =
    elim (cases_eq o 91) [
      | inl is ↦ subst (λ (first : ℕ). IsTestAt (first ∷ text) found) (sym is) (bracketed_found text found (rw (eq-eqb o 91 is) at e) none)
      | inr other ↦ quoted_test_found (o ∷ text) found (rw (ne_eqb o 91 other) at e) none
    ]

-- a quoted text is read as the test for its component
one_again : (front rest : List ℕ) (c : Field) → IsQuoted front c → test_in (front ++ rest) ≡ Some (record { part = OneOf (c ∷ []); is_inner = false; rest = rest })
unfolding test_in
one_again front rest c h =
    let f = quoted_front front c h in
    let some = text_some h.0 c h.2 in
    let other : eqb (length h.0) 0 ≡ false = ne_eqb (length h.0) 0 (omega arith) in
    let begins : test_in (front ++ rest) ≡ quoted_test_in (front ++ rest) =
    ap (λ (t : List ℕ). test_in (t ++ rest)) f.1 ∙ ap (λ (t : List ℕ). quoted_test_in (t ++ rest)) (sym f.1) in
    begins ∙ rw (quoted_again front rest c h, other, text_again h.0 c h.2, text_none h.0 c h.2) refl

-- if a list has at least one quoted text, the text of the list begins with `<`
list_begins : (inner : List ℕ) (cs : List Field) → cs ≢ [] → AreQuoted inner cs → (text : List ℕ) × (inner ≡ 60 ∷ text)
list_begins inner [] some h = absurd (some refl)
list_begins inner (c ∷ cs) some h =
    let f = quoted_front h.0 c h.3 in
    (f.0 ++ h.1, h.2 ∙ ap (λ (t : List ℕ). t ++ h.1) f.1)

bracketed_again : (inner rest : List ℕ) (cs : List Field) → cs ≢ [] → AreQuoted inner cs → bracketed_in (inner ++ (93 ∷ rest)) ≡ Some (record { part = OneOf cs; is_inner = false; rest = rest })
bracketed_again inner rest cs some h =
    let f = list_begins inner cs some h in
    let begins : bracketed_in (inner ++ (93 ∷ rest)) ≡ list_in OneOf (inner ++ (93 ∷ rest)) =
    ap (λ (t : List ℕ). bracketed_in (t ++ (93 ∷ rest))) f.1 ∙ ap (λ (t : List ℕ). list_in OneOf (t ++ (93 ∷ rest))) (sym f.1) in
    begins ∙ list_again OneOf inner rest cs some h

pub test_again : (front rest : List ℕ) (test : PlainTest) → IsTestText front test → test_in (front ++ rest) ≡ Some (record { part = test; is_inner = false; rest = rest })
unfolding test_in
test_again front rest Anything h = ap (λ (t : List ℕ). test_in (t ++ rest)) h
test_again front rest (OneOf cs) (inl h) =
    one_again front rest h.0 h.2 ∙ ap (λ (cs : List Field). Some (record { part = OneOf cs; is_inner = false; rest = rest })) (sym h.1)
test_again front rest (OneOf cs) (inr h) =
    ap (λ (t : List ℕ). test_in (t ++ rest)) h.1 ∙ ap bracketed_in (append_assoc h.0 (codes "]") rest) ∙ bracketed_again h.0 rest cs h.2 h.3
test_again front rest (NoneOf cs) h =
    ap (λ (t : List ℕ). test_in (t ++ rest)) h.1 ∙ ap (list_in NoneOf) (append_assoc h.0 (codes "]") rest) ∙ list_again NoneOf h.0 rest cs h.2 h.3

-- the text begins with `<` or `[`, as each test does
abbrev pub BeginsTest : List ℕ → Type 0
BeginsTest text = (o : ℕ) × (rest : List ℕ) × (text ≡ o ∷ rest) × ((o ≡ 60) ⊎ (o ≡ 91))

pub test_begins : (text : List ℕ) (test : PlainTest) → IsTestText text test → BeginsTest text
test_begins text Anything h = (60, codes ">", h, inl refl)
test_begins text (OneOf cs) (inl h) = let f = quoted_front text h.0 h.2 in (60, f.0, f.1, inl refl)
test_begins text (OneOf cs) (inr h) = (91, h.0 ++ codes "]", h.1, inr refl)
test_begins text (NoneOf cs) h = (91, 94 ∷ (h.0 ++ codes "]"), h.1, inr refl)
