-- The reader accepts exactly the templates of the grammar.
use Rattle.std.proofs.Common.{◌≡◌, ℕ, zero, suc, ◌+◌, ◌-◌, ◌<◌, ◌≤◌, false, cond, eqb, leb, ltb, ◌&&◌, List, [], ◌∷◌, ◌++◌, length, Some, Result, Ok, Err, MatchResult, refl, sym, ap, subst, ◌∙◌, arith, inl, inr, eq-eqb}
use Rattle.std.specs.List.{AllByRecursion}
use Rattle.std.proofs.lemmas.Bool.{cases_eq, and_parts, ne_eqb, leb-true, le-leb, ltb-false, le-ltb}
use Rattle.std.proofs.lemmas.List.{length-append, nil_from_length}
use Rattle.ndn_tlv.specs.Element.{Field}
use Rattle.ndn_tlv.specs.Reading.{on_result}
use Rattle.name_patterns.specs.declared.fault.PatternFault.{PatternFault}
use Rattle.name_patterns.specs.declared.fault.PatternFault.TheVariants.{Inner, BadGroup, Memory}
use Rattle.name_patterns.specs.Grammar.{IsQuoted}
use Rattle.name_patterns.specs.Template.{PlainPart, OfGroup, Single, IsPart, IsTemplate, NeedAtMost, CanStand}
use Rattle.name_patterns.specs.Faults.{IsFaultOf, read_at}
use Rattle.name_patterns.specs.PatternReading.{◌>>=◌, FrontPart, has_special, text_in, quoted_in}
use Rattle.name_patterns.specs.TemplateReading.{digit_in, group_in, single_in, single_part_in, part_in, parts_within, template_in}
use Rattle.name_patterns.proofs.GrammarSteps.{bind_some, given, given_is, given_to, passed, ok_is, read_is, done_is, done_to, not_refused}
use Rattle.name_patterns.proofs.QuotedReading.{text_again, text_none, quoted_again, quoted_front, single_found}

-- ---- reading a part

digit_found : (text : List ℕ) (digit : ℕ × List ℕ) → digit_in text ≡ Some digit → (text ≡ (48 + digit.0) ∷ digit.1) × (digit.0 ≤ 9)
digit_found [] digit e = absurd cc
digit_found (o ∷ text) digit e =
    let p = passed (leb 48 o && leb o 57) (Some (o - 48, text)) digit e in
    let both = and_parts (leb 48 o) (leb o 57) p.0 in
    let low = leb-true 48 o both.0 in
    let high = leb-true o 57 both.1 in
    let is : o ≡ 48 + (o - 48) = omega arith in
    given_to (λ (d : ℕ × List ℕ). (o ∷ text ≡ (48 + d.0) ∷ d.1) × (d.0 ≤ 9)) (o - 48, text) digit p.1
    (ap (λ (first : ℕ). first ∷ text) is, omega arith)

digit_again : (n : ℕ) (text : List ℕ) → n ≤ 9 → digit_in ((48 + n) ∷ text) ≡ Some (n, text)
digit_again n text h =
    let is : 48 + n - 48 ≡ n = omega arith in
    rw (le-leb 48 (48 + n) (omega arith), le-leb (48 + n) 57 (omega arith), is) refl

-- the text begins with the nonempty text of a part, followed by the remaining text
abbrev IsFront : ℕ → List ℕ → PlainPart × List ℕ → Type 0
IsFront groups text found = (front : List ℕ) × (text ≡ front ++ found.1) × (0 < length front) × IsPart groups front found.0

group_found : (groups at : ℕ) (text : List ℕ) (found : PlainPart × List ℕ) → group_in groups at text ≡ Ok found → IsFront groups (92 ∷ text) found
group_found groups at text found e =
    let a = ok_is (read_at at (digit_in text)) (λ digit. cond (ltb groups digit.0) (Err (BadGroup at)) (Ok (OfGroup digit.0, digit.1))) found e in
    let digit = digit_found text a.0 (read_is at (digit_in text) a.0 a.1) in
    let p = not_refused (ltb groups a.0.0) (BadGroup at) (Ok (OfGroup a.0.0, a.0.1)) found a.2 in
    let few = ltb-false groups a.0.0 p.0 in
    done_to (IsFront groups (92 ∷ text)) (OfGroup a.0.0, a.0.1) found p.1
    (92 ∷ (48 + a.0.0) ∷ [], ap (λ (t : List ℕ). 92 ∷ t) digit.0, omega arith, (refl, digit.1, few))

group_again : (groups at n : ℕ) (rest : List ℕ) → n ≤ 9 → n ≤ groups → group_in groups at ((48 + n) ∷ rest) ≡ Ok (OfGroup n, rest)
group_again groups at n rest small few = rw (digit_again n rest small, le-ltb groups n few) refl

-- the text begins with a component between < and >, followed by the remaining text
abbrev IsSingleAt : List ℕ → FrontPart Field → Type 0
IsSingleAt text found = (front : List ℕ) × (text ≡ front ++ found.rest) × IsQuoted front found.part

single_is : (text : List ℕ) (quoted : List ℕ × List ℕ) (c : Field) (found : FrontPart Field) → quoted_in text ≡ Some quoted → text_in quoted.0 ≡ Some c
    → given (record { part = c; is_inner = has_special quoted.0; rest = quoted.1 }) ≡ given found → found.is_inner ≡ false → IsSingleAt text found
single_is text quoted c found was is e none =
    let same = given_is (record { part = c; is_inner = has_special quoted.0; rest = quoted.1 }) found e in
    subst (IsSingleAt text) same (single_found text quoted c was is (ap (λ (f : FrontPart Field). f.is_inner) same ∙ none))

single_in_found : (text : List ℕ) (found : FrontPart Field) → single_in text ≡ Some found → found.is_inner ≡ false → IsSingleAt text found
single_in_found text found e none =
    let q = bind_some (quoted_in text) (λ quoted. text_in quoted.0 >>= λ c. Some (record { part = c; is_inner = has_special quoted.0; rest = quoted.1 })) found e in
    let c = bind_some (text_in q.0.0) (λ c. Some (record { part = c; is_inner = has_special q.0.0; rest = q.0.1 })) found q.2 in
    single_is text q.0 c.0 found q.1 c.1 c.2 none

quoted_part_found : (groups at : ℕ) (text : List ℕ) (found : PlainPart × List ℕ) → single_part_in at text ≡ Ok found → IsFront groups text found
quoted_part_found groups at text found e =
    let a = ok_is (read_at at (single_in text)) (λ found. cond found.is_inner (Err (Inner at)) (Ok (Single found.part, found.rest))) found e in
    let p = not_refused a.0.is_inner (Inner at) (Ok (Single a.0.part, a.0.rest)) found a.2 in
    let s = single_in_found text a.0 (read_is at (single_in text) a.0 a.1) p.0 in
    let size = ap length (quoted_front s.0 a.0.part s.2).1 in
    done_to (IsFront groups text) (Single a.0.part, a.0.rest) found p.1 (s.0, s.1, omega arith, s.2)

part_found : (groups at : ℕ) (text : List ℕ) (found : PlainPart × List ℕ) → part_in groups at text ≡ Ok found → IsFront groups text found
part_found groups at [] found e = absurd cc
part_found groups at (o ∷ text) found e =
    elim (cases_eq o 92) [
      | inl is ↦
          let here = rw (eq-eqb o 92 is) at e in
          subst (λ (first : ℕ). IsFront groups (first ∷ text) found) (sym is) (group_found groups at text found here)
      | inr other ↦ quoted_part_found groups at (o ∷ text) found (rw (ne_eqb o 92 other) at e)
    ]

single_again : (at : ℕ) (front rest : List ℕ) (c : Field) → IsQuoted front c → single_part_in at (front ++ rest) ≡ Ok (Single c, rest)
single_again at front rest c h = rw (quoted_again front rest c h, text_again h.0 c h.2, text_none h.0 c h.2) refl

part_again : (groups at : ℕ) (front rest : List ℕ) (part : PlainPart) → IsPart groups front part → part_in groups at (front ++ rest) ≡ Ok (part, rest)
part_again groups at front rest (OfGroup n) h = ap (λ (t : List ℕ). part_in groups at (t ++ rest)) h.0 ∙ group_again groups at n rest h.1 h.2
part_again groups at front rest (Single c) h =
    let f = quoted_front front c h in
    let begins : part_in groups at (front ++ rest) ≡ single_part_in at (front ++ rest) =
    ap (λ (t : List ℕ). part_in groups at (t ++ rest)) f.1 ∙ ap (λ (t : List ℕ). single_part_in at (t ++ rest)) (sym f.1) in
    begins ∙ single_again at front rest c h

-- ---- reading a template

shorter : (groups : ℕ) (text : List ℕ) (found : PlainPart × List ℕ) → IsFront groups text found → length found.1 < length text
shorter groups text found h = let size = ap length h.1 ∙ length-append h.0 found.1 in let some = h.2 in omega arith

parts_found : (n groups len : ℕ) (text : List ℕ) (parts : List PlainPart) → length text ≤ n → parts_within n groups len text ≡ Ok parts → IsTemplate groups text parts
unfolding parts_within
parts_found zero groups len text parts le e = done_to (IsTemplate groups text) [] parts e (nil_from_length text (omega arith))
parts_found (suc n) groups len [] parts le e = done_to (IsTemplate groups []) [] parts e refl
parts_found (suc n) groups len (o ∷ text) parts le e =
    let some : eqb (length (o ∷ text)) 0 ≡ false = ne_eqb (length (o ∷ text)) 0 (omega arith) in
    let a = ok_is (part_in groups (len - length (o ∷ text)) (o ∷ text)) (λ next. on_result (λ parts. Ok (next.0 ∷ parts)) Err (parts_within n groups len next.1)) parts (rw some at e) in
    let b = ok_is (parts_within n groups len a.0.1) (λ parts. Ok (a.0.0 ∷ parts)) parts a.2 in
    let f = part_found groups (len - length (o ∷ text)) (o ∷ text) a.0 a.1 in
    let less = shorter groups (o ∷ text) a.0 f in
    let others = parts_found n groups len a.0.1 b.0 (omega arith) b.1 in
    done_to (IsTemplate groups (o ∷ text)) (a.0.0 ∷ b.0) parts b.2 (f.0, a.0.1, f.1, f.3, others)

part_some : (groups : ℕ) (front : List ℕ) (part : PlainPart) → IsPart groups front part → 0 < length front
part_some groups front (OfGroup n) h = let size = ap length h.0 in omega arith
part_some groups front (Single c) h = let size = ap length (quoted_front front c h).1 in omega arith

parts_again : (n groups len : ℕ) (text : List ℕ) (parts : List PlainPart) → length text ≤ n → IsTemplate groups text parts → parts_within n groups len text ≡ Ok parts
unfolding parts_within
parts_again zero groups len text [] le h = refl
parts_again (suc n) groups len text [] le h = ap (parts_within (suc n) groups len) h
parts_again zero groups len text (part ∷ parts) le h =
    let size = ap length h.2 ∙ length-append h.0 h.1 in let some = part_some groups h.0 part h.3 in absurd (omega arith)
parts_again (suc n) groups len text (part ∷ parts) le h =
    let size = ap length h.2 ∙ length-append h.0 h.1 in
    let some = part_some groups h.0 part h.3 in
    let here : part_in groups (len - length text) text ≡ Ok (part, h.1) =
    ap (part_in groups (len - length text)) h.2 ∙ part_again groups (len - length text) h.0 h.1 part h.3 in
    let other : eqb (length text) 0 ≡ false = ne_eqb (length text) 0 (omega arith) in
    rw (other, here, parts_again n groups len h.1 parts (omega arith) h.4) refl

pub template_found : (groups : ℕ) (text : List ℕ) (parts : List PlainPart) → template_in groups text ≡ Ok parts → IsTemplate groups text parts
unfolding template_in
template_found groups text parts e = parts_found (length text) groups (length text) text parts (omega arith) e

pub template_again : (groups : ℕ) (text : List ℕ) (parts : List PlainPart) → IsTemplate groups text parts → template_in groups text ≡ Ok parts
unfolding template_in
template_again groups text parts h = parts_again (length text) groups (length text) text parts (omega arith) h

-- if a text denotes a template, reading the text gives this template, unless memory runs out
pub template_only : (groups : ℕ) (text : List ℕ) (r : Result (List PlainPart) PatternFault) → MatchResult r (λ read. template_in groups text ≡ Ok read) (IsFaultOf (template_in groups text))
    → (parts : List PlainPart) → IsTemplate groups text parts → MatchResult r (λ read. read ≡ parts) (λ fault. fault ≡ Memory)
template_only groups text (Ok read) e parts h = done_is read parts (sym e ∙ template_again groups text parts h)
template_only groups text (Err fault) (inl e) parts h = absurd cc (sym (template_again groups text parts h) ∙ e)
template_only groups text (Err fault) (inr e) parts h = e

-- all parts of a template satisfy `CanStand`
pub template_stands : (groups : ℕ) (text : List ℕ) (parts : List PlainPart) → IsTemplate groups text parts → AllByRecursion CanStand parts
template_stands groups text [] h = tt
template_stands groups text (OfGroup n ∷ parts) h = (tt, template_stands groups h.1 parts h.4)
template_stands groups text (Single c ∷ parts) h = (h.3.2.2, template_stands groups h.1 parts h.4)

-- each group that a template uses has a number of at most `groups`
pub template_needs : (groups : ℕ) (text : List ℕ) (parts : List PlainPart) → IsTemplate groups text parts → NeedAtMost groups parts
template_needs groups text [] h = tt
template_needs groups text (OfGroup n ∷ parts) h = (h.3.2, template_needs groups h.1 parts h.4)
template_needs groups text (Single c ∷ parts) h = (tt, template_needs groups h.1 parts h.4)
