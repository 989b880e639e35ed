-- The lines of a text, and the last space of a line.
use Rattle.std.proofs.Common.{◌≡◌, ◌≢◌, ℕ, suc, ◌<◌, Bool, true, false, eqb, cond, List, [], ◌∷◌, ◌++◌, length, get_or, refl, sym, ap, subst, ◌∙◌, arith, Bor}
use Rattle.std.specs.Prelude.{Option, Some, None, MatchOption}
use Rattle.std.specs.Str.Pattern.{RFindsChar, SplitsAroundMatch}
use Rattle.std.proofs.lemmas.Bool.{eqb-true, ne_eqb}
use Rattle.std.proofs.lemmas.List.{take-append-drop}
use Rattle.std.proofs.lemmas.Str.Pattern.{IsSplitOnceResult, split_parts, NoCharPasses-char, drop_at_char}
use Rattle.ndn_names.proofs.TextReading.{Lacks}
use Rattle.key_files.specs.KeyFile.{in_front, lines_of}
use Rattle.ndn_tlv.specs.Options.{on_option}
use Rattle.key_files.specs.KeyReading.{at_last_space}

lacks_from_places : (octet : ℕ) (text : List ℕ) → ((i : ℕ) → i < length text → get_or text i 0 ≢ octet) → Lacks octet text
lacks_from_places octet [] h = tt
lacks_from_places octet (o ∷ text) h = (h 0 (omega arith), lacks_from_places octet text (λ i lt. h (suc i) (omega arith)))

-- ---- the lines of a text

line_before : (line after : List ℕ) → Lacks 10 line → lines_of (line ++ 10 ∷ after) ≡ line ∷ lines_of after
unfolding lines_of
line_before [] after h = refl
line_before (o ∷ line) after h = rw (ne_eqb o 10 h.0) (ap (in_front o) (line_before line after h.1))

last_line : (line : List ℕ) → Lacks 10 line → lines_of line ≡ line ∷ []
unfolding lines_of
last_line [] h = refl
last_line (o ∷ line) h = rw (ne_eqb o 10 h.0) (ap (in_front o) (last_line line h.1))

-- if a text is split at its first LF, its lines are the text before this LF, followed by the lines
-- of the text after it
pub lines_parts : (text : List ℕ) (line after : Bor (List ℕ)) → IsSplitOnceResult 10 text (Some (line, after)) → lines_of text ≡ line.now ∷ lines_of after.now
lines_parts text line after split =
    let p = split_parts 10 text (Some (line, after)) split (omega arith) in
    ap lines_of p.0 ∙ line_before line.now after.now (lacks_from_places 10 line.now p.1)

pub lines_whole : (text : List ℕ) → IsSplitOnceResult 10 text None → lines_of text ≡ text ∷ []
lines_whole text split = last_line text (lacks_from_places 10 text (split_parts 10 text None split (omega arith)))

-- ---- the last space of a line

no_space : (line : List ℕ) → Lacks 32 line → at_last_space line ≡ None
unfolding at_last_space
no_space [] h = refl
no_space (o ∷ line) h = rw (no_space line h.1, ne_eqb o 32 h.0) refl

pub space_again : (uri digits : List ℕ) → Lacks 32 digits → at_last_space (uri ++ 32 ∷ digits) ≡ Some (uri, digits)
unfolding at_last_space
space_again [] digits h = rw (no_space digits h) refl
space_again (o ∷ uri) digits h = rw (space_again uri digits h) refl

-- The texts before and after the last space of `o ∷ line`, or `None` if there is no space. The
-- argument `rest` is the pair of texts before and after the last space of `line`, or `None`.
abbrev with_octet : ℕ → List ℕ → Option (List ℕ × List ℕ) → Option (List ℕ × List ℕ)
with_octet o line rest = on_option (λ x. Some (o ∷ x.0, x.1)) (cond (eqb o 32) (Some ([], line)) None) rest

-- if a line consists of the two texts in the pair `x` with a space between them, and `Some x`
-- equals `Some y`, the line consists of the two texts in the pair `y` with a space between them
parts_are : (line : List ℕ) (x y : List ℕ × List ℕ) → Some x ≡ Some y → line ≡ x.0 ++ 32 ∷ x.1 → line ≡ y.0 ++ 32 ∷ y.1
parts_are line x y e h = let same : x ≡ y = cc in subst (λ (p : List ℕ × List ℕ). line ≡ p.0 ++ 32 ∷ p.1) same h

here : (o : ℕ) (line : List ℕ) (parts : List ℕ × List ℕ) → (t : Bool) → (t ≡ true → o ≡ 32) → cond t (Some ([], line)) None ≡ Some parts → o ∷ line ≡ parts.0 ++ 32 ∷ parts.1
here o line parts true is e = parts_are (o ∷ line) ([], line) parts e (ap (λ (first : ℕ). first ∷ line) (is refl))
here o line parts false is e = absurd cc

pub space_found : (line : List ℕ) (parts : List ℕ × List ℕ) → at_last_space line ≡ Some parts → line ≡ parts.0 ++ 32 ∷ parts.1
unfolding at_last_space
space_found [] parts e = absurd cc
space_found (o ∷ line) parts e = further (at_last_space line) (λ x. space_found line x) e
  where
    further : (rest : Option (List ℕ × List ℕ)) → ((x : List ℕ × List ℕ) → rest ≡ Some x → line ≡ x.0 ++ 32 ∷ x.1) → with_octet o line rest ≡ Some parts → o ∷ line ≡ parts.0 ++ 32 ∷ parts.1
    further (Some x) h e = parts_are (o ∷ line) (o ∷ x.0, x.1) parts e (ap (λ (rest : List ℕ). o ∷ rest) (h x refl))
    further None h e = here o line parts (eqb o 32) (eqb-true o 32) e

-- the result of `rsplit_once` at a space: the texts before and after the last space, or `None` if
-- there is no space
abbrev pub IsSpaceSplit : List ℕ → Option (Bor (List ℕ) × Bor (List ℕ)) → Type 0
IsSpaceSplit line r = MatchOption r (RFindsChar 32 line None) (λ x. SplitsAroundMatch (RFindsChar 32) line x.0.now x.1.now)

pub space_parts : (line : List ℕ) (uri digits : Bor (List ℕ)) → IsSpaceSplit line (Some (uri, digits)) → at_last_space line ≡ Some (uri.now, digits.now)
space_parts line uri digits h =
    let whole : line ≡ uri.now ++ 32 ∷ digits.now = sym (take-append-drop h.0 line) ∙ (λ k. sym h.3 k ++ (drop_at_char 32 line h.0 h.1 h.2.1 (omega arith) ∙ ap (λ (l : List ℕ). 32 ∷ l) (sym h.4)) k) in
    ap at_last_space whole ∙ space_again uri.now digits.now
    (lacks_from_places 32 digits.now (λ i. NoCharPasses-char 32 digits.now i (rw h.4 h.2.0) (omega arith)))

pub space_whole : (line : List ℕ) → IsSpaceSplit line None → at_last_space line ≡ None
space_whole line h = no_space line (lacks_from_places 32 line (λ i. NoCharPasses-char 32 line i h (omega arith)))
