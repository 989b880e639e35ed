-- If a text between `<` and `>` contains no special character, the text is read as a component
-- exactly if the text denotes this component in the grammar.
use Rattle.std.proofs.Common.{◌≡◌, ◌≢◌, ℕ, ◌<◌, false, eqb, List, [], ◌∷◌, ◌++◌, length, Some, None, Result, Ok, Err, refl, sym, ap, subst, ◌∙◌, append_assoc, codes}
use Rattle.std.specs.List.{AllByRecursion}
use Rattle.std.proofs.lemmas.Bool.{eqb-true, or_parts}
use Rattle.ndn_tlv.specs.Element.{Field}
use Rattle.ndn_tlv.specs.Reading.{on_result}
use Rattle.ndn_names.specs.declared.fault.NameFault.{NameFault}
use Rattle.ndn_names.specs.UriReading.{cut_at, piece_in}
use Rattle.ndn_names.proofs.TextReading.{Lacks}
use Rattle.ndn_names.proofs.PieceReading.{IsCut, cut_found, cut_again, piece_shape, alone_found, alone_again}
use Rattle.name_patterns.specs.Grammar.{is_special, IsText, IsQuoted}
use Rattle.name_patterns.specs.PatternReading.{has_special, text_in, quoted_in}
use Rattle.name_patterns.proofs.GrammarSteps.{given, given_is, passed}

-- ---- the text of a component

was_read : (r : Result Field NameFault) (c : Field) → on_result (λ d. given d) (λ _. None) r ≡ Some c → r ≡ Ok c
was_read (Ok d) c e = ap (λ (d : Field). Ok d) (given_is d c e)
was_read (Err fault) c e = absurd cc

plain : (text : List ℕ) → has_special text ≡ false → Lacks 62 text → AllByRecursion (λ o. (is_special o ≡ false) × (o ≢ 62)) text
plain [] e h = tt
plain (o ∷ text) e h = let p = or_parts (is_special o) (has_special text) e in ((p.0, h.0), plain text p.1 h.1)

pub text_found : (text : List ℕ) (c : Field) → text_in text ≡ Some c → has_special text ≡ false → Lacks 62 text → IsText text c
text_found text c e none h =
    let is = alone_found text c (was_read (piece_in text) c e) in
    (plain text none h, is.0, is.1)

pub text_again : (text : List ℕ) (c : Field) → IsText text c → text_in text ≡ Some c
text_again text c h = rw (alone_again text c h.1 h.2) refl

plain_lacks : (text : List ℕ) → AllByRecursion (λ o. (is_special o ≡ false) × (o ≢ 62)) text → Lacks 62 text
plain_lacks [] h = tt
plain_lacks (o ∷ text) h = (h.0.1, plain_lacks text h.1)

plain_none : (text : List ℕ) → AllByRecursion (λ o. (is_special o ≡ false) × (o ≢ 62)) text → has_special text ≡ false
plain_none [] h = refl
plain_none (o ∷ text) h = rw (h.0.0) (plain_none text h.1)

pub text_none : (text : List ℕ) (c : Field) → IsText text c → has_special text ≡ false
text_none text c h = plain_none text h.0

pub text_some : (text : List ℕ) (c : Field) → IsText text c → 0 < length text
text_some text c h = (piece_shape text c h.1).0

-- ---- texts between < and >

pub quoted_found : (text : List ℕ) (parts : List ℕ × List ℕ) → quoted_in text ≡ Some parts → (text ≡ (codes "<" ++ (parts.0 ++ codes ">")) ++ parts.1) × Lacks 62 parts.0
quoted_found [] parts e = absurd cc
quoted_found (o ∷ text) parts e =
    let p = passed (eqb o 60) (cut_at 62 text) parts e in
    let cut = subst (IsCut 62 text) p.1 (cut_found 62 text) in
    let whole : text ≡ (parts.0 ++ codes ">") ++ parts.1 = cut.0 ∙ sym (append_assoc parts.0 (codes ">") parts.1) in
    (ap (λ (first : ℕ). first ∷ text) (eqb-true o 60 p.0) ∙ ap (λ (t : List ℕ). 60 ∷ t) whole, cut.1)

pub quoted_again : (front rest : List ℕ) (c : Field) (h : IsQuoted front c) → quoted_in (front ++ rest) ≡ Some (h.0, rest)
quoted_again front rest c h =
    ap (λ (t : List ℕ). quoted_in (t ++ rest)) h.1 ∙ ap (cut_at 62) (append_assoc h.0 (codes ">") rest) ∙ cut_again 62 h.0 rest (plain_lacks h.0 h.2.0)

-- a quoted text begins with `<`
pub quoted_front : (front : List ℕ) (c : Field) → IsQuoted front c → (inner : List ℕ) × (front ≡ 60 ∷ inner)
quoted_front front c h = (h.0 ++ codes ">", h.1)

-- if a quoted text without special characters is read as a component, this quoted text denotes the
-- component in the grammar
pub single_found : (text : List ℕ) (parts : List ℕ × List ℕ) (c : Field) → quoted_in text ≡ Some parts → text_in parts.0 ≡ Some c → has_special parts.0 ≡ false
    → (front : List ℕ) × (text ≡ front ++ parts.1) × IsQuoted front c
single_found text parts c e is none =
    let q = quoted_found text parts e in
    (codes "<" ++ (parts.0 ++ codes ">"), q.0, (parts.0, refl, text_found parts.0 c is none q.1))
