-- A component is in a list of component texts if the component equals the component of the text at
-- some index.
use Rattle.std.proofs.Common.{◌≡◌, ℕ, zero, suc, ◌<◌, true, ◌&&◌, eqb, List, [], ◌∷◌, length, map, get_or, arith}
use Rattle.std.specs.Prelude.{bytes_eq}
use Rattle.std.proofs.lemmas.Bool.{or_left, or_right}
use Rattle.ndn_tlv.specs.Element.{Field}
use Rattle.name_patterns.specs.declared.text.Text.{Text}
use Rattle.name_patterns.specs.Greedy.{is_among}
use Rattle.name_patterns.specs.Shown.{field_of}

pub among_at : (c : Field) (texts : List Text) (i : ℕ) (t : Text) → i < length texts → t ≡ get_or texts i t
    → (eqb t.kind c.0 && bytes_eq t.value.items c.1) ≡ true → is_among c (map field_of texts) ≡ true
among_at c [] i t h is e = absurd (omega arith)
among_at c (x ∷ xs) zero t h is e =
    let P : Text → Type 0 = λ y. (eqb y.kind c.0 && bytes_eq y.value.items c.1) ≡ true in
    let here : P x = rw is at e in
    or_left _ _ here
among_at c (x ∷ xs) (suc i) t h is e = or_right _ _ (among_at c xs i t (omega arith) is e)
