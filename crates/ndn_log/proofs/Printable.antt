-- All octets of a shown text (`shown_text`) are printable.
use Rattle.std.proofs.Common.{◌≡◌, ℕ, suc, ◌<◌, ◌/◌, ◌%◌, ◌&&◌, Bool, true, false, List, [], ◌∷◌, get_or, refl, ap₂, ◌∙◌, arith, if◌then◌else◌}
use Rattle.std.specs.List.{list_all}
use Rattle.std.specs.Fmt.{digit_glyph}
use Rattle.std.proofs.lemmas.Grind.{common_steps}
use Rattle.std.proofs.lemmas.List.Folds.{list_all-append}
use Rattle.ndn_names.specs.Uri.{hexadecimal}
use Rattle.ndn_log.specs.Line.{is_printable, shown, shown_text}

digit_is_printable : (n : ℕ) → n < 16 → is_printable (digit_glyph true n) ≡ true
digit_is_printable n small = grind (arith, common_steps)

escaped_is_printable : (octet : ℕ) → octet < 256 → list_all is_printable (37 ∷ hexadecimal true octet) ≡ true
escaped_is_printable octet small =
    let high = digit_is_printable (octet / 16) (omega arith) in
    let low = digit_is_printable (octet % 16) (omega arith) in
    ap₂ (λ a b. a && (b && true)) high low

one_is_printable : (octet : ℕ) (p : Bool) → is_printable octet ≡ p → octet < 256 → list_all is_printable (if p then octet ∷ [] else 37 ∷ hexadecimal true octet) ≡ true
one_is_printable octet true is small = rw is refl
one_is_printable octet false is small = escaped_is_printable octet small

pub shown_is_printable : (text : List ℕ) → ((i : ℕ) → get_or text i 0 < 256) → list_all is_printable (shown_text text) ≡ true
shown_is_printable [] octets = refl
shown_is_printable (o ∷ text) octets =
    let first = one_is_printable o (is_printable o) refl (octets 0) in
    let others = shown_is_printable text (λ i. octets (suc i)) in
    list_all-append is_printable (shown o) (shown_text text) ∙ ap₂ (λ a b. a && b) first others
