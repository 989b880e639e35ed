use Rattle.std.proofs.Common.{◌≡◌, ◌∷◌, [], ℕ, List, None, Some, sym, ap, ◌∙◌, arith}
use Rattle.std.specs.List.{slice_get}
use Rattle.std.proofs.lemmas.Option.{same_Some}
use Rattle.std.proofs.lemmas.Str.Pattern.{strip_prefix_char}
use Rattle.name_patterns.proofs.template_reader.first_digit.Goals as goal

front_is : (text : List ℕ) (octet : ℕ) → Some octet ≡ slice_get text 0 → (rest : List ℕ) × (text ≡ octet ∷ rest)
front_is [] octet e = absurd cc
front_is (o ∷ text) octet e = (text, ap (λ (first : ℕ). first ∷ text) (same_Some o octet (sym e)))

pub returns-in_err-strip_prefix-clause-read : goal.returns-in_err-strip_prefix-clause-read
returns-in_err-strip_prefix-clause-read c =
    let digit = c.in_ok-digit.field-0.now in
    let bound = c.if-not-is_ascii_digit.ensures.cases in
    let front = front_is c.args.text.now digit (c.in_ok-digit.ensures.value ∙ ap (λ (bytes : List ℕ). slice_get bytes 0) c.as_bytes.ensures.value) in
    absurd (strip_prefix_char digit c.args.text.now None c.in_err-strip_prefix.ensures.cases (omega (arith, bound.1)) front.0 front.1)
