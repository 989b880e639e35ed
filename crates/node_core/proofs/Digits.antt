-- Hexadecimal digits that are read two at a time, and the greatest of their values.
use Rattle.std.proofs.Common.{◌≡◌, ℕ, ◌+◌, ◌*◌, ◌%◌, ◌<◌, ◌≤◌, inl, inr, max, false, List, length, take, drop, slice_index, slice_set, Ok, Some, None, is_some, refl, sym, ap, ◌∙◌, arith}
use Rattle.std.specs.Prelude.{Option, MatchOption}
use Rattle.std.proofs.lemmas.Bool.{cases_lt}
use Rattle.hex.specs.Hex.{decode_pairs, digit_or_error, hex_digit_value, is_hex_digit, pair_value, value_at}
use Rattle.hex.proofs.Pairs.{prepend, decode_step}
use Rattle.hex.proofs.HexLemmas.{decode_pairs-ok}

-- `value` is the value of a hexadecimal digit, or 255 for an octet that is not a hexadecimal digit.
-- If `o` is `Some v`, `value` equals `v` and is below 16. If `o` is None, `value` is 255.
abbrev pub IsValue : Option ℕ → ℕ → Type 0
IsValue o value = MatchOption o (value ≡ 255) (λ v. (value ≡ v) × (v < 16))

digit_read : (o : Option ℕ) (value : ℕ) → IsValue o value → value < 16 → o ≡ Some value
digit_read None value is low = absurd (omega (arith, is, low))
digit_read (Some v) value is low = ap Some (sym is.0)

digit_none : (o : Option ℕ) (value : ℕ) → IsValue o value → 16 ≤ value → is_some o ≡ false
digit_none None value is high = refl
digit_none (Some v) value is high = absurd (omega (arith, is.0, is.1, high))

-- If `greatest`, the greatest value of the first `2 * i` digits, is below 16, then decoding all
-- digits gives the first `i` octets of `octets`, followed by the result of decoding the digits
-- after the first `2 * i` digits.
abbrev pub SpellSoFar : List ℕ → List ℕ → ℕ → ℕ → Type 0
SpellSoFar digits octets i greatest =
    greatest < 16 → decode_pairs 0 digits ≡ prepend (take i octets) (decode_pairs (2 * i) (drop (2 * i) digits))

-- if the greatest value of the digits read so far is 16 or more, some octet of `digits` is not a
-- hexadecimal digit
abbrev pub HasNoDigit : List ℕ → ℕ → Type 0
HasNoDigit digits greatest = 16 ≤ greatest → (k : ℕ) × (k < length digits) × (is_hex_digit (slice_index digits k) ≡ false)

module _ (digits octets : List ℕ) (i high low greatest most value : ℕ) (few : i < length octets) (fits : 2 * i + 1 < length digits)
    (first : IsValue (hex_digit_value (slice_index digits (2 * i))) high) (second : IsValue (hex_digit_value (slice_index digits (2 * i + 1))) low)
    (most_is : most ≡ max (max high low) greatest) where
  pub spell_more : value ≡ high % 16 * 16 + low % 16 → SpellSoFar digits octets i greatest → SpellSoFar digits (slice_set octets i value) (i + 1) most
  spell_more is so_far small =
      let h : high < 16 = omega (arith, most_is, small) in
      let l : low < 16 = omega (arith, most_is, small) in
      let g : greatest < 16 = omega (arith, most_is, small) in
      let a : value_at (slice_index digits (2 * i)) (2 * i) ≡ Ok high =
      ap (digit_or_error (slice_index digits (2 * i)) (2 * i)) (digit_read _ high first h) in
      let b : value_at (slice_index digits (2 * i + 1)) (2 * i + 1) ≡ Ok low =
      ap (digit_or_error (slice_index digits (2 * i + 1)) (2 * i + 1)) (digit_read _ low second l) in
      let pair : pair_value (slice_index digits (2 * i)) (slice_index digits (2 * i + 1)) (2 * i) ≡ Ok (high * 16 + low) = rw (a, b) refl in
      let same : high * 16 + low ≡ value = omega (arith, is, h, l) in
      decode_step digits octets i value fits few (pair ∙ ap Ok same) (so_far g)

  pub none_more : HasNoDigit digits greatest → HasNoDigit digits most
  none_more none great =
      elim (cases_lt greatest 16) [
        | inr over ↦ none over
        | inl under ↦
            elim (cases_lt high 16) [
              | inr over ↦ (2 * i, omega (arith, fits), digit_none _ high first over)
              | inl good ↦ (2 * i + 1, fits, digit_none _ low second (omega (arith, most_is, great, under, good)))
            ]
      ]

-- a text with an octet that is not a hexadecimal digit does not encode octets
pub spells_none : (digits spelled : List ℕ) (k : ℕ) → k < length digits → is_hex_digit (slice_index digits k) ≡ false → decode_pairs 0 digits ≡ Ok spelled → ⊥
spells_none digits spelled k few bad is =
    let good = (decode_pairs-ok 0 digits spelled is).0 k 0 few in cc (bad, good)
