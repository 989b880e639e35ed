-- The blocks of HMAC, and the comparison of tags without an early exit.
use Rattle.std.proofs.Common.{◌≡◌, ℕ, ◌+◌, ◌<◌, List, [], ◌∷◌, ◌++◌, length, get_or, take, drop, length-append, refl, sym, ap, ◌∙◌, arith}
use Rattle.std.specs.Prelude.{◌↔◌}
use Rattle.std.specs.Int.Bits.{bit_or, bit_xor, xor_zero_r, xor_self, xor_assoc, or_add_and, and_le_l, and_le_r}
use Rattle.std.proofs.lemmas.List.{length-take, length-map, length-drop, take_more_same, get_or-take, take-take}
use Rattle.hmac_keys.specs.Mac.{xor_each}

-- combining the first i octets of a block with the pad keeps the block's length, so the index i is
-- still within the block
pub combined_len : (old now : List ℕ) (pad i : ℕ) → i < length old → now ≡ xor_each pad (take i old) ++ drop i old → i < length now
combined_len old now pad i lt e =
    omega (arith, lt, simp (length-append, length-map, length-take, length-drop) at (ap length e))

-- combining with 0x36, the inner pad, and then with 0x6A is the same as combining with 0x5C, the
-- outer pad
pub pads : (block : List ℕ) → xor_each 0x6A (xor_each 0x36 block) ≡ xor_each 0x5C block
pads [] = refl
pads (octet ∷ block) = λ i. xor_assoc octet 0x36 0x6A i ∷ pads block i

-- the first `i` octets of `xs` and of `ys` are equal exactly if `difference` is 0
abbrev pub HasCompared : List ℕ → List ℕ → ℕ → ℕ → Type 0
HasCompared xs ys difference i = (difference ≡ 0) ↔ (take i xs ≡ take i ys)

same_at : (xs ys : List ℕ) (i : ℕ) → take (i + 1) xs ≡ take (i + 1) ys → get_or xs i 0 ≡ get_or ys i 0
same_at xs ys i e = sym (get_or-take (i + 1) xs i 0 (omega arith)) ∙ ap (λ (l : List ℕ). get_or l i 0) e ∙ get_or-take (i + 1) ys i 0 (omega arith)

same_before : (xs ys : List ℕ) (i : ℕ) → take (i + 1) xs ≡ take (i + 1) ys → take i xs ≡ take i ys
same_before xs ys i e = sym (take-take i (i + 1) xs (omega arith)) ∙ ap (take i) e ∙ take-take i (i + 1) ys (omega arith)

neither : (a b : ℕ) → bit_or a b ≡ 0 → (a ≡ 0) × (b ≡ 0)
neither a b e = omega (arith, or_add_and a b, and_le_l a b, and_le_r a b)

no_difference : (a b : ℕ) → bit_xor a b ≡ 0 → a ≡ b
no_difference a b e = sym (xor_zero_r a) ∙ ap (bit_xor a) (sym (xor_self b)) ∙ sym (xor_assoc a b b) ∙ ap (λ (n : ℕ). bit_xor n b) e

pub compared_more : (xs ys : List ℕ) (difference i : ℕ) → i < length xs → i < length ys → HasCompared xs ys difference i
    → HasCompared xs ys (bit_or difference (bit_xor (get_or xs i 0) (get_or ys i 0))) (i + 1)
compared_more xs ys difference i a b h = (
  λ e.
      let none = neither difference (bit_xor (get_or xs i 0) (get_or ys i 0)) e in
      take_more_same xs ys i 0 a b (h.0 none.0) (no_difference _ _ none.1),
  λ e. rw (h.1 (same_before xs ys i e), same_at xs ys i e, xor_self (get_or ys i 0)) refl,
)
