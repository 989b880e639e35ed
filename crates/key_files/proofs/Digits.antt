-- The function `hex::decode` reads two hexadecimal digits of either case for each octet.
use Rattle.std.proofs.Common.{◌≡◌, ℕ, suc, ◌+◌, ◌*◌, ◌%◌, ◌<◌, ◌≤◌, ◌==◌, Bool, true, false, cond, leb, ◌&&◌, List, [], ◌∷◌, length, Result, Ok, Err, refl, sym, ap, subst, ◌∙◌, arith, inl, inr}
use Rattle.std.specs.Prelude.{Option, Some, None}
use Rattle.std.proofs.lemmas.Bool.{cases_lt, false_from_ne_true, and_parts, leb-true}
use Rattle.std.specs.Char.{digit_value}
use Rattle.hex.specs.declared.error.FromHexError.{FromHexError}
use Rattle.hex.specs.Hex.{hex_digit_value, digit_or_error, value_at, pair_value, decode_pairs, decode_of, ◌>>=◌}
use Rattle.hex.proofs.HexLemmas.{decode_of-even}
use Rattle.hex.proofs.Pairs.{cons_byte, decode_pairs-ok_pair}
use Rattle.ndn_names.specs.ReadsAs.{IsHexPair, IsHex}
use Rattle.ndn_names.proofs.TextReading.{hex_length}

-- ---- reading one digit

digit_again : (c : ℕ) → digit_value c < 16 → hex_digit_value c ≡ Some (digit_value c)
digit_again c h = grind arith

-- the characters `0` to `9` have a digit value below 16
decimal_digit : (c : ℕ) → 48 ≤ c → c < 58 → digit_value c < 16
decimal_digit c a b = grind arith

upper_digit : (c : ℕ) → 65 ≤ c → c < 71 → digit_value c < 16
upper_digit c a b = grind arith

lower_digit : (c : ℕ) → 97 ≤ c → c < 103 → digit_value c < 16
lower_digit c a b = grind arith

no_test : (a b c : ℕ) → (a ≤ c → c < suc b → ⊥) → (leb a c && leb c b) ≡ false
no_test a b c h = false_from_ne_true (leb a c && leb c b) (λ t. let both = and_parts (leb a c) (leb c b) t in h (leb-true a c both.0) (omega (arith, leb-true c b both.1)))

no_digit : (c : ℕ) → 16 ≤ digit_value c → hex_digit_value c ≡ None
no_digit c h =
    rw (no_test 65 70 c (λ a b. omega (arith, upper_digit c a b)), no_test 97 102 c (λ a b. omega (arith, lower_digit c a b)), no_test 48 57 c (λ a b. omega (arith, decimal_digit c a b))) refl

digit_found : (c v : ℕ) → hex_digit_value c ≡ Some v → (digit_value c ≡ v) × (digit_value c < 16)
digit_found c v e = elim (cases_lt (digit_value c) 16) [
  | inl small ↦ let same : Some (digit_value c) ≡ Some v = sym (digit_again c small) ∙ e in (cc, small)
  | inr large ↦ let none : None ≡ Some v = sym (no_digit c large) ∙ e in absurd cc
]

-- if `digit_or_error` returns the value `v`, its argument `o` is `Some v`
some_digit : (c i v : ℕ) (o : Option ℕ) → digit_or_error c i o ≡ Ok v → o ≡ Some v
some_digit c i v None e = absurd cc
some_digit c i v (Some w) e = let same : w ≡ v = cc in ap Some same

both_read : {A B : Type 0} (r : Result A FromHexError) (f : A → Result B FromHexError) (y : B) → (r >>= f) ≡ Ok y → (x : A) × (r ≡ Ok x) × (f x ≡ Ok y)
both_read (Ok x) f y e = (x, refl, e)
both_read (Err fault) f y e = absurd cc

pair_found : (high low i octet : ℕ) → pair_value high low i ≡ Ok octet → IsHexPair high low octet
pair_found high low i octet e =
    let first = both_read (value_at high i) _ octet e in
    let second = both_read (value_at low (i + 1)) _ octet first.2 in
    let a = digit_found high first.0 (some_digit high i first.0 (hex_digit_value high) first.1) in
    let b = digit_found low second.0 (some_digit low (i + 1) second.0 (hex_digit_value low) second.1) in
    let sum : first.0 * 16 + second.0 ≡ octet = cc second.2 in
    (omega arith, omega arith, omega arith)

pair_again : (high low i octet : ℕ) → IsHexPair high low octet → pair_value high low i ≡ Ok octet
pair_again high low i octet h =
    rw (digit_again high h.0, digit_again low h.1) (ap (λ (n : ℕ). Ok n) (omega arith))

-- ---- reading a text of digits

pairs_found : (i : ℕ) (text octets : List ℕ) → decode_pairs i text ≡ Ok octets → IsHex text octets
unfolding decode_pairs
pairs_found i [] octets e = let none : [] ≡ octets = cc in subst (IsHex []) none refl
pairs_found i (digit ∷ []) octets e = absurd cc
pairs_found i (high ∷ low ∷ rest) octets e =
    let first = both_read (pair_value high low i) _ octets e in
    let others = both_read (decode_pairs (i + 2) rest) _ octets first.2 in
    let whole : first.0 ∷ others.0 ≡ octets = cc others.2 in
    subst (IsHex (high ∷ low ∷ rest)) whole (high, low, rest, refl, pair_found high low i first.0 first.1, pairs_found (i + 2) rest others.0 others.1)

pairs_again : (i : ℕ) (text octets : List ℕ) → IsHex text octets → decode_pairs i text ≡ Ok octets
unfolding decode_pairs
pairs_again i text [] h = ap (decode_pairs i) h
pairs_again i text (octet ∷ octets) h =
    ap (decode_pairs i) h.3 ∙ decode_pairs-ok_pair i h.0 h.1 octet h.2 (pair_again h.0 h.1 i octet h.4) ∙ ap (cons_byte octet) (pairs_again (i + 2) h.2 octets h.5)

passed : (b : Bool) (fault : FromHexError) (r : Result (List ℕ) FromHexError) (octets : List ℕ) → cond b (Err fault) r ≡ Ok octets → r ≡ Ok octets
passed true fault r octets e = absurd cc
passed false fault r octets e = e

pub decode_found : (digits octets : List ℕ) → decode_of digits ≡ Ok octets → IsHex digits octets
decode_found digits octets e = pairs_found 0 digits octets (passed (length digits % 2 == 1) _ (decode_pairs 0 digits) octets e)

pub decode_again : (digits octets : List ℕ) → IsHex digits octets → decode_of digits ≡ Ok octets
decode_again digits octets h = decode_of-even digits (omega (arith, hex_length digits octets h)) ∙ pairs_again 0 digits octets h
