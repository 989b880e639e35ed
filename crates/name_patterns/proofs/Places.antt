-- Sets of positions, as the bits of a number.
use Rattle.std.proofs.Common.{◌≡◌, ◌≢◌, ℕ, zero, suc, ◌+◌, ◌-◌, ◌*◌, ◌/◌, ◌%◌, ◌^◌, ◌<◌, ◌≤◌, Bool, true, false, ◌&&◌, ◌||◌, eqb, min, max, List, [], ◌∷◌, length, drop, get_or, get_or-drop, length-drop, Some, None, refl, sym, ◌∙◌, ap, arith, inl, inr}
use Rattle.std.specs.Prelude.{slice_get}
use Rattle.std.specs.Int.{bit_at, w128, trailing_ones}
use Rattle.std.specs.Int.Count.{count_leading_zeros}
use Rattle.std.specs.Int.RustNames.{bit_or, bit_and}
use Rattle.std.proofs.lemmas.Bool.{cases_eq, cases_lt, eq-eqb, ne_eqb, lt-ltb, le-ltb}
use Rattle.std.proofs.lemmas.List.Sums.{prefix_len_is}
use Rattle.std.proofs.lemmas.Nat.{or_lt, one_shl, pow_below, div-add-mod', mod_below, pow_pos, shr-shr, shr_below, shr_le, leading_length, pow-add, le-div}
use Rattle.std.proofs.lemmas.Nat.Bits.{bit_at_set_same, bit_at_set_other, bit_at-zero, bit_at_above, bit_at_cat_low, bit_at_cat_high, bit_at-trailing_ones, bit_at_ones, bit_at_ones_above, bit_at_and, bit_at_or, bit_at-lt}
use Rattle.ndn_tlv.specs.Element.{Field}
use Rattle.name_patterns.specs.Pattern.{PlainTest, Anything}
use Rattle.name_patterns.specs.Greedy.{passes, run_of, greatest, has_place, passes_there, ArePassed}

-- ---- one position of a set

is_there : (places place : ℕ) → bit_at places place ≡ 1 → has_place places place ≡ true
is_there places place e = eq-eqb (bit_at places place) 1 e

is_not_there : (places place : ℕ) → bit_at places place ≡ 0 → has_place places place ≡ false
is_not_there places place e = ne_eqb (bit_at places place) 1 (λ is. omega arith)

same_place : (a b i j : ℕ) → bit_at a i ≡ bit_at b j → has_place a i ≡ has_place b j
same_place a b i j e = rw e refl

pub no_place : (place : ℕ) → has_place 0 place ≡ false
no_place place = is_not_there 0 place (bit_at-zero place)

pub no_place_from : (places k place : ℕ) → places < 2 ^ k → k ≤ place → has_place places place ≡ false
no_place_from places k place small from = is_not_there places place (bit_at_above places k place small from)

-- Adding the position `k` to a set: `k` is in the new set (`added_same`). Any other position is in
-- the new set exactly if it is in the old set (`added_other`).
pub added_same : (places k : ℕ) → k < 128 → has_place (bit_or places (1 * 2 ^ k % 2 ^ 128)) k ≡ true
added_same places k low = is_there _ k (bit_at_set_same w128 places k low)

pub added_other : (places k place : ℕ) → k < 128 → place ≢ k → has_place (bit_or places (1 * 2 ^ k % 2 ^ 128)) place ≡ has_place places place
added_other places k place low other = same_place _ places place place (bit_at_set_other w128 places k low place other)

pub added_small : (places k : ℕ) → k < 64 → places < 2 ^ k → bit_or places (1 * 2 ^ k % 2 ^ 128) < 2 ^ (k + 1)
added_small places k low small =
    let low_pow : 2 ^ k < 2 ^ (k + 1) = pow_below k (k + 1) (omega arith) in
    rw (one_shl k 128 (omega arith)) (or_lt (k + 1) places (2 ^ k) (omega arith) low_pow)

pub first_same : (k : ℕ) → k < 128 → has_place (1 * 2 ^ k % 2 ^ 128) k ≡ true
first_same k low = added_same 0 k low

pub first_other : (k place : ℕ) → k < 128 → place ≢ k → has_place (1 * 2 ^ k % 2 ^ 128) place ≡ false
first_other k place low other = added_other 0 k place low other ∙ no_place place

-- `bit_and` computes the intersection of two sets (`in_both`), and `bit_or` computes their union
-- (`in_either`)
pub in_both : (a b place : ℕ) → has_place (bit_and a b) place ≡ (has_place a place && has_place b place)
in_both a b place = rw (bit_at_and a b place) (of_bits (bit_at a place) (bit_at b place) (bit_at-lt a place) (bit_at-lt b place))
  where
    of_bits : (x y : ℕ) → x < 2 → y < 2 → eqb (min x y) 1 ≡ (eqb x 1 && eqb y 1)
    of_bits zero zero low high = refl
    of_bits zero (suc zero) low high = refl
    of_bits (suc zero) zero low high = refl
    of_bits (suc zero) (suc zero) low high = refl
    of_bits (suc (suc x)) y low high = absurd (omega arith)
    of_bits zero (suc (suc y)) low high = absurd (omega arith)
    of_bits (suc zero) (suc (suc y)) low high = absurd (omega arith)

pub in_either : (a b place : ℕ) → has_place (bit_or a b) place ≡ (has_place a place || has_place b place)
in_either a b place = rw (bit_at_or a b place) (of_bits (bit_at a place) (bit_at b place) (bit_at-lt a place) (bit_at-lt b place))
  where
    of_bits : (x y : ℕ) → x < 2 → y < 2 → eqb (max x y) 1 ≡ (eqb x 1 || eqb y 1)
    of_bits zero zero low high = refl
    of_bits zero (suc zero) low high = refl
    of_bits (suc zero) zero low high = refl
    of_bits (suc zero) (suc zero) low high = refl
    of_bits (suc (suc x)) y low high = absurd (omega arith)
    of_bits zero (suc (suc y)) low high = absurd (omega arith)
    of_bits (suc zero) (suc (suc y)) low high = absurd (omega arith)

-- ---- the positions of a set from a given position on

bit_of_shr : (n k i : ℕ) → bit_at (n / 2 ^ k) i ≡ bit_at n (k + i)
bit_of_shr n k i = ap (λ (m : ℕ). m % 2) (shr-shr n k i)

pub one_before : (places place : ℕ) → has_place (places / 2 ^ 1) place ≡ has_place places (place + 1)
one_before places place =
    let next : 1 + place ≡ place + 1 = omega arith in
    same_place (places / 2 ^ 1) places place (place + 1) (bit_of_shr places 1 place ∙ ap (λ (i : ℕ). bit_at places i) next)

-- a run of passing components from `place` on ends at position 64 at the latest
pub run_is : (passed place : ℕ) → passed < 2 ^ 64 → place ≤ 64 → trailing_ones w128 (passed / 2 ^ place) + place ≤ 64
run_is passed place small low =
    let low_pow : 2 ^ 64 < 2 ^ 127 = pow_below 64 127 (omega arith) in
    let less : passed / 2 ^ place ≤ passed = shr_le passed place in
    let ones = bit_at-trailing_ones w128 (passed / 2 ^ place) (omega arith) in
    elim (cases_lt 64 (trailing_ones w128 (passed / 2 ^ place) + place)) [
      | inl above ↦
          let at : bit_at (passed / 2 ^ place) (64 - place) ≡ 1 = ones.2 (64 - place) (omega arith) in
          let there : bit_at passed (place + (64 - place)) ≡ 1 = sym (bit_of_shr passed place (64 - place)) ∙ at in
          let none : bit_at passed (place + (64 - place)) ≡ 0 = bit_at_above passed 64 (place + (64 - place)) small (omega arith) in
          absurd (omega arith)
      | inr not_above ↦ not_above
    ]

passes_at : (test : PlainTest) (cs : List Field) (i : ℕ) → i < length cs → passes_there test (slice_get cs i) ≡ passes test (get_or cs i (0, []))
passes_at test [] i h = absurd (omega arith)
passes_at test (c ∷ cs) zero h = refl
passes_at test (c ∷ cs) (suc i) h = passes_at test cs i (omega arith)

pub passes_no_end : (test : PlainTest) (cs : List Field) (i : ℕ) → length cs ≤ i → passes_there test (slice_get cs i) ≡ false
passes_no_end test [] i h = refl
passes_no_end test (c ∷ cs) zero h = absurd (omega arith)
passes_no_end test (c ∷ cs) (suc i) h = passes_no_end test cs i (omega arith)

pub run_at : (test : PlainTest) (cs : List Field) (passed place : ℕ) → passed < 2 ^ 64 → place ≤ length cs → ArePassed test cs passed
    → trailing_ones w128 (passed / 2 ^ place) ≡ run_of test (drop place cs)
run_at test cs passed place small low are =
    let low_pow : 2 ^ 64 < 2 ^ 127 = pow_below 64 127 (omega arith) in
    let less : passed / 2 ^ place ≤ passed = shr_le passed place in
    let run : ℕ = trailing_ones w128 (passed / 2 ^ place) in
    let ones = bit_at-trailing_ones w128 (passed / 2 ^ place) (omega arith) in
    let d : Field = (0, []) in
    let left : length (drop place cs) ≡ length cs - place = length-drop place cs in
    let passing = λ (k : ℕ) (h : k < run). sym (are (place + k)) ∙ is_there passed (place + k) (sym (bit_of_shr passed place k) ∙ ones.2 k h) in
    let fits : run ≤ length (drop place cs) =
    elim (cases_lt (length (drop place cs)) run) [
      | inl above ↦ absurd (both_ways (sym (passing (length cs - place) (omega arith)) ∙ passes_no_end test cs (place + (length cs - place)) (omega arith)))
      | inr not_above ↦ not_above
    ] in
    sym (prefix_len_is (passes test) (drop place cs) run d fits
    (λ k h. ap (passes test) (get_or-drop place cs k d) ∙ (sym (passes_at test cs (place + k) (omega arith)) ∙ passing k h))
    (λ h. ap (passes test) (get_or-drop place cs run d) ∙ (sym (passes_at test cs (place + run) (omega arith))
    ∙ (sym (are (place + run)) ∙ is_not_there passed (place + run) (sym (bit_of_shr passed place run) ∙ ones.1)))))
  where
    both_ways : true ≡ false → ⊥
    both_ways e = cc

-- ---- the greatest number that passes a test

pub greatest_is : (can : ℕ → Bool) (least n k : ℕ) → least ≤ k → k ≤ n → can k ≡ true → ((j : ℕ) → k < j → j ≤ n → can j ≡ false) → greatest can least n ≡ Some k
unfolding greatest
greatest_is can least zero k low high takes none =
    let k_is : k ≡ 0 = omega arith in
    let here : can 0 ≡ true = rw k_is at takes in
    rw (eq-eqb least 0 (omega arith), here, k_is) refl
greatest_is can least (suc n) k low high takes none =
    elim (cases_eq k (suc n)) [
      | inl is ↦
          let here : can (suc n) ≡ true = rw is at takes in
          rw (le-ltb (suc n) least (omega arith), here, is) refl
      | inr other ↦
          rw (le-ltb (suc n) least (omega arith), none (suc n) (omega arith) (omega arith))
          (greatest_is can least n k low (omega arith) takes (λ j above j_high. none j above (omega arith)))
    ]

pub greatest_none : (can : ℕ → Bool) (least n : ℕ) → ((j : ℕ) → least ≤ j → j ≤ n → can j ≡ false) → greatest can least n ≡ None
unfolding greatest
greatest_none can least zero none =
    elim (cases_eq least 0) [
      | inl is ↦ rw (eq-eqb least 0 is, none 0 (omega arith) (omega arith)) refl
      | inr other ↦ rw (ne_eqb least 0 other) refl
    ]
greatest_none can least (suc n) none =
    elim (cases_lt (suc n) least) [
      | inl below ↦ rw (lt-ltb (suc n) least below) refl
      | inr not_below ↦
          rw (le-ltb (suc n) least not_below, none (suc n) not_below (omega arith))
          (greatest_none can least n (λ j low high. none j low (omega arith)))
    ]

-- ---- the greatest of those positions of a set that are at most `end`

bit_of_mod : (n w i : ℕ) → i < w → bit_at (n % 2 ^ w) i ≡ bit_at n i
bit_of_mod n w i low =
    sym (bit_at_cat_low (n / 2 ^ w) w (n % 2 ^ w) i low) ∙ ap (λ (m : ℕ). bit_at m i) (div-add-mod' n (2 ^ w))

bit_of_shl : (n k i : ℕ) → k ≤ i → i < 128 → bit_at (n * 2 ^ k % 2 ^ 128) i ≡ bit_at n (i - k)
bit_of_shl n k i from low =
    let plain : n * 2 ^ k + 0 ≡ n * 2 ^ k = omega arith in
    bit_of_mod (n * 2 ^ k) 128 i low
    ∙ (sym (ap (λ (m : ℕ). bit_at m i) plain) ∙ bit_at_cat_high n k 0 i (pow_pos k) from)

-- if `a` has exactly `m + 1` binary digits, its bit `m` is 1
top_bit : (a m : ℕ) → a < 2 ^ (m + 1) → 2 ^ (m + 1) ≤ 2 * a + 1 → bit_at a m ≡ 1
top_bit a m high low =
    let twice : 2 ^ (m + 1) ≡ 2 ^ m * 2 = pow-add 2 m 1 in
    let at_least : 1 ≤ a / 2 ^ m = le-div 1 a (2 ^ m) (pow_pos m) (omega arith) in
    let below : a / 2 ^ m < 2 ^ 1 = shr_below a 1 m (rw swapped high) in
    let is : a / 2 ^ m ≡ 1 = omega arith in
    rw is refl
  where
    swapped : 1 + m ≡ m + 1
    swapped = omega arith

-- `end` minus the greatest of those positions of the set that are at most `end`, or 128 if no
-- position of the set is at most `end`
abbrev pub skipped : ℕ → ℕ → ℕ
skipped places end = count_leading_zeros 128 (places * 2 ^ (127 - end) % 2 ^ 128)

pub last_place : (places end : ℕ) → end ≤ 64 → skipped places end ≤ end → has_place places (end - skipped places end) ≡ true
last_place places end low skips =
    let a : ℕ = places * 2 ^ (127 - end) % 2 ^ 128 in
    let small : a < 2 ^ 128 = mod_below (places * 2 ^ (127 - end)) (2 ^ 128) (pow_pos 128) in
    let m = leading_length 128 a small in
    let m_is : m.0 ≡ 127 - skipped places end + 1 = omega (arith, m.1) in
    let top : bit_at a (127 - skipped places end) ≡ 1 = top_bit a (127 - skipped places end) (rw m_is at m.2) (rw m_is at m.3) in
    let place_is : 127 - skipped places end - (127 - end) ≡ end - skipped places end = omega arith in
    is_there places (end - skipped places end)
    (rw place_is at (sym (bit_of_shl places (127 - end) (127 - skipped places end) (omega arith) (omega arith)) ∙ top))

pub none_later : (places end place : ℕ) → end ≤ 64 → place ≤ end → end < place + skipped places end → has_place places place ≡ false
none_later places end place low high skips =
    let a : ℕ = places * 2 ^ (127 - end) % 2 ^ 128 in
    let small : a < 2 ^ 128 = mod_below (places * 2 ^ (127 - end)) (2 ^ 128) (pow_pos 128) in
    let m = leading_length 128 a small in
    let far : m.0 ≤ 127 - end + place = omega (arith, m.1) in
    let none : bit_at a (127 - end + place) ≡ 0 = bit_at_above a m.0 (127 - end + place) m.2 far in
    let place_is : 127 - end + place - (127 - end) ≡ place = omega arith in
    is_not_there places place
    (rw place_is at (sym (bit_of_shl places (127 - end) (127 - end + place) (omega arith) (omega arith)) ∙ none))

-- if `most` minus `skipped places (place + most)` is at least `least`, this difference is the
-- greatest count from `least` to `most` that leads from `place` to a position in the set `places`
pub greatest_taken : (places place least most : ℕ) → place + most ≤ 64 → skipped places (place + most) ≤ most → least ≤ most - skipped places (place + most)
    → greatest (λ count. has_place places (place + count)) least most ≡ Some (most - skipped places (place + most))
greatest_taken places place least most low skips enough =
    let s : ℕ = skipped places (place + most) in
    let last_is : place + most - s ≡ place + (most - s) = omega arith in
    greatest_is (λ count. has_place places (place + count)) least most (most - s) enough (omega arith)
    (rw last_is at (last_place places (place + most) low (omega arith)))
    (λ j above high. none_later places (place + most) (place + j) low (omega arith) (omega arith))

pub greatest_not_taken : (places place least most : ℕ) → place + most ≤ 64 → most < least + skipped places (place + most)
    → greatest (λ count. has_place places (place + count)) least most ≡ None
greatest_not_taken places place least most low skips =
    greatest_none (λ count. has_place places (place + count)) least most
    (λ j from high. none_later places (place + most) (place + j) low (omega arith) (omega arith))

-- ---- the positions of the components that pass the test `Anything`

pub all_passed : (cs : List Field) (len : ℕ) → len ≤ 64 → len ≡ length cs → ArePassed Anything cs (1 * 2 ^ len % 2 ^ 128 - 1)
all_passed cs len low len_is place =
    rw (one_shl len 128 (omega arith)) (elim (cases_lt place len) [
      | inl below ↦ is_there (2 ^ len - 1) place (bit_at_ones len place below) ∙ sym (passes_at Anything cs place (omega arith))
      | inr above ↦ is_not_there (2 ^ len - 1) place (bit_at_ones_above len place above) ∙ sym (passes_no_end Anything cs place (omega arith))
    ])
