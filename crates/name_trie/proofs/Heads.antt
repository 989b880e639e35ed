-- Comparing lists of octets by their heads. The head of a list is the big-endian number that the
-- first n octets of the list encode.
use Rattle.std.proofs.Common.{◌≡◌, ℕ, zero, suc, ◌+◌, ◌*◌, ◌^◌, ◌<◌, ◌≤◌, List, [], ◌∷◌, length, refl, sym, ap, subst, ◌∙◌, add-one, arith}
use Rattle.std.proofs.Math.Nat.{pow-succ', pow-le-pow_right}
use Rattle.std.proofs.lemmas.List.{get_or_past}
use Rattle.std.proofs.lemmas.Nat.{mul-add-lt}
use Rattle.std.proofs.lemmas.Grind.{same_number_lists}
use Rattle.std.specs.Prelude.{slice_index}
use Rattle.std.specs.Int.{w64, from_be_bytes}
use Rattle.std.specs.declared.cmp.Ordering.{Ordering}
use Rattle.std.specs.declared.cmp.Ordering.TheVariants.{Less, Equal, Greater}
use Rattle.std.specs.Ordering.{nat_cmp, ordering_then, ordering_reverse}
use Rattle.std.specs.Cmp.{nat_cmp_is, tied_itself}
use Rattle.std.specs.Cmp.Lexicographic.{slice_cmp}
use Rattle.std.proofs.lemmas.Cmp.{ranked, nat_list_cmp_total}
use Rattle.name_trie.specs.Head.{head}

abbrev pub AreOctets : List ℕ → Type 0
AreOctets octets = (i : ℕ) → slice_index octets i < 256

pub small : (n : ℕ) (octets : List ℕ) → AreOctets octets → head n octets < 256 ^ n
unfolding head
small zero octets are = omega arith
small (suc n) octets are =
    let less : head n octets * 256 + slice_index octets n < 256 * 256 ^ n = mul-add-lt (head n octets) 256 (slice_index octets n) (256 ^ n) (small n octets are) (are n) in
    subst (λ (m : ℕ). head n octets * 256 + slice_index octets n < m) (sym (pow-succ' 256 n)) less

-- the head of fewer than 8 octets is less than 2^56, so the head of one octet more fits in 64 bits
pub room : (n : ℕ) (octets : List ℕ) → AreOctets octets → n < 8 → head n octets < 2 ^ 56
room n octets are lt =
    let most : 256 ^ n ≤ 256 ^ 7 = pow-le-pow_right {n = 256} (omega arith) {i = n} {j = 7} (omega arith) in
    omega (arith, small n octets are, most)

pub next : (n : ℕ) (octets : List ℕ) → head (n + 1) octets ≡ head n octets * 256 + slice_index octets n
unfolding head
next n octets = rw add-one refl

-- if a list has at most n octets, the head of its first n + 1 octets is 256 times the head of its
-- first n octets, since missing octets count as zero
pub past : (n : ℕ) (octets : List ℕ) → length octets ≤ n → head (n + 1) octets ≡ head n octets * 256
past n octets le =
    let none : slice_index octets n ≡ 0 = get_or_past octets n 0 le in
    omega (arith, next n octets, none)

-- if the first 8 octets of `eight` are the first 8 octets of `octets`, the big-endian number that
-- these 8 octets encode is the head of `octets`
pub big_endian : (octets eight : List ℕ) → ((i : ℕ) → i < 8 → slice_index eight i ≡ slice_index octets i) → from_be_bytes w64 eight ≡ head 8 octets
unfolding head
big_endian octets eight same =
    let at = λ (i : ℕ) (lt : i < 8). same i lt in
    omega (arith, at 0 (omega arith), at 1 (omega arith), at 2 (omega arith), at 3 (omega arith), at 4 (omega arith), at 5 (omega arith), at 6 (omega arith), at 7 (omega arith))

abbrev Agree : ℕ → List ℕ → List ℕ → Type 0
Agree n a b = (j : ℕ) → j < n → slice_index a j ≡ slice_index b j

agree : (n : ℕ) (a b : List ℕ) → AreOctets a → AreOctets b → head n a ≡ head n b → Agree n a b
unfolding head
agree zero a b are bare same j lt = absurd (omega arith)
agree (suc n) a b are bare same j lt =
    let x = are n in
    let y = bare n in
    let front : head n a ≡ head n b = omega (arith, same, x, y) in
    let last : slice_index a n ≡ slice_index b n = omega (arith, same, x, y) in
    let by : (o : Ordering) → o ≡ nat_cmp j n → slice_index a j ≡ slice_index b j = λ o. elim o as (λ (r : Ordering). r ≡ nat_cmp j n → slice_index a j ≡ slice_index b j) [
      | Less ↦ λ e. agree n a b are bare front j (ranked j n Less e)
      | Equal ↦ λ e. ap (slice_index a) (ranked j n Equal e) ∙ last ∙ sym (ap (slice_index b) (ranked j n Equal e))
      | Greater ↦ λ e. absurd (let more : n < j = ranked j n Greater e in omega (arith, more, lt))
    ] in
    by (nat_cmp j n) refl

differs : (n : ℕ) (a b : List ℕ) → Agree n a b → slice_index a n < slice_index b n → slice_cmp nat_cmp a b ≡ Less
differs n [] [] same lt = absurd (omega arith)
differs n [] (y ∷ b) same lt = refl
differs zero (x ∷ a) [] same lt = absurd (omega arith)
differs (suc n) (x ∷ a) [] same lt = absurd (omega arith)
differs zero (x ∷ a) (y ∷ b) same lt = ap (λ o. ordering_then o (slice_cmp nat_cmp a b)) (sym (nat_cmp_is x y Less lt))
differs (suc n) (x ∷ a) (y ∷ b) same lt =
    ap (λ o. ordering_then o (slice_cmp nat_cmp a b)) (sym (nat_cmp_is x y Equal (same 0 (omega arith))))
    ∙ differs n a b (λ j le. same (suc j) (omega arith)) lt

less : (n : ℕ) (a b : List ℕ) → AreOctets a → AreOctets b → head n a < head n b → slice_cmp nat_cmp a b ≡ Less
unfolding head
less zero a b are bare lt = absurd (omega arith)
less (suc n) a b are bare lt =
    let x = are n in
    let y = bare n in
    let by : (o : Ordering) → o ≡ nat_cmp (head n a) (head n b) → slice_cmp nat_cmp a b ≡ Less = λ o. elim o as (λ (r : Ordering). r ≡ nat_cmp (head n a) (head n b) → slice_cmp nat_cmp a b ≡ Less) [
      | Less ↦ λ e. less n a b are bare (ranked (head n a) (head n b) Less e)
      | Equal ↦ λ e.
          let front : head n a ≡ head n b = ranked (head n a) (head n b) Equal e in
          differs n a b (agree n a b are bare front) (omega (arith, front, x, y, lt))
      | Greater ↦ λ e. absurd (let more : head n b < head n a = ranked (head n a) (head n b) Greater e in omega (arith, more, x, y, lt))
    ] in
    by (nat_cmp (head n a) (head n b)) refl

-- the order of two lists of octets stays the same if their heads (the first n octets as numbers)
-- are compared first
pub by_head : (n : ℕ) (a b : List ℕ) → AreOctets a → AreOctets b → ordering_then (nat_cmp (head n a) (head n b)) (slice_cmp nat_cmp a b) ≡ slice_cmp nat_cmp a b
by_head n a b are bare =
    let by : (o : Ordering) → o ≡ nat_cmp (head n a) (head n b) → ordering_then o (slice_cmp nat_cmp a b) ≡ slice_cmp nat_cmp a b = λ o.
    elim o as (λ (r : Ordering). r ≡ nat_cmp (head n a) (head n b) → ordering_then r (slice_cmp nat_cmp a b) ≡ slice_cmp nat_cmp a b) [
      | Less ↦ λ e. sym (less n a b are bare (ranked (head n a) (head n b) Less e))
      | Equal ↦ λ _. refl
      | Greater ↦ λ e. sym (nat_list_cmp_total.antisymm a b ∙ ap ordering_reverse (less n b a bare are (ranked (head n a) (head n b) Greater e)))
    ] in
    by (nat_cmp (head n a) (head n b)) refl

-- if two lists of octets have the same length, and this length is at most 8, the lists have the
-- same order as their heads
pub by_head_alone : (a b : List ℕ) → AreOctets a → AreOctets b → length a ≡ length b → length a ≤ 8 → nat_cmp (head 8 a) (head 8 b) ≡ slice_cmp nat_cmp a b
by_head_alone a b are bare len short =
    let by : (o : Ordering) → o ≡ nat_cmp (head 8 a) (head 8 b) → o ≡ slice_cmp nat_cmp a b = λ o.
    elim o as (λ (r : Ordering). r ≡ nat_cmp (head 8 a) (head 8 b) → r ≡ slice_cmp nat_cmp a b) [
      | Less ↦ λ e. sym (less 8 a b are bare (ranked (head 8 a) (head 8 b) Less e))
      | Equal ↦ λ e.
          let same : a ≡ b = same_number_lists a b len (λ k lt. agree 8 a b are bare (ranked (head 8 a) (head 8 b) Equal e) k (omega arith)) in
          sym (ap (λ (l : List ℕ). slice_cmp nat_cmp l b) same ∙ tied_itself nat_list_cmp_total b)
      | Greater ↦ λ e. ap (λ o. ordering_then o (slice_cmp nat_cmp a b)) e ∙ by_head 8 a b are bare
    ] in
    by (nat_cmp (head 8 a) (head 8 b)) refl
