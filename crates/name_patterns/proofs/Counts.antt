-- The positions from which an atom and the later atoms can match all remaining components, computed
-- for each number of components that the atom can take.
use Rattle.std.proofs.Common.{◌≡◌, ℕ, zero, suc, ◌+◌, ◌/◌, ◌^◌, ◌<◌, ◌≤◌, Bool, true, false, not, ◌&&◌, ◌||◌, ltb, List, [], ◌∷◌, length, drop, length-drop, Option, Some, None, is_some, refl, sym, ◌∙◌, ap, arith, add-one, inl, inr, true≢false}
use Rattle.std.specs.Prelude.{slice_get}
use Rattle.std.specs.Int.RustNames.{bit_and, bit_or}
use Rattle.std.proofs.lemmas.Bool.{and_from, and_parts, or_left, or_right, or_cases, cases_Bool, cases_lt, cases_eq, ltb-false, le-ltb, lt-ltb}
use Rattle.std.proofs.lemmas.List.Sums.{prefix_len-le-length}
use Rattle.ndn_tlv.specs.Element.{Field}
use Rattle.name_patterns.specs.Pattern.{Bounds, PlainTest, PlainAtom}
use Rattle.name_patterns.specs.Greedy.{passes, at_most, run_of, greatest, first_count, has_place, ArePassed, AreSplit}
use Rattle.name_patterns.proofs.Places.{in_both, in_either, one_before, passes_no_end}
use Rattle.name_patterns.proofs.Rows.{count_by_places}
use Rattle.name_patterns.proofs.Splits.{no_greatest, IsGreatest, some_greatest}

-- `takes passed after place k`: `passed` has the `k` positions from `place` on, and `after` has the
-- position `place + k`
abbrev pub takes : ℕ → ℕ → ℕ → ℕ → Bool
takes passed after place zero = has_place after place
takes passed after place (suc k) = has_place passed place && takes passed after (place + 1) k

-- `takes_some passed after place least n`: at least one `k` with `least ≤ k < n` satisfies
-- `takes passed after place k`
abbrev pub takes_some : ℕ → ℕ → ℕ → ℕ → ℕ → Bool
takes_some passed after place least zero = false
takes_some passed after place least (suc n) = takes_some passed after place least n || (not (ltb n least) && takes passed after place n)

-- ---- one step of the loop in `split_before`, from the count n to the count n + 1

pub takes_step : (passed after begins n : ℕ) → ((p : ℕ) → has_place begins p ≡ takes passed after p n)
    → (p : ℕ) → has_place (bit_and passed (begins / 2 ^ 1)) p ≡ takes passed after p (n + 1)
takes_step passed after begins n are p =
    rw add-one (in_both passed (begins / 2 ^ 1) p ∙ ap (λ (b : Bool). has_place passed p && b) (one_before begins p ∙ are (p + 1)))

or_false : (a : Bool) → a || false ≡ a
or_false true = refl
or_false false = refl

and_false : (a : Bool) → a && false ≡ false
and_false true = refl
and_false false = refl

pub some_step : (passed after begins split least n : ℕ) → ((p : ℕ) → has_place begins p ≡ takes passed after p n)
    → ((p : ℕ) → has_place split p ≡ takes_some passed after p least n) → least ≤ n
    → (p : ℕ) → has_place (bit_or split begins) p ≡ takes_some passed after p least (n + 1)
some_step passed after begins split least n are some low p =
    rw (add-one, le-ltb n least low) (in_either split begins p ∙ rw (some p, are p) refl)

pub few_step : (passed after split least n : ℕ) → ((p : ℕ) → has_place split p ≡ takes_some passed after p least n) → n < least
    → (p : ℕ) → has_place split p ≡ takes_some passed after p least (n + 1)
few_step passed after split least n some few p =
    rw (add-one, lt-ltb n least few) (some p ∙ sym (or_false (takes_some passed after p least n)))

-- ---- if `takes` is false at all positions for the count n, `takes` is false for all counts m > n

none_after : (passed after n m : ℕ) → ((p : ℕ) → takes passed after p n ≡ false) → n ≤ m → (p : ℕ) → takes passed after p m ≡ false
none_after passed after n zero none low p = let n_is : n ≡ 0 = omega arith in rw n_is at (none p)
none_after passed after n (suc m) none low p =
    elim (cases_eq n (suc m)) [
      | inl is ↦ rw is at (none p)
      | inr other ↦ rw (none_after passed after n m none (omega arith) (p + 1)) (and_false (has_place passed p))
    ]

pub no_more : (passed after least n m : ℕ) → ((p : ℕ) → takes passed after p n ≡ false) → n ≤ m
    → (p : ℕ) → takes_some passed after p least n ≡ takes_some passed after p least m
no_more passed after least n zero none low p = let n_is : n ≡ 0 = omega arith in rw n_is refl
no_more passed after least n (suc m) none low p =
    elim (cases_eq n (suc m)) [
      | inl is ↦ rw is refl
      | inr other ↦
          rw (none_after passed after n m none (omega arith) p, and_false (not (ltb m least)), or_false (takes_some passed after p least m))
          (no_more passed after least n m none (omega arith) p)
    ]

-- ---- the counts that `takes` allows are the possible counts of the first atom

found_in : (passed after place least n : ℕ) → takes_some passed after place least n ≡ true
    → (k : ℕ) × (least ≤ k) × (k < n) × (takes passed after place k ≡ true)
found_in passed after place least zero e = absurd (true≢false (sym e))
found_in passed after place least (suc n) e =
    elim (or_cases (takes_some passed after place least n) (not (ltb n least) && takes passed after place n) e) [
      | inl earlier ↦
          let found = found_in passed after place least n earlier in
          (found.0, found.1, omega (arith, found.2), found.3)
      | inr last ↦
          let parts = and_parts (not (ltb n least)) (takes passed after place n) last in
          (n, ltb-false n least (not_true (ltb n least) parts.0), omega arith, parts.1)
    ]
  where
    not_true : (b : Bool) → not b ≡ true → b ≡ false
    not_true true h = absurd (true≢false (sym h))
    not_true false h = refl

among : (passed after place least n k : ℕ) → least ≤ k → k < n → takes passed after place k ≡ true → takes_some passed after place least n ≡ true
among passed after place least zero k from low e = absurd (omega arith)
among passed after place least (suc n) k from low e =
    elim (cases_eq k n) [
      | inl is ↦
          let here : takes passed after place n ≡ true = rw is at e in
          let enough : least ≤ n = omega arith in
          or_right (takes_some passed after place least n) (not (ltb n least) && takes passed after place n) (rw (le-ltb n least enough) here)
      | inr other ↦ or_left (takes_some passed after place least n) (not (ltb n least) && takes passed after place n) (among passed after place least n k from (omega arith) e)
    ]

at : (cs : List Field) (place : ℕ) → place < length cs → (c : Field) × (drop place cs ≡ c ∷ drop (place + 1) cs) × (slice_get cs place ≡ Some c)
at [] place low = absurd (omega arith)
at (c ∷ cs) zero low = (c, refl, refl)
at (c ∷ cs) (suc place) low =
    let rest = at cs place (omega arith) in
    let next : suc place + 1 ≡ suc (place + 1) = omega arith in
    (rest.0, rw next rest.1, rest.2)

passing : (test : PlainTest) (cs : List Field) (passed place : ℕ) → ArePassed test cs passed → has_place passed place ≡ true → place < length cs
passing test cs passed place are there =
    elim (cases_lt place (length cs)) [
      | inl below ↦ below
      | inr above ↦ absurd (true≢false (sym there ∙ (are place ∙ passes_no_end test cs place above)))
    ]

-- if `takes` is true for the position `place` and the count `k`, at least `k` consecutive
-- components pass `test` from `place` on, and `after` has the position after these `k` components
taken_of_run : (test : PlainTest) (cs : List Field) (passed after place k : ℕ) → ArePassed test cs passed → takes passed after place k ≡ true
    → (k ≤ run_of test (drop place cs)) × (has_place after (place + k) ≡ true)
taken_of_run test cs passed after place zero are e = let is : place + 0 ≡ place = omega arith in (omega arith, rw is e)
taken_of_run test cs passed after place (suc k) are e =
    let parts = and_parts (has_place passed place) (takes passed after (place + 1) k) e in
    let c = at cs place (passing test cs passed place are parts.0) in
    let passes_is : passes test c.0 ≡ true = sym (sym parts.0 ∙ (are place ∙ rw c.2 refl)) in
    let rest = taken_of_run test cs passed after (place + 1) k are parts.1 in
    let next : place + suc k ≡ place + 1 + k = omega arith in
    let run : run_of test (drop place cs) ≡ 1 + run_of test (drop (place + 1) cs) = rw (c.1, passes_is) refl in
    (omega (arith, run, rest.0), rw next rest.1)

run_again : (test : PlainTest) (cs : List Field) (passed after place k : ℕ) → ArePassed test cs passed → k ≤ run_of test (drop place cs)
    → has_place after (place + k) ≡ true → takes passed after place k ≡ true
run_again test cs passed after place zero are low there = let is : place + 0 ≡ place = omega arith in rw is at there
run_again test cs passed after place (suc k) are low there =
    let fits : run_of test (drop place cs) ≤ length (drop place cs) = prefix_len-le-length (passes test) (drop place cs) in
    let c = at cs place (omega (arith, length-drop place cs)) in
    let next : place + suc k ≡ place + 1 + k = omega arith in
    let first = first_passes test c.0 (drop (place + 1) cs) k (rw c.1 at low) in
    and_from (has_place passed place) (takes passed after (place + 1) k)
    (are place ∙ rw c.2 first.0)
    (run_again test cs passed after (place + 1) k are first.1 (rw next at there))
  where
    first_passes : (t : PlainTest) (x : Field) (xs : List Field) (n : ℕ) → suc n ≤ run_of t (x ∷ xs) → (passes t x ≡ true) × (n ≤ run_of t xs)
    first_passes t x xs n more =
        elim (cases_Bool (passes t x)) [
          | inl is ↦
              let all : run_of t (x ∷ xs) ≡ 1 + run_of t xs = rw is refl in
              (is, omega (arith, all))
          | inr is_not ↦
              let none : run_of t (x ∷ xs) ≡ 0 = rw is_not refl in
              absurd (omega (arith, none))
        ]

least_bound : (most : Option ℕ) (run k : ℕ) → k < at_most most 64 + 1 → k ≤ run → k ≤ at_most most run
least_bound None run k low high = high
least_bound (Some most) run k low high = omega arith

bound_of : (most : Option ℕ) (run k : ℕ) → run ≤ 64 → k ≤ at_most most run → (k < at_most most 64 + 1) × (k ≤ run)
bound_of None run k small low = (omega arith, low)
bound_of (Some most) run k small low = (omega arith, omega arith)

same_tests : (a b : Bool) → (a ≡ true → b ≡ true) → (b ≡ true → a ≡ true) → a ≡ b
same_tests true b h k = sym (h refl)
same_tests false true h k = k refl
same_tests false false h k = refl

-- `takes_some`, with the bounds of the first atom, is true of exactly those positions from which
-- the first atom and the later atoms have a split
pub split_by_counts : (atom : PlainAtom) (atoms : List PlainAtom) (cs : List Field) (bounds : Bounds) (passed after place : ℕ) → bounds ≡ atom.bounds
    → ArePassed atom.test cs passed → AreSplit atoms cs after → length cs ≤ 64 → place ≤ length cs
    → takes_some passed after place bounds.least (at_most bounds.most 64 + 1) ≡ is_some (first_count (atom ∷ atoms) (drop place cs))
split_by_counts atom atoms cs bounds passed after place bounds_is are split len low =
    let can : ℕ → Bool = λ count. has_place after (place + count) in
    let run : ℕ = run_of atom.test (drop place cs) in
    let fits : run ≤ length (drop place cs) = prefix_len-le-length (passes atom.test) (drop place cs) in
    let small : run ≤ 64 = omega (arith, length-drop place cs) in
    rw (← count_by_places atom atoms cs bounds after place run bounds_is split refl low)
    (same_tests (takes_some passed after place bounds.least (at_most bounds.most 64 + 1)) (is_some (greatest can bounds.least (at_most bounds.most run)))
    (λ e.
    let found = found_in passed after place bounds.least (at_most bounds.most 64 + 1) e in
    let of_run = taken_of_run atom.test cs passed after place found.0 are found.3 in
    is_there can bounds.least (at_most bounds.most run) found.0 found.1 (least_bound bounds.most run found.0 found.2 of_run.0) of_run.1
    (greatest can bounds.least (at_most bounds.most run)) refl)
    (λ e.
    let found = came can bounds.least (at_most bounds.most run) (greatest can bounds.least (at_most bounds.most run)) refl e in
    let bound = bound_of bounds.most run found.0 small found.1.high in
    among passed after place bounds.least (at_most bounds.most 64 + 1) found.0 found.1.low bound.0
    (run_again atom.test cs passed after place found.0 are bound.1 found.1.can_take)))
  where
    is_there : (can : ℕ → Bool) (least n k : ℕ) → least ≤ k → k ≤ n → can k ≡ true → (r : Option ℕ) → greatest can least n ≡ r → is_some r ≡ true
    is_there can least n k from high takes_k None e = absurd (no_greatest can least n e k from high takes_k)
    is_there can least n k from high takes_k (Some j) e = refl

    came : (can : ℕ → Bool) (least n : ℕ) (r : Option ℕ) → greatest can least n ≡ r → is_some r ≡ true → (k : ℕ) × IsGreatest can least n k
    came can least n None e there = absurd (true≢false (sym there))
    came can least n (Some k) e there = (k, some_greatest can least n k e)
