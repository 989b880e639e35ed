-- The rows of the search's table, and the sets of positions in the rows.
use Rattle.std.proofs.Common.{◌≡◌, ◌≢◌, ℕ, zero, suc, ◌+◌, ◌-◌, ◌*◌, ◌<◌, ◌≤◌, Bool, true, false, List, [], ◌∷◌, ◌++◌, length, length-drop, map, drop, get_or, Option, Some, None, is_some, refl, sym, ◌∙◌, ap, arith, inl, inr}
use Rattle.std.specs.Prelude.{slice_get, slice_set, IsSomeAnd}
use Rattle.std.proofs.Math.Seq.{drop-length}
use Rattle.std.proofs.lemmas.List.Sums.{prefix_len-le-length}
use Rattle.std.proofs.lemmas.List.{drop-drop}
use Rattle.std.proofs.lemmas.Bool.{cases_eq}
use Rattle.ndn_tlv.specs.Element.{Field}
use Rattle.name_patterns.specs.declared.search.Row.{Row}
use Rattle.name_patterns.specs.Pattern.{Bounds, PlainTest, PlainAtom}
use Rattle.name_patterns.proofs.Places.{no_place, greatest_none}
use Rattle.name_patterns.specs.Greedy.{passes, at_most, run_of, greatest, first_count, has_place, passes_there, ArePassed, AreSplit, IsRow}

-- ---- replacing one element of a list

pub set_same : {X : Type 0} (xs : List X) (i : ℕ) (v : X) → i < length xs → slice_get (slice_set xs i v) i ≡ Some v
set_same [] i v h = absurd (omega arith)
set_same (x ∷ xs) zero v h = refl
set_same (x ∷ xs) (suc i) v h = set_same xs i v (omega arith)

pub set_other : {X : Type 0} (xs : List X) (i j : ℕ) (v : X) → i ≢ j → slice_get (slice_set xs i v) j ≡ slice_get xs j
set_other [] i j v h = refl
set_other (x ∷ xs) zero zero v h = absurd (h refl)
set_other (x ∷ xs) zero (suc j) v h = refl
set_other (x ∷ xs) (suc i) zero v h = refl
set_other (x ∷ xs) (suc i) (suc j) v h = set_other xs i j v (λ e. h (ap suc e))

-- ---- sets of positions

pub nil_after : (cs : List Field) (place : ℕ) → place < length cs → first_count [] (drop place cs) ≡ None
unfolding first_count
nil_after [] place h = absurd (omega arith)
nil_after (c ∷ cs) zero h = refl
nil_after (c ∷ cs) (suc place) h = nil_after cs place (omega arith)

pub nil_at_end : (cs : List Field) → first_count [] (drop (length cs) cs) ≡ Some 0
unfolding first_count
nil_at_end cs = rw (drop-length cs) refl

-- The end of the name is the only position from which the empty list of atoms has a split. So
-- `AreSplit` holds for the empty list and for a set `places` whose only position is the end of the
-- name.
pub last_split : (cs : List Field) (len places : ℕ) → length cs ≡ len → has_place places len ≡ true
    → ((place : ℕ) → place ≢ len → has_place places place ≡ false) → AreSplit [] cs places
last_split cs len places len_is there other place low =
    elim (cases_eq place len) [
      | inl is ↦
          let at_end : place ≡ length cs = is ∙ sym len_is in
          rw is there ∙ sym (ap is_some (ap (λ (n : ℕ). first_count [] (drop n cs)) at_end ∙ nil_at_end cs))
      | inr apart ↦ other place apart ∙ sym (ap is_some (nil_after cs place (omega arith)))
    ]

-- the result of `greatest` depends only on what the test returns for the numbers up to the limit
-- `n`
pub same_greatest : (can other : ℕ → Bool) (least n : ℕ) → ((k : ℕ) → k ≤ n → can k ≡ other k) → greatest can least n ≡ greatest other least n
unfolding greatest
same_greatest can other least zero h = rw (h 0 (omega arith)) refl
same_greatest can other least (suc n) h =
    rw (h (suc n) (omega arith), same_greatest can other least n (λ k low. h k (omega arith))) refl

at_most_low : (most : Option ℕ) (n : ℕ) → at_most most n ≤ n
at_most_low None n = omega arith
at_most_low (Some most) n = omega arith

-- If the later atoms have a split from exactly the positions in `after`, the first count of an atom
-- is the greatest count with three properties: it is within the atom's bounds, it is at most the
-- length of the run of passing components, and it leads to a position in `after`.
pub count_by_places : (atom : PlainAtom) (atoms : List PlainAtom) (cs : List Field) (bounds : Bounds) (after place run : ℕ)
    → bounds ≡ atom.bounds → AreSplit atoms cs after → run ≡ run_of atom.test (drop place cs) → place ≤ length cs
    → greatest (λ count. has_place after (place + count)) bounds.least (at_most bounds.most run) ≡ first_count (atom ∷ atoms) (drop place cs)
unfolding first_count
count_by_places atom atoms cs bounds after place run bounds_is are run_is low =
    let fits : run ≤ length cs - place = omega (arith, run_is, prefix_len-le-length (passes atom.test) (drop place cs), length-drop place cs) in
    let small : at_most bounds.most run ≤ run = at_most_low bounds.most run in
    rw (← run_is, ← bounds_is)
    (same_greatest (λ count. has_place after (place + count)) (λ count. is_some (first_count atoms (drop count (drop place cs)))) bounds.least
    (at_most bounds.most run) (λ k h. are (place + k) (omega arith) ∙ ap (λ (left : List Field). is_some (first_count atoms left)) (sym (drop-drop k place cs))))

-- if `atoms` have no split from any position, `atom` followed by `atoms` has no split from any
-- position either
none_in_front : (atom : PlainAtom) (atoms : List PlainAtom) (cs : List Field) → AreSplit atoms cs 0 → AreSplit (atom ∷ atoms) cs 0
none_in_front atom atoms cs none place low =
    let no_count : first_count (atom ∷ atoms) (drop place cs) ≡ None =
    sym (count_by_places atom atoms cs atom.bounds 0 place (run_of atom.test (drop place cs)) refl none refl low)
    ∙ greatest_none (λ count. has_place 0 (place + count)) atom.bounds.least (at_most atom.bounds.most (run_of atom.test (drop place cs))) (λ k from high. no_place (place + k)) in
    no_place place ∙ sym (ap is_some no_count)

pub none_from : (atoms : List PlainAtom) (cs : List Field) (first i : ℕ) → first ≤ i → i ≤ length atoms → AreSplit (drop i atoms) cs 0 → AreSplit (drop first atoms) cs 0
none_from atoms cs zero zero from low none = none
none_from [] cs zero (suc i) from low none = absurd (omega arith)
none_from [] cs (suc first) i from low none = absurd (omega arith)
none_from (atom ∷ atoms) cs zero (suc i) from low none = none_in_front atom atoms cs (none_from atoms cs 0 i (omega arith) (omega arith) none)
none_from (atom ∷ atoms) cs (suc first) zero from low none = absurd (omega arith)
none_from (atom ∷ atoms) cs (suc first) (suc i) from low none = none_from atoms cs first i (omega arith) (omega arith) none

-- if the set of the positions from which the atoms have a split is empty, `first_count` returns
-- `None` for the components from any position `place` on
pub none_there : (atoms : List PlainAtom) (cs : List Field) (place : ℕ) → AreSplit atoms cs 0 → place ≤ length cs → first_count atoms (drop place cs) ≡ None
none_there atoms cs place none low = of_test (first_count atoms (drop place cs)) (sym (none place low) ∙ no_place place)
  where
    of_test : (r : Option ℕ) → is_some r ≡ false → r ≡ None
    of_test None e = refl
    of_test (Some k) e = absurd cc

-- let `places` be the positions of the passing components of `cs`; if `next` has the same
-- positions, and also has the position of the component `c` after `cs` exactly if `c` passes, then
-- `next` are the positions of the passing components of `cs ++ c ∷ []`
pub pushed : (test : PlainTest) (cs : List Field) (c : Field) (places next place : ℕ) → ArePassed test cs places → length cs ≡ place → has_place next place ≡ passes test c
    → ((other : ℕ) → other ≢ place → has_place next other ≡ has_place places other) → ArePassed test (cs ++ c ∷ []) next
pushed test cs c places next place are len there others p =
    elim (cases_eq p place) [
      | inl is ↦
          let at : slice_get (cs ++ c ∷ []) (length cs) ≡ Some c = at_end cs c in
          rw (is, ← len, at) (rw (← len) at there)
      | inr apart ↦ others p apart ∙ (are p ∙ sym (not_at_end test cs c p (λ e. apart (e ∙ len))))
    ]
  where
    at_end : (xs : List Field) (x : Field) → slice_get (xs ++ x ∷ []) (length xs) ≡ Some x
    at_end [] x = refl
    at_end (y ∷ xs) x = at_end xs x

    not_at_end : (t : PlainTest) (xs : List Field) (x : Field) (i : ℕ) → i ≢ length xs → passes_there t (slice_get (xs ++ x ∷ []) i) ≡ passes_there t (slice_get xs i)
    not_at_end t [] x zero apart = absurd (apart refl)
    not_at_end t [] x (suc i) apart = refl
    not_at_end t (y ∷ xs) x zero apart = refl
    not_at_end t (y ∷ xs) x (suc i) apart = not_at_end t xs x i (λ e. apart (ap suc e))

-- ---- the rows of the table

drop_map_end : {X Y : Type 0} (f : X → Y) (xs : List X) → drop (length xs) (map f xs) ≡ []
drop_map_end f [] = refl
drop_map_end f (x ∷ xs) = drop_map_end f xs

-- if `places` are the positions from which the empty list of atoms has a split, `places` are also
-- the positions from which a list of atoms has a split after all its atoms are dropped
pub after_all : {X : Type 0} (f : X → PlainAtom) (xs : List X) (cs : List Field) (places : ℕ) → AreSplit [] cs places → AreSplit (drop (length xs) (map f xs)) cs places
after_all f xs cs places are = rw (drop_map_end f xs) are

pub row_after_all : {X : Type 0} (f : X → PlainAtom) (xs : List X) (cs : List Field) (row : Row) → AreSplit [] cs row.split → IsRow (drop (length xs) (map f xs)) cs row
row_after_all f xs cs row are = rw (drop_map_end f xs) are

pub drop_map : {X Y : Type 0} (f : X → Y) (xs : List X) (at : ℕ) (x : X) → at < length xs → x ≡ get_or xs at x
    → drop at (map f xs) ≡ f x ∷ drop (at + 1) (map f xs)
drop_map f [] at x h is = absurd (omega arith)
drop_map f (y ∷ xs) zero x h is = ap (λ z. f z ∷ map f xs) (sym is)
drop_map f (y ∷ xs) (suc at) x h is = rw next (drop_map f xs at x (omega arith) is)
  where
    next : suc at + 1 ≡ suc (at + 1)
    next = omega arith

-- if the rows from index `at + 1` to `n` have the property `P`, setting the row at index `at` to a
-- row with this property gives rows that have the property from index `at` to `n`
pub table_step : {X : Type 0} (P : ℕ → X → Type 0) (rows : List X) (at n : ℕ) (row : X) → at < length rows → P at row
    → ((k : ℕ) → at + 1 ≤ k → k ≤ n → IsSomeAnd (slice_get rows k) (P k)) → (k : ℕ) → at ≤ k → k ≤ n → IsSomeAnd (slice_get (slice_set rows at row) k) (P k)
table_step P rows at n row room here following k from low =
    elim (cases_eq at k) [
      | inl is ↦
          let first : IsSomeAnd (slice_get (slice_set rows at row) at) (P at) = rw (set_same rows at row room) here in
          rw (← is) first
      | inr other ↦ rw (set_other rows at k row other) (following k (omega arith) low)
    ]

pub times_step : (i at len : ℕ) → i ≡ at + 1 → len + at * len ≡ i * len
times_step i at len e = rw e (grind arith)

pub within_product : (i n len : ℕ) → i ≤ n → i ≤ len → i ≤ n * len
within_product zero n len few low = omega arith
within_product (suc i) zero len few low = absurd (omega arith)
within_product (suc i) (suc n) len few low = omega arith

pub product_le : (i n len : ℕ) → i ≤ n → i * len ≤ n * len
product_le i n len low =
    let sum_is : n ≡ i + (n - i) = omega arith in
    rw sum_is (omega arith)
