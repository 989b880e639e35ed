-- Indexes of keys in sorted rows, as binary search finds them.
use Rattle.std.proofs.Common.{◌≡◌, ◌≢◌, ℕ, zero, suc, ◌<◌, ◌≤◌, Bool, true, false, List, [], ◌∷◌, length, get_or, set, take, drop, refl, sym, ap, subst, ◌∙◌, arith, inl, inr}
use lib.Dec.{T}
use Rattle.std.specs.Prelude.{is_some, ◌↔◌, IsTrue, Result, Ok, Err, is_ok, IsOk, if◌then◌else◌}
use Rattle.std.specs.List.{AllByRecursion, insert}
use Rattle.std.specs.List.Sorted.{IsPartitionedBy, IsPartitionPoint}
use Rattle.std.specs.declared.cmp.Ordering.{Ordering}
use Rattle.std.specs.declared.cmp.Ordering.TheVariants.{Less, Equal, Greater}
use Rattle.std.specs.Ordering.{is_lt, ordering_reverse}
use Rattle.std.specs.Cmp.{IsTotalOrder, tied_itself}
use Rattle.std.specs.FinMap.{IsAntisymmetric, find, put, is_sorted}
use Rattle.std.specs.FinMap.Entries.{below_all}
use Rattle.std.proofs.lemmas.Bool.{cases_lt}
use Rattle.repo_core.specs.Room.{IsPlace, HasAt}
use Rattle.ndn_names.proofs.Rows.{is_less, first_of, second_of, put_found, put_gap, put_end, find_found, find_gap, find_end}

-- a list has an element at each index that is less than the length of the list
pub stands : {X : Type 0} (xs : List X) (at : ℕ) → at < length xs → (x : X) × (x ≡ get_or xs at x)
stands [] at lt = absurd (omega arith)
stands (x ∷ xs) zero lt = (x, refl)
stands (x ∷ xs) (suc n) lt = stands xs n (omega arith)

-- if each element at an index below `at` has the property `P`, all elements of `take at xs` have
-- the property
pub all_before : {X : Type 0} (P : X → Type 0) (xs : List X) (at : ℕ) → ((k : ℕ) (d : X) → k < at → k < length xs → P (get_or xs k d)) → AllByRecursion P (take at xs)
all_before P [] zero h = tt
all_before P [] (suc n) h = tt
all_before P (x ∷ xs) zero h = tt
all_before P (x ∷ xs) (suc n) h = (h 0 x (omega arith) (omega arith), all_before P xs n (λ k d lt within. h (suc k) d (omega arith) (omega arith)))

-- if each element at index `at` or later has the property `P`, all elements of `drop at xs` have
-- the property
pub all_from : {X : Type 0} (P : X → Type 0) (xs : List X) (at : ℕ) → ((k : ℕ) (d : X) → at ≤ k → k < length xs → P (get_or xs k d)) → AllByRecursion P (drop at xs)
all_from P [] zero h = tt
all_from P [] (suc n) h = tt
all_from P (x ∷ xs) zero h = (h 0 x (omega arith) (omega arith), all_from P xs zero (λ k d le within. h (suc k) d (omega arith) (omega arith)))
all_from P (x ∷ xs) (suc n) h = all_from P xs n (λ k d le within. h (suc k) d (omega arith) (omega arith))

less_is : (o : Ordering) → is_lt o ≡ true → o ≡ Less
less_is Less e = refl
less_is Equal e = absurd cc
less_is Greater e = absurd cc

module _ {K : Type 0} {R : K → K → Ordering} (total : IsTotalOrder R) where
  turned : (x y : K) → R x y ≡ Less → R y x ≡ Greater
  turned x y e = total.antisymm y x ∙ ap ordering_reverse e

  not_greater : (x y : K) → is_lt (R x y) ≡ false → R y x ≢ Greater
  not_greater x y above gt = (let less : R x y ≡ Less = total.antisymm x y ∙ ap ordering_reverse gt in let below = ap is_lt less in cc)

pub get_or_same : {X : Type 0} (xs : List X) (n : ℕ) (a b : X) → n < length xs → get_or xs n a ≡ get_or xs n b
get_or_same [] n a b lt = absurd (omega arith)
get_or_same (x ∷ xs) zero a b lt = refl
get_or_same (x ∷ xs) (suc n) a b lt = get_or_same xs n a b (omega arith)

module _ {K X : Type 0} {R : K → K → Ordering} (total : IsTotalOrder R) where
  below_at : (x : K) (es : List (K × X)) (j : ℕ) (d : K × X) → T (below_all R x es) → j < length es → R x (get_or es j d).0 ≡ Less
  below_at x [] j d h lt = absurd (omega arith)
  below_at x (e ∷ es) zero d h lt = is_less (R x e.0) (first_of _ _ h)
  below_at x (e ∷ es) (suc j) d h lt = below_at x es j d (second_of _ _ h) (omega arith)

  pub rises : (es : List (K × X)) (i j : ℕ) (d : K × X) → T (is_sorted R es) → i < j → j < length es → R (get_or es i d).0 (get_or es j d).0 ≡ Less
  rises [] i j d h lt within = absurd (omega arith)
  rises (e ∷ es) i zero d h lt within = absurd (omega arith)
  rises (e ∷ es) zero (suc j) d h lt within = below_at e.0 es j d (first_of _ _ h) (omega arith)
  rises (e ∷ es) (suc i) (suc j) d h lt within = rises es i j d (second_of _ _ h) (omega arith) (omega arith)

  -- in sorted rows, the rows with keys less than `k` come first
  pub below_parted : (k : K) (es : List (K × X)) → T (is_sorted R es) → IsPartitionedBy (λ row. is_lt (R row.0 k)) es
  below_parted k es h i j d le within below =
      elim (cases_lt i j) [
        | inl lt ↦ ap is_lt (total.trans _ _ _ (rises es i j d h lt within) (less_is _ below))
        | inr ge ↦ let same : i ≡ j = omega arith in subst (λ (n : ℕ). is_lt (R (get_or es n d).0 k) ≡ true) (sym same) below
      ]

  pub place_is : (k : K) (es : List (K × X)) (at : ℕ) → at ≤ length es → IsPartitionPoint (λ row. is_lt (R row.0 k) ≡ true) (λ row. is_lt (R row.0 k) ≡ false) es at → IsPlace R k es at
  place_is k es at within point = record {
    within = within;
    before = all_before (λ row. R k row.0 ≡ Greater) es at (λ i d lt below. turned total _ _ (less_is _ (point.0 i d (omega arith) lt)));
    after = λ i d le below. not_greater total _ _ (point.1 i d le below);
  }

  module _ (anti : IsAntisymmetric R) (k : K) (rows : List (K × X)) (at : ℕ) (place : IsPlace R k rows at) where
    tied : (row : K × X) → row.0 ≡ k → R k row.0 ≡ Equal
    tied row e = ap (R k) e ∙ tied_itself total k

    pub put_there : HasAt k rows at → (v : X) → put R k v rows ≡ set rows at (k, v)
    put_there has v =
        let s = stands rows at has.0 in
        let key = has.1 s.0 s.1 in
        put_found R k rows at s.0 has.0 s.1 place.before (tied s.0 key) key v

    pub find_there : HasAt k rows at → is_some (find R k rows) ≡ true
    find_there has =
        let s = stands rows at has.0 in
        ap is_some (find_found R k rows at s.0 has.0 s.1 place.before (tied s.0 (has.1 s.0 s.1)))

    -- if the key of a row is neither less than `k` nor equal to `k`, then `k` is less than this key
    other : (o : Ordering) (row : K × X) → R k row.0 ≡ o → o ≢ Greater → (R k row.0 ≡ Equal → ⊥) → R k row.0 ≡ Less
    other Less row e not_gt not_eq = e
    other Equal row e not_gt not_eq = absurd (not_eq e)
    other Greater row e not_gt not_eq = absurd (not_gt refl)

    less_here : (HasAt k rows at → ⊥) → (lt : at < length rows) → (row : K × X) → row ≡ get_or rows at row → R k row.0 ≡ Less
    less_here none lt row is =
        other (R k row.0) row refl (subst (λ (r : K × X). R k r.0 ≢ Greater) (sym is) (place.after at row (omega arith) lt))
        (λ tie. none (lt, λ r r_is. let one : r ≡ row = r_is ∙ get_or_same rows at r row lt ∙ sym is in ap (λ (p : K × X). p.0) one ∙ sym (anti k row.0 tie)))

    pub put_new : (HasAt k rows at → ⊥) → (v : X) → put R k v rows ≡ insert rows at (k, v)
    put_new none v =
        elim (cases_lt at (length rows)) [
          | inl lt ↦ let s = stands rows at lt in put_gap R k rows at s.0 lt s.1 place.before (less_here none lt s.0 s.1) v
          | inr ge ↦ let end : length rows ≡ at = (let le = place.within in omega arith) in
              put_end R k rows at ge place.before v ∙ ap (λ (n : ℕ). insert rows n (k, v)) end
        ]

    pub find_new : T (is_sorted R rows) → (HasAt k rows at → ⊥) → is_some (find R k rows) ≡ false
    find_new sorted none =
        elim (cases_lt at (length rows)) [
          | inl lt ↦ let s = stands rows at lt in ap is_some (find_gap total k rows at s.0 lt s.1 place.before (less_here none lt s.0 s.1) sorted)
          | inr ge ↦ ap is_some (find_end R k rows at ge place.before)
        ]

    pub find_at : (r : Bool) → T (is_sorted R rows) → IsTrue r ↔ HasAt k rows at → r ≡ is_some (find R k rows)
    find_at true sorted is = sym (find_there (is.0 refl))
    find_at false sorted is = sym (find_new sorted (λ has. let t = is.1 has in cc))

-- if an insertion succeeds, the resulting list is `new`
pub inserted : {X A E : Type 0} (r : Result A E) (new old : List X) → IsOk r → (if is_ok r then new else old) ≡ new
inserted (Ok u) new old h = refl
inserted (Err e) new old h = absurd cc
