-- In sorted rows, if a row is not greater than a key, all rows before this row are less than the
-- key.
use Rattle.std.proofs.Common.{◌≡◌, ℕ, zero, suc, ◌+◌, ◌<◌, ◌≤◌, true, false, List, [], ◌∷◌, length, get_or, take, refl, sym, ap, subst, ◌∙◌, arith, ltb}
use lib.Dec.{T}
use Rattle.std.specs.declared.cmp.Ordering.{Ordering}
use Rattle.std.specs.declared.cmp.Ordering.TheVariants.{Less, Equal, Greater}
use Rattle.std.specs.Ordering.{ordering_reverse}
use Rattle.std.specs.Cmp.{IsTotalOrder}
use Rattle.std.specs.Prelude.{None, insert}
use Rattle.std.proofs.lemmas.Bool.{ltb-true, ltb-false}
use Rattle.std.specs.FinMap.{is_sorted, find, put}
use Rattle.std.specs.FinMap.Entries.{below_all}
use Rattle.ndn_names.proofs.Rows.{AllLower, is_less, first_of, second_of, put_gap, put_end, find_gap, find_end}

lower : {K : Type 0} {R : K → K → Ordering} → IsTotalOrder R → (k x y : K) → R x y ≡ Less → R k y ≡ Greater → R k x ≡ Greater
lower {R = R} total k x y lt gt =
    let yk : R y k ≡ Less = total.antisymm y k ∙ ap ordering_reverse gt in
    total.antisymm k x ∙ ap ordering_reverse (total.trans x y k lt yk)

module _ {K X : Type 0} {R : K → K → Ordering} (total : IsTotalOrder R) where
  below_at : (x : K) (rows : List (K × X)) (at : ℕ) (row : K × X) → at < length rows → row ≡ get_or rows at row → T (below_all R x rows) → R x row.0 ≡ Less
  below_at x [] at row lt is h = absurd (omega arith)
  below_at x (e ∷ rows) zero row lt is h = ap (λ (r : K × X). R x r.0) is ∙ is_less (R x e.0) (first_of _ _ h)
  below_at x (e ∷ rows) (suc at) row lt is h = below_at x rows at row (omega arith) is (second_of _ _ h)

  upto : (k : K) (rows : List (K × X)) (at : ℕ) (row : K × X) → at < length rows → row ≡ get_or rows at row → T (is_sorted R rows) → R k row.0 ≡ Greater → AllLower R k (take (suc at) rows)
  upto k [] at row lt is sorted gt = absurd (omega arith)
  upto k (e ∷ rows) zero row lt is sorted gt = (ap (λ (r : K × X). R k r.0) (sym is) ∙ gt, tt)
  upto k (e ∷ rows) (suc at) row lt is sorted gt =
      (lower total k e.0 row.0 (below_at e.0 rows at row (omega arith) is (first_of _ _ sorted)) gt, upto k rows at row (omega arith) is (second_of _ _ sorted) gt)

  -- if the row at index `at` of sorted rows has the key `k`, all rows before this row are less than
  -- the key `k`
  before : (k : K) (rows : List (K × X)) (at : ℕ) (row : K × X) → at < length rows → row ≡ get_or rows at row → T (is_sorted R rows) → R k row.0 ≡ Equal → AllLower R k (take at rows)
  before k [] at row lt is sorted tie = absurd (omega arith)
  before k (e ∷ rows) zero row lt is sorted tie = tt
  before k (e ∷ rows) (suc at) row lt is sorted tie =
      let less : R e.0 row.0 ≡ Less = below_at e.0 rows at row (omega arith) is (first_of _ _ sorted) in
      let here : R k e.0 ≡ Greater = total.congr k row.0 e.0 tie ∙ total.antisymm row.0 e.0 ∙ ap ordering_reverse less in
      (here, before k rows at row (omega arith) is (second_of _ _ sorted) tie)

  pub lower_before : (k : K) (rows : List (K × X)) (at : ℕ) (row : K × X) → at < length rows → row ≡ get_or rows at row → T (is_sorted R rows) → R k row.0 ≡ Equal → AllLower R k (take at rows)
  lower_before = before

  pub lower_upto : (k : K) (rows : List (K × X)) (at : ℕ) (row : K × X) → at < length rows → row ≡ get_or rows at row → T (is_sorted R rows) → R k row.0 ≡ Greater → AllLower R k (take (at + 1) rows)
  lower_upto k rows at row lt is sorted gt =
      let one : suc at ≡ at + 1 = omega arith in
      subst (λ n. AllLower R k (take n rows)) one (upto k rows at row lt is sorted gt)

pub row_at : {Y : Type 0} (rows : List Y) (at : ℕ) → at < length rows → (row : Y) × (row ≡ get_or rows at row)
row_at [] at lt = absurd (omega arith)
row_at (e ∷ rows) zero lt = (e, refl)
row_at (e ∷ rows) (suc at) lt = row_at rows at (omega arith)

module _ {K X : Type 0} {R : K → K → Ordering} (total : IsTotalOrder R) where
  -- In sorted rows, let all rows before index `at` be less than the key. Let the row at index `at`
  -- be greater than the key, or missing. Then no row has the key, and `put` inserts a new row at
  -- index `at`.
  pub gap_is : (k : K) (rows : List (K × X)) (at : ℕ) → at ≤ length rows → AllLower R k (take at rows)
      → ((row : K × X) → at < length rows → row ≡ get_or rows at row → R k row.0 ≡ Less) → T (is_sorted R rows)
      → (at ≤ length rows) × ((v : X) → put R k v rows ≡ insert rows at (k, v)) × (find R k rows ≡ None)
  gap_is k rows at le low high sorted =
      elim (ltb at (length rows)) as (λ b. ltb at (length rows) ≡ b → (at ≤ length rows) × ((v : X) → put R k v rows ≡ insert rows at (k, v)) × (find R k rows ≡ None)) [
        | true ↦ λ t.
            let lt = ltb-true at (length rows) t in
            let row = row_at rows at lt in
            let less = high row.0 lt row.1 in
            (le, put_gap R k rows at row.0 lt row.1 low less, find_gap total k rows at row.0 lt row.1 low less sorted)
        | false ↦ λ t.
            let past = ltb-false at (length rows) t in
            let one : length rows ≡ at = omega (arith, past) in
            (le, (λ v. put_end R k rows at (omega (arith, one)) low v ∙ ap (λ n. insert rows n (k, v)) one), find_end R k rows at (omega (arith, one)) low)
      ] refl
