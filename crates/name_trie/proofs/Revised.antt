-- Changing the values of rows, where a change may remove the row of the value.
use Rattle.std.proofs.Common.{◌≡◌, Bool, true, false, cond, List, [], ◌∷◌, refl, sym, ap, subst, ◌∙◌}
use lib.Dec.{T}
use Rattle.std.specs.Prelude.{Option, None, Some, option_and_then, ◌&&◌}
use Rattle.std.specs.declared.cmp.Ordering.{Ordering}
use Rattle.std.specs.declared.cmp.Ordering.TheVariants.{Less, Equal, Greater}
use Rattle.std.specs.Ordering.{eq_by_cmp, is_eq, is_lt}
use Rattle.std.specs.FinMap as finite
use Rattle.std.specs.FinMap.{FinMap, IsAntisymmetric, is_sorted, from_sorted, empty, find, get, get-entries, get-from_sorted, entries_sorted, entries-from_sorted}
use Rattle.std.specs.FinMap.Entries.{below_all}
use Rattle.name_trie.specs.ByName.{with_entry, revised, revise}
use Rattle.ndn_names.proofs.Rows.{first_of, second_of, no_entries, from_none}

both_of : (a b : Bool) → T a → T b → T (a && b)
both_of true b p q = q
both_of false b p q = p

module _ {K X Y : Type 0} (R : K → K → Ordering) (change : X → Option Y) where
  below_revised : (k : K) (es : List (K × X)) → T (below_all R k es) → T (below_all R k (revised change es))
  below_revised k [] h = tt
  below_revised k (e ∷ es) h =
      let rest = below_revised k es (second_of _ _ h) in
      elim (change e.1) as (λ o. T (below_all R k (with_entry e.0 o (revised change es)))) [ None ↦ rest | (Some x) ↦ both_of _ _ (first_of _ _ h) rest ]

  pub sorted_revised : (es : List (K × X)) → T (is_sorted R es) → T (is_sorted R (revised change es))
  sorted_revised [] h = tt
  sorted_revised (e ∷ es) h =
      let rest = sorted_revised es (second_of _ _ h) in
      elim (change e.1) as (λ o. T (is_sorted R (with_entry e.0 o (revised change es)))) [ None ↦ rest | (Some x) ↦ both_of _ _ (below_revised e.0 es (first_of _ _ h)) rest ]

-- ---- changing or removing each value of a map

pub revise-empty : {K X Y : Type 0} (R : K → K → Ordering) (change : X → Option Y) → revise change (empty {X = X} {R = R}) ≡ empty
unfolding revise
revise-empty R change = ap (λ es. from_sorted {R = R} (revised change es)) (no_entries R) ∙ from_none R

pub equal : (o : Ordering) → is_eq o ≡ true → o ≡ Equal
equal Less e = absurd cc
equal Equal e = refl
equal Greater e = absurd cc

pub find_below : {K X : Type 0} (R : K → K → Ordering) (q : K) (es : List (K × X)) → T (below_all R q es) → find R q es ≡ None
find_below R q [] h = refl
find_below R q (e ∷ es) h =
    elim (R q e.0) as (λ o. T (is_lt o && below_all R q es) → find R q es ≡ None → cond (is_eq o) (Some e.1) (find R q es) ≡ None) [
      | Less ↦ λ h r. r
      | Equal ↦ λ h r. absurd h
      | Greater ↦ λ h r. absurd h
    ] h (find_below R q es (second_of _ _ h))

pub from_revised : {K X Y : Type 0} (R : K → K → Ordering) (change : X → Option Y) (es : List (K × X)) → T (is_sorted R es) → from_sorted {R = R} (revised change es) ≡ revise change (from_sorted {R = R} es)
unfolding revise
from_revised R change es sorted = ap (λ l. from_sorted {R = R} (revised change l)) (sym (entries-from_sorted R es sorted))

module _ {K X Y : Type 0} {R : K → K → Ordering} (anti : IsAntisymmetric R) (change : X → Option Y) where
  -- if the later rows lack the key `q` of the first row, a lookup of `q` finds the first row's new
  -- value, or nothing if this row is removed
  first_found : (q k : K) (o : Option Y) (rest : List (K × Y)) → eq_by_cmp R q k ≡ true → find R q rest ≡ None → find R q (with_entry k o rest) ≡ o
  first_found q k None rest t none = none
  first_found q k (Some x) rest t none = ap (λ b. cond b (Some x) (find R q rest)) t

  first_passed : (q k : K) (o : Option Y) (rest : List (K × Y)) → eq_by_cmp R q k ≡ false → find R q (with_entry k o rest) ≡ find R q rest
  first_passed q k None rest t = refl
  first_passed q k (Some x) rest t = ap (λ b. cond b (Some x) (find R q rest)) t

  find-revised : (q : K) (es : List (K × X)) → T (is_sorted R es) → find R q (revised change es) ≡ option_and_then change (find R q es)
  find-revised q [] h = refl
  find-revised q (e ∷ es) h =
      let rest : find R q (revised change es) ≡ option_and_then change (find R q es) = find-revised q es (second_of _ _ h) in
      elim (eq_by_cmp R q e.0) as (λ t. eq_by_cmp R q e.0 ≡ t → find R q (with_entry e.0 (change e.1) (revised change es)) ≡ option_and_then change (cond t (Some e.1) (find R q es))) [
        | true ↦ λ t.
            let one : q ≡ e.0 = anti q e.0 (equal (R q e.0) t) in
            let none : find R q es ≡ None = find_below R q es (subst (λ k. T (below_all R k es)) (sym one) (first_of _ _ h)) in
            first_found q e.0 (change e.1) (revised change es) t (rest ∙ ap (option_and_then change) none)
        | false ↦ λ t. first_passed q e.0 (change e.1) (revised change es) t ∙ rest
      ] refl

  pub get-revise : (m : FinMap R X) (q : K) → get (revise change m) q ≡ option_and_then change (get m q)
  unfolding revise
  get-revise m q =
      get-from_sorted R (revised change (finite.entries m)) q (sorted_revised R change (finite.entries m) (entries_sorted m))
      ∙ find-revised q (finite.entries m) (entries_sorted m) ∙ ap (option_and_then change) (sym (get-entries m q))
