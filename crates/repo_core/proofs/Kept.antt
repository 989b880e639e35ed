-- The entries that pass a test.
use Rattle.std.proofs.Common.{◌≡◌, Bool, true, false, cond, List, [], ◌∷◌, refl, sym, ap, subst, ◌∙◌}
use lib.Dec.{T}
use Rattle.std.specs.Prelude.{filter, None, Some, ◌&&◌}
use Rattle.std.specs.declared.cmp.Ordering.{Ordering}
use Rattle.std.specs.declared.cmp.Ordering.TheVariants.{Less, Equal, Greater}
use Rattle.std.specs.Ordering.{is_eq, is_lt}
use Rattle.std.specs.FinMap.{FinMap, IsAntisymmetric, find, get, get-entries, get-from_sorted, is_sorted, from_sorted, entries, entries-from_sorted, entries_sorted}
use Rattle.std.specs.FinMap.Entries.{below_all}
use Rattle.repo_core.specs.Objects.{if_kept, kept}
use Rattle.ndn_names.proofs.Rows.{first_of, is_less, second_of}

both : (a b : Bool) → T a → T b → T (a && b)
both true b p q = q
both false b p q = p

module _ {K X : Type 0} (R : K → K → Ordering) (test : K × X → Bool) where
  below_filter : (x : K) (es : List (K × X)) → T (below_all R x es) → T (below_all R x (filter test es))
  below_filter x [] h = tt
  below_filter x (e ∷ es) h = split (test e) (below_filter x es (second_of _ _ h))
    where
      split : (b : Bool) → T (below_all R x (filter test es)) → T (below_all R x (cond b (e ∷ filter test es) (filter test es)))
      split true rest = both (is_lt (R x e.0)) _ (first_of _ _ h) rest
      split false rest = rest

  pub sorted_filter : (es : List (K × X)) → T (is_sorted R es) → T (is_sorted R (filter test es))
  sorted_filter [] h = tt
  sorted_filter (e ∷ es) h = split (test e) (sorted_filter es (second_of _ _ h))
    where
      split : (b : Bool) → T (is_sorted R (filter test es)) → T (is_sorted R (cond b (e ∷ filter test es) (filter test es)))
      split true rest = both (below_all R e.0 (filter test es)) _ (below_filter e.0 es (first_of _ _ h)) rest
      split false rest = rest

  pub kept_sorted : (es fs : List (K × X)) → T (is_sorted R es) → fs ≡ filter test es → T (is_sorted R fs)
  kept_sorted es fs h e = subst (λ (rows : List (K × X)). T (is_sorted R rows)) (sym e) (sorted_filter es h)

  pub from_kept : (es fs : List (K × X)) → T (is_sorted R es) → fs ≡ filter test es → from_sorted {R = R} fs ≡ kept test (from_sorted {R = R} es)
  unfolding kept
  from_kept es fs h e = ap (λ (rows : List (K × X)). from_sorted {R = R} rows) (e ∙ ap (filter test) (sym (entries-from_sorted R es h)))

  pub entries-kept : (m : FinMap R X) → entries (kept test m) ≡ filter test (entries m)
  unfolding kept
  entries-kept m = entries-from_sorted R (filter test (entries m)) (sorted_filter (entries m) (entries_sorted m))

pub is_equal : (o : Ordering) → is_eq o ≡ true → o ≡ Equal
is_equal Less e = absurd cc
is_equal Equal e = refl
is_equal Greater e = absurd cc

module _ {K X : Type 0} {R : K → K → Ordering} (anti : IsAntisymmetric R) (test : K × X → Bool) (k : K) where
  pub lacks : (es : List (K × X)) → T (below_all R k es) → find R k es ≡ None
  lacks [] h = refl
  lacks (e ∷ es) h = ap (λ o. cond (is_eq o) (Some e.1) (find R k es)) (is_less (R k e.0) (first_of _ _ h)) ∙ lacks es (second_of _ _ h)

  found : (es : List (K × X)) → T (is_sorted R es) → find R k (filter test es) ≡ if_kept test k (find R k es)
  found [] h = refl
  found (e ∷ es) h = split (is_eq (R k e.0)) (test e) refl refl (found es (second_of _ _ h))
    where
      here : is_eq (R k e.0) ≡ true → test (k, e.1) ≡ test e
      here eq = ap (λ (x : K). test (x, e.1)) (anti k e.0 (is_equal _ eq))

      none : is_eq (R k e.0) ≡ true → find R k es ≡ None
      none eq = lacks es (subst (λ (x : K). T (below_all R x es)) (sym (anti k e.0 (is_equal _ eq))) (first_of _ _ h))

      split : (same passes : Bool) → is_eq (R k e.0) ≡ same → test e ≡ passes → find R k (filter test es) ≡ if_kept test k (find R k es)
          → find R k (cond passes (e ∷ filter test es) (filter test es)) ≡ if_kept test k (cond same (Some e.1) (find R k es))
      split true true eq t again =
          ap (λ (b : Bool). cond b (Some e.1) (find R k (filter test es))) eq ∙ sym (ap (λ (b : Bool). cond b (Some e.1) None) (here eq ∙ t))
      split true false eq t again =
          again ∙ ap (if_kept test k) (none eq) ∙ sym (ap (λ (b : Bool). cond b (Some e.1) None) (here eq ∙ t))
      split false true eq t again =
          ap (λ (b : Bool). cond b (Some e.1) (find R k (filter test es))) eq ∙ again
      split false false eq t again = again

  pub get-kept : (m : FinMap R X) → get (kept test m) k ≡ if_kept test k (get m k)
  unfolding kept
  get-kept m =
      get-from_sorted R (filter test (entries m)) k (sorted_filter R test (entries m) (entries_sorted m))
      ∙ found (entries m) (entries_sorted m) ∙ ap (if_kept test k) (sym (get-entries m k))
