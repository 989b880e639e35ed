-- An entry that remains after a removal was present before the removal.
use Rattle.std.proofs.Common.{◌≡◌, Bool, true, false, cond, List, [], ◌∷◌, refl, sym, ap, ◌∙◌}
use lib.Dec.{T}
use Rattle.std.specs.Prelude.{None, Some, ◌||◌}
use Rattle.std.specs.Cmp.{IsTotalOrder, tied_itself}
use Rattle.std.specs.List.{list_any}
use Rattle.std.specs.Ordering.{eq_by_cmp, is_eq}
use Rattle.std.specs.declared.cmp.Ordering.{Ordering}
use Rattle.std.specs.FinMap as map
use Rattle.std.specs.FinMap.{FinMap, IsAntisymmetric, entries, entries_sorted, find, get, get-entries, get-remove, is_sorted}
use Rattle.repo_core.proofs.Kept.{is_equal, lacks}
use Rattle.ndn_names.proofs.Rows.{first_of, second_of}

module _ {K X : Type 0} {R : K → K → Ordering} (o : IsTotalOrder R) (anti : IsAntisymmetric R) (test : K × X → Bool) where
  -- there are a key and a value such that a lookup of the key in the list finds the value, and the
  -- pair of the key and the value passes the test
  abbrev Passes : List (K × X) → Type 0
  Passes es = (k : K) × (v : X) × (find R k es ≡ Some v) × (test (k, v) ≡ true)

  later : (e : K × X) (es : List (K × X)) → T (is_sorted R (e ∷ es)) → Passes es → Passes (e ∷ es)
  later e es h p = (p.0, p.1, by (is_eq (R p.0 e.0)) refl, p.3)
    where
      by : (b : Bool) → is_eq (R p.0 e.0) ≡ b → find R p.0 (e ∷ es) ≡ Some p.1
      by false other = ap (λ (b : Bool). cond b (Some e.1) (find R p.0 es)) other ∙ p.2
      by true same =
          let none = lacks anti test e.0 es (first_of _ _ h) in
          let key = anti p.0 e.0 (is_equal _ same) in
          let found = sym (ap (λ (k : K). find R k es) key ∙ none) ∙ p.2 in
          absurd cc

  found_of : (es : List (K × X)) → T (is_sorted R es) → list_any test es ≡ true → Passes es
  found_of [] h some = absurd cc
  found_of (e ∷ es) h some = by (test e) refl some (λ rest. found_of es (second_of _ _ h) rest)
    where
      by : (b : Bool) → test e ≡ b → (b || list_any test es) ≡ true → (list_any test es ≡ true → Passes es) → Passes (e ∷ es)
      by true is rest again = (e.0, e.1, ap (λ (r : Ordering). cond (is_eq r) (Some e.1) (find R e.0 es)) (tied_itself o e.0), is)
      by false is rest again = later e es h (again rest)

  any_of : (es : List (K × X)) → Passes es → list_any test es ≡ true
  any_of [] p = let none = p.2 in absurd cc
  any_of (e ∷ es) p = by (is_eq (R p.0 e.0)) refl p.2 (λ found. any_of es (p.0, p.1, found, p.3))
    where
      here : (b : Bool) → b ≡ true → (b || list_any test es) ≡ true
      here true is = refl
      here false is = absurd cc

      there : (b : Bool) → list_any test es ≡ true → (b || list_any test es) ≡ true
      there true some = refl
      there false some = some

      by : (b : Bool) → is_eq (R p.0 e.0) ≡ b → cond b (Some e.1) (find R p.0 es) ≡ Some p.1 → (find R p.0 es ≡ Some p.1 → list_any test es ≡ true) → list_any test (e ∷ es) ≡ true
      by true same found again =
          let key = anti p.0 e.0 (is_equal _ same) in
          let value : e.1 ≡ p.1 = cc in
          here (test e) (sym (ap (λ (k : K). test (k, p.1)) key ∙ ap (λ (v : X). test (e.0, v)) (sym value)) ∙ p.3)
      by false other found again = there (test e) (again found)

  pub any_before_removal : (m : FinMap R X) (k : K) → list_any test (entries (map.remove m k)) ≡ true → list_any test (entries m) ≡ true
  any_before_removal m k some =
      let p = found_of (entries (map.remove m k)) (entries_sorted (map.remove m k)) some in
      any_of (entries m) (p.0, p.1, sym (get-entries m p.0) ∙ by p.0 p.1 (eq_by_cmp R p.0 k) (sym (get-remove o m k p.0) ∙ get-entries (map.remove m k) p.0 ∙ p.2), p.3)
    where
      by : (q : K) (v : X) (b : Bool) → cond b None (get m q) ≡ Some v → get m q ≡ Some v
      by q v true e = absurd cc
      by q v false e = e
