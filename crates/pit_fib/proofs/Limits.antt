-- A table of values by name stays within its limits when it is changed.
use Rattle.std.proofs.Common.{◌≡◌, ◌⊎◌, inl, inr, ◌+◌, ◌-◌, ◌<◌, ◌≤◌, Bool, true, false, cond, List, [], ◌∷◌, length, refl, sym, ap, subst, ◌∙◌, arith}
use Rattle.std.specs.Prelude.{Option, None, Some, IsSome}
use Rattle.std.specs.Option.{option_and_then}
use Rattle.std.specs.Ordering.{eq_by_cmp}
use Rattle.std.specs.FinMap.{get, len, empty, entries, insert, remove, contains_key, get-empty, get-insert, get-remove, len-empty, len-entries, len-insert, len-remove}
use Rattle.ndn_tlv.specs.Element.{Field}
use Rattle.ndn_names.specs.Order.{name_cmp}
use Rattle.ndn_names.specs.Key.{name_cmp-total, name_cmp-antisymmetric}
use Rattle.name_trie.specs.ByName.{ByName, revise, revised, with_entry}
use Rattle.name_trie.proofs.Least.{entries-revise}
use Rattle.name_trie.proofs.Revised.{equal, get-revise}
use Rattle.pit_fib.specs.Limits.{IsWithinLimits}
use Rattle.pit_fib.specs.StrategyTable.{without_choice}

some_same : {X : Type 0} (o p : Option X) → o ≡ p → IsSome o → IsSome p
some_same {X} o p is some = subst (λ (q : Option X). IsSome q) is some

none_there : {X : Type 0} {P : Type 0} (o : Option X) → o ≡ None → IsSome o → P
none_there None e some = absurd cc
none_there (Some x) e some = absurd cc

some_before : {X : Type 0} (change : X → Option X) (o : Option X) → IsSome (option_and_then change o) → IsSome o
some_before change None some = none_there (option_and_then change None) refl some
some_before change (Some x) some = refl

-- ---- tables of values by name that are within their limits

module _ {X : Type 0} where
  pub limits_empty : IsWithinLimits (empty {X = X} {R = name_cmp})
  limits_empty = record {
    bounded = (let none = len-empty name_cmp X in omega (arith, none));
    shallow = λ name some. none_there (get (empty {X = X} {R = name_cmp}) name) (get-empty name_cmp name) some;
  }

  module _ (t : ByName X) (within : IsWithinLimits t) where
    few_with : (b : Bool) → b ≡ true ⊎ (len t < 4096) → cond b (len t) (len t + 1) ≤ 4096
    few_with true room = within.bounded
    few_with false (inl is) = absurd cc
    few_with false (inr room) = omega (arith, room)

    pub limits_insert : (name : List Field) (x : X) → length name ≤ 32 → IsSome (get t name) ⊎ (len t < 4096) → IsWithinLimits (insert t name x)
    limits_insert name x le room = record {
      bounded = subst (λ n. n ≤ 4096) (sym (len-insert name_cmp-total t name x)) (few_with (contains_key t name) room);
      shallow = λ q some.
          elim (eq_by_cmp name_cmp q name) as (λ b. eq_by_cmp name_cmp q name ≡ b → IsSome (cond b (Some x) (get t q)) → length q ≤ 32) [
            | true ↦ λ e _. subst (λ (n : List Field). length n ≤ 32) (sym (name_cmp-antisymmetric q name (equal _ e))) le
            | false ↦ λ e s. within.shallow q s
          ] refl (some_same _ _ (get-insert name_cmp-total t name x q) some);
    }

    fewer : (b : Bool) → cond b (len t - 1) (len t) ≤ 4096
    fewer true = (let most = within.bounded in omega (arith, most))
    fewer false = within.bounded

    pub limits_remove : (name : List Field) → IsWithinLimits (remove t name)
    limits_remove name = record {
      bounded = subst (λ n. n ≤ 4096) (sym (len-remove name_cmp-total t name)) (fewer (contains_key t name));
      shallow = λ q some.
          elim (eq_by_cmp name_cmp q name) as (λ b. IsSome (cond b None (get t q)) → length q ≤ 32) [
            | true ↦ λ s. none_there (cond true None (get t q)) refl s
            | false ↦ λ s. within.shallow q s
          ] (some_same _ _ (get-remove name_cmp-total t name q) some);
    }

    pub limits_without : (name : List Field) → IsWithinLimits (without_choice t name)
    limits_without [] = within
    limits_without (c ∷ name) = limits_remove (c ∷ name)

    revised_fewer : (change : X → Option X) (es : List (List Field × X)) → length (revised change es) ≤ length es
    revised_fewer change [] = omega arith
    revised_fewer change (e ∷ es) =
        let rest = revised_fewer change es in
        elim (change e.1) as (λ o. length (with_entry e.0 o (revised change es)) ≤ length (e ∷ es)) [ None ↦ omega (arith, rest) | (Some y) ↦ omega (arith, rest) ]

    pub limits_revise : (change : X → Option X) → IsWithinLimits (revise change t)
    limits_revise change = record {
      bounded =
          (let all = len-entries t in
          let left : len (revise change t) ≡ length (revised change (entries t)) = len-entries (revise change t) ∙ ap length (entries-revise name_cmp change t) in
          let less = revised_fewer change (entries t) in
          let most = within.bounded in
          omega (arith, all, left, less, most));
      shallow = λ q some. within.shallow q (some_before change (get t q) (some_same _ _ (get-revise name_cmp-antisymmetric change t q) some));
    }
