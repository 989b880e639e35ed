-- Changing each value of a map, and the least deadline of the values. A map without values is
-- replaced by None.
use Rattle.std.proofs.Common.{◌≡◌, ℕ, suc, ◌<◌, true, false, cond, eqb, List, [], ◌∷◌, length, refl, sym, ap, subst, ◌∙◌, arith}
use Rattle.std.specs.Prelude.{Option, None, Some, min}
use Rattle.std.specs.Option.{option_and_then}
use Rattle.std.specs.List.{AllByRecursion}
use Rattle.std.specs.declared.cmp.Ordering.{Ordering}
use Rattle.std.specs.Cmp.{IsTotalOrder}
use Rattle.std.specs.FinMap.{FinMap, IsAntisymmetric, empty_of_len, get, get-empty, len, len-entries, entries, entries_sorted, entries-from_sorted, same_entries_map, same_map}
use Rattle.std.proofs.lemmas.Bool.{eqb-true, eqb-false}
use Rattle.name_trie.specs.ByName.{revise, revised, with_entry}
use Rattle.name_trie.specs.Flat.{flatten}
use Rattle.name_trie.specs.Least.{nonempty, each, least, least_from}
use Rattle.name_trie.proofs.Revised.{sorted_revised, get-revise}
use Rattle.name_trie.proofs.Flat.{MakesKeys, get-flatten}

module _ {K X : Type 0} (R : K → K → Ordering) (change : X → Option X) where
  pub entries-revise : (m : FinMap R X) → entries (revise change m) ≡ revised change (entries m)
  unfolding revise
  entries-revise m = entries-from_sorted R (revised change (entries m)) (sorted_revised R change (entries m) (entries_sorted m))

  -- after `change` has been applied to all values, a lookup finds what `change` makes of the old
  -- value, or nothing if there was no old value or if `change` removes this value
  pub get-each : IsAntisymmetric R → (m : FinMap R X) (k : K) → option_and_then (λ (n : FinMap R X). get n k) (each change m) ≡ option_and_then change (get m k)
  get-each anti m k =
      elim (eqb (len (revise change m)) 0) as (λ b. eqb (len (revise change m)) 0 ≡ b → option_and_then (λ (n : FinMap R X). get n k) (cond b None (Some (revise change m))) ≡ option_and_then change (get m k)) [
        | true ↦ λ none. sym (sym (get-revise anti change m k) ∙ ap (λ (n : FinMap R X). get n k) (empty_of_len (revise change m) (eqb-true _ _ none)) ∙ get-empty R k)
        | false ↦ λ _. get-revise anti change m k
      ] refl

module _ {K X : Type 0} (timer : X → ℕ) (change : X → Option X) (now : ℕ) where
  after_least : (n : ℕ) (es : List (K × X)) → now < least_from timer n es → (now < n) × AllByRecursion (λ e. now < timer e.1) es
  after_least n [] lt = (lt, tt)
  after_least n (e ∷ es) lt =
      let rest = after_least (min n (timer e.1)) es lt in (omega (arith, rest.0), (omega (arith, rest.0), rest.1))

  least_after : (n : ℕ) (es : List (K × X)) → now < n → AllByRecursion (λ e. now < timer e.1) es → now < least_from timer n es
  least_after n [] lt all = lt
  least_after n (e ∷ es) lt all = least_after (min n (timer e.1)) es (omega (arith, lt, all.0)) all.1

  module _ (idle : (x : X) → now < timer x → change x ≡ Some x) where
    revised_idle : (es : List (K × X)) → AllByRecursion (λ e. now < timer e.1) es → revised change es ≡ es
    revised_idle [] all = refl
    revised_idle (e ∷ es) all = (λ i. with_entry e.0 (idle e.1 all.0 i) (revised_idle es all.1 i))

    pub idle_each : {R : K → K → Ordering} (m : FinMap R X) → now < least timer (entries m) → each change m ≡ Some m
    idle_each {R = R} m lt =
        let all = all_of (entries m) lt in
        let same : revise change m ≡ m = same_entries_map _ _ (entries-revise R change m ∙ revised_idle (entries m) all) in
        ap nonempty same ∙ some_of (len m) (len-entries m) (entries m) refl lt
      where
        all_of : (es : List (K × X)) → now < least timer es → AllByRecursion (λ e. now < timer e.1) es
        all_of [] lt = tt
        all_of (e ∷ es) lt = after_least (timer e.1) es lt

        some_of : (n : ℕ) → n ≡ length (entries m) → (es : List (K × X)) → entries m ≡ es → now < least timer es → cond (eqb n 0) None (Some m) ≡ Some m
        some_of n e [] is lt = absurd (omega (arith, lt))
        some_of n e (x ∷ es) is lt =
            let more : n ≡ suc (length es) = e ∙ ap length is in
            elim (eqb n 0) as (λ b. eqb n 0 ≡ b → cond b None (Some m) ≡ Some m) [ true ↦ λ zero. absurd (omega (arith, more, eqb-true n 0 zero)) | false ↦ λ _. refl ] refl

  module _ (later : (x y : X) → change x ≡ Some y → now < timer y) where
    revised_later : (es : List (K × X)) → AllByRecursion (λ e. now < timer e.1) (revised change es)
    revised_later [] = tt
    revised_later (e ∷ es) =
        elim (change e.1) as (λ o. change e.1 ≡ o → AllByRecursion (λ e. now < timer e.1) (with_entry e.0 o (revised change es))) [ None ↦ λ _. revised_later es | (Some y) ↦ λ is. (later e.1 y is, revised_later es) ] refl

    pub later_each : {R : K → K → Ordering} (m w : FinMap R X) → each change m ≡ Some w → now < least timer (entries w)
    later_each {R = R} m w is =
        elim (eqb (len (revise change m)) 0) as (λ b. eqb (len (revise change m)) 0 ≡ b → cond b None (Some (revise change m)) ≡ Some w → now < least timer (entries w)) [
          | true ↦ λ _ is. absurd cc
          | false ↦ λ some is.
              let one : revise change m ≡ w = some_same _ _ is in
              let rows : entries w ≡ revised change (entries m) = ap entries (sym one) ∙ entries-revise R change m in
              not_none (entries w) (subst (AllByRecursion (λ e. now < timer e.1)) (sym rows) (revised_later (entries m)))
              (λ zero. eqb-false _ _ some (ap len one ∙ len-entries w ∙ zero))
        ] refl is
      where
        some_same : (x y : FinMap R X) → Some x ≡ Some y → x ≡ y
        some_same x y e = cc

        not_none : (es : List (K × X)) → AllByRecursion (λ e. now < timer e.1) es → (length es ≡ 0 → ⊥) → now < least timer es
        not_none [] all some = absurd (some refl)
        not_none (e ∷ es) all some = least_after (timer e.1) es all.0 all.1

-- changing each value in each row, and then flattening the rows, is the same as changing each value
-- of the flattened map
module _ {N F K X : Type 0} {R : N → N → Ordering} {S : F → F → Ordering} {Q : K → K → Ordering} (key : N → F → K) (name : K → N) (rest : K → F) (makes : MakesKeys R S Q key name rest) where
  pub flatten-revise : IsAntisymmetric R → IsAntisymmetric S → IsTotalOrder Q → IsAntisymmetric Q → (change : X → Option X) (t : FinMap R (FinMap S X))
      → flatten Q key (revise (each change) t) ≡ revise change (flatten Q key t)
  flatten-revise r s total q change t = same_map total q _ _ (λ k.
      get-flatten key name rest makes r (revise (each change) t) k ∙ ap (option_and_then (λ (m : FinMap S X). get m (rest k))) (get-revise r (each change) t (name k))
      ∙ at (rest k) (get t (name k))
      ∙ sym (get-revise q change (flatten Q key t) k ∙ ap (option_and_then change) (get-flatten key name rest makes r t k)))
    where
      at : (f : F) (o : Option (FinMap S X)) → option_and_then (λ (m : FinMap S X). get m f) (option_and_then (each change) o) ≡ option_and_then change (option_and_then (λ (m : FinMap S X). get m f) o)
      at f None = refl
      at f (Some m) = get-each S change s m f
