-- The sums over all values after one value changes.
use Rattle.std.proofs.Common.{◌≡◌, ℕ, ◌+◌, ◌≤◌, List, length, refl, sym, ap, ◌∙◌, arith}
use Rattle.std.specs.Prelude.{Option, None, Some}
use Rattle.std.specs.Option.{option_and_then}
use Rattle.std.specs.FinMap.{get, entries, insert}
use Rattle.ndn_tlv.specs.Element.{Field}
use Rattle.ndn_names.specs.Key.{name_cmp-total, name_cmp-antisymmetric}
use Rattle.name_trie.specs.ByName.{ByName, with_value}
use Rattle.name_trie.specs.Trie.{Heap, value, walk, table_of, Sound}
use Rattle.name_trie.specs.Changes.{Turns, SameLookups}
use Rattle.name_trie.specs.Flat.{size_of, total}
use Rattle.name_trie.specs.Timed.{size_at, HasCounts, LeavesFewer, Recounts, IsCounted}
use Rattle.name_trie.proofs.Closed.{up_of, lookup_turned, unturned, with_value_table}
use Rattle.name_trie.proofs.Flat.{total-insert, total-remove}
use Rattle.name_trie.proofs.Walks.{get-table, same_table}

module _ {V : Type 0} (size : V → ℕ) where
  abbrev sum_of : ByName V → ℕ
  sum_of t = total size (entries t)

  total_with : (t : ByName V) (q : List Field) (v : Option V) → sum_of (with_value t q v) + size_of size (get t q) ≡ sum_of t + size_of size v
  total_with t q None = total-remove name_cmp-total name_cmp-antisymmetric size t q ∙ omega arith
  total_with t q (Some x) = total-insert name_cmp-total name_cmp-antisymmetric size t q x

module _ {I V : Type 0} (counts : I → V → ℕ) where
  abbrev sums_of : ByName V → I → ℕ
  sums_of t i = total (counts i) (entries t)

  pub counted_same : (h h' : Heap V) (root root' : Option ℕ) (sum : I → ℕ) → SameLookups h root h' root' → IsCounted counts h root sum → IsCounted counts h' root' sum
  counted_same h h' root root' sum same is = λ i. is i ∙ ap (λ t. sums_of t i) (sym (same_table h h' root root' same))

  module _ (k : ℕ) (v : Option V) (h h' : Heap V) (turns : Turns k v h h') (root : Option ℕ) (sound : Sound h root) where
    -- Let the name `q` lead to the node k, and let `sum` be the sums before the value of k changes.
    -- Let `sum'` be `sum` with what the new value counts in place of what the old value counts.
    -- Then `sum'` are the sums after the change.
    pub counted_at : (q : List Field) → length q ≤ 64 → walk h root q ≡ Some k → (sum sum' : I → ℕ) → Recounts counts h h' k sum sum' → IsCounted counts h root sum → IsCounted counts h' root sum'
    counted_at q le at sum sum' recounts is = λ i.
        let table : table_of h' root ≡ with_value (table_of h root) q v = with_value_table h h' root root q v le (lookup_turned k v h h' turns root sound q at) in
        let was : get (table_of h root) q ≡ value h k = get-table h root q le ∙ ap (option_and_then (value h)) at in
        let now : size_at (counts i) h' k ≡ size_of (counts i) v = ap (size_of (counts i)) turns.here in
        let had : size_of (counts i) (get (table_of h root) q) ≡ size_at (counts i) h k = ap (size_of (counts i)) was in
        let new : sums_of (table_of h' root) i ≡ sums_of (with_value (table_of h root) q v) i = ap (λ t. sums_of t i) table in
        let changed : sums_of (with_value (table_of h root) q v) i + size_of (counts i) (get (table_of h root) q) ≡ sums_of (table_of h root) i + size_of (counts i) v = total_with (counts i) (table_of h root) q v in
        let re : sum' i + size_at (counts i) h k ≡ sum i + size_at (counts i) h' k = recounts i in
        let old : sum i ≡ sums_of (table_of h root) i = is i in
        omega (arith, now, had, new, changed, re, old)

    pub counted_turned : (f : V → Option V) → v ≡ option_and_then f (value h k) → (sum sum' : I → ℕ) → Recounts counts h h' k sum sum' → IsCounted counts h root sum → IsCounted counts h' root sum'
    counted_turned f now sum sum' recounts is =
        elim (value h k) as (λ w. value h k ≡ w → v ≡ option_and_then f w → IsCounted counts h' root sum') [
          | None ↦ λ none gone i.
              let same : sums_of (table_of h' root) i ≡ sums_of (table_of h root) i = ap (λ t. sums_of t i) (same_table h h' root root (unturned k v h h' turns root sound none gone)) in
              let was : size_at (counts i) h k ≡ 0 = ap (size_of (counts i)) none in
              let left : size_at (counts i) h' k ≡ 0 = ap (size_of (counts i)) (turns.here ∙ gone) in
              let re : sum' i + size_at (counts i) h k ≡ sum i + size_at (counts i) h' k = recounts i in
              let old : sum i ≡ sums_of (table_of h root) i = is i in
              omega (arith, same, was, left, re, old)
          | (Some x) ↦ λ some _.
              let up_k = up_of (h k) x some in
              let way = sound.reach k up_k.0 up_k.1 in
              counted_at way.0 way.1 way.2 sum sum' recounts is
        ] refl now

  -- each sum is at least what the value of a node counts
  pub has_counts : (h : Heap V) (root : Option ℕ) → Sound h root → (sum : I → ℕ) → IsCounted counts h root sum → (k : ℕ) → HasCounts counts h k sum
  has_counts h root sound sum is k = λ i.
      elim (value h k) as (λ w. value h k ≡ w → size_of (counts i) w ≤ sum i) [
        | None ↦ λ none. omega arith
        | (Some x) ↦ λ some.
            let up_k = up_of (h k) x some in
            let way = sound.reach k up_k.0 up_k.1 in
            let was : get (table_of h root) way.0 ≡ Some x = get-table h root way.0 way.1 ∙ ap (option_and_then (value h)) way.2 ∙ some in
            let had : size_of (counts i) (get (table_of h root) way.0) ≡ counts i x = ap (size_of (counts i)) was in
            let without : sums_of (with_value (table_of h root) way.0 None) i + size_of (counts i) (get (table_of h root) way.0) ≡ sums_of (table_of h root) i + 0 = total_with (counts i) (table_of h root) way.0 None in
            let old : sum i ≡ sums_of (table_of h root) i = is i in
            omega (arith, had, without, old)
      ] refl

  -- If the value of the name `q` becomes `x`, and `sum'` is `sum` with what `x` counts in place of
  -- what the old value counts, `sum'` is at most the sums of the new table.
  pub inserted : (t : ByName V) (q : List Field) (x : V) (was : Option V) → was ≡ get t q → (sum sum' : I → ℕ) → ((i : I) → sum i ≡ total (counts i) (entries t))
      → ((i : I) → sum' i + size_of (counts i) was ≡ sum i + counts i x) → (i : I) → sum' i ≤ total (counts i) (entries (insert t q x))
  inserted t q x was had sum sum' is re i =
      let new : sums_of (with_value t q (Some x)) i + size_of (counts i) (get t q) ≡ sums_of t i + size_of (counts i) (Some x) = total_with (counts i) t q (Some x) in
      let same : size_of (counts i) was ≡ size_of (counts i) (get t q) = ap (size_of (counts i)) had in
      let old : sum i ≡ sums_of t i = is i in
      let changed : sum' i + size_of (counts i) was ≡ sum i + counts i x = re i in
      omega (arith, new, same, old, changed)

  -- If `change` leaves fewer, what a changed value counts is at most what the value counted.
  pub left_fewer : (change : V → Option V) → LeavesFewer counts change → (o : Option V) (i : I) → size_of (counts i) (option_and_then change o) ≤ size_of (counts i) o
  left_fewer change fewer None i = omega arith
  left_fewer change fewer (Some v) i =
      elim (change v) as (λ w. change v ≡ w → size_of (counts i) w ≤ counts i v) [
        | None ↦ λ gone. omega arith
        | (Some w) ↦ λ is. fewer i v w is
      ] refl
