-- Maps that are removed when they have no entry, and the least deadline of the values in a list.
use Rattle.std.specs.Prelude.{ℕ, List, [], ◌∷◌, Option, None, Some, min, nat_eq, if◌then◌else◌}
use Rattle.std.specs.declared.cmp.Ordering.{Ordering}
use Rattle.std.specs.FinMap.{FinMap, len}
use Rattle.name_trie.specs.ByName.{revise}

abbrev pub nonempty : {K X : Type 0} {R : K → K → Ordering} → FinMap R X → Option (FinMap R X)
nonempty m = if nat_eq (len m) 0 then None else Some m

-- the map with `change` applied to each value; an entry for which `change` gives None is removed,
-- and the result is None if no entry is left
abbrev pub each : {K X : Type 0} {R : K → K → Ordering} → (X → Option X) → FinMap R X
    → Option (FinMap R X)
each change m = nonempty (revise change m)

-- the least of these numbers: n, and the deadlines of the values in the list
abbrev pub least_from : {K X : Type 0} → (X → ℕ) → ℕ → List (K × X) → ℕ
least_from timer n [] = n
least_from timer n (e ∷ es) = least_from timer (min n (timer e.1)) es

-- the least deadline of the values in the list, or 0 if the list is empty
abbrev pub least : {K X : Type 0} → (X → ℕ) → List (K × X) → ℕ
least timer [] = 0
least timer (e ∷ es) = least_from timer (timer e.1) es
