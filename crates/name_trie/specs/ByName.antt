-- Finite maps from names to values, and lookups in tables.
use Rattle.std.specs.Prelude.{◌≡◌, ℕ, ◌<◌, ◌≤◌, zero, suc, List, [], ◌∷◌, Option, None, Some, IsSome, length, take}
use Rattle.std.specs.declared.cmp.Ordering.{Ordering}
use Rattle.std.specs.Option.{option_or}
use Rattle.std.specs.FinMap.{FinMap, entries, from_sorted, get, insert, remove}
use Rattle.ndn_tlv.specs.Element.{Field}
use Rattle.ndn_names.specs.Order.{name_cmp}

-- the entries `es`, with the entry (k, x) in front if the optional value is Some x
abbrev pub with_entry : {K X : Type 0} → K → Option X → List (K × X) → List (K × X)
with_entry k None es = es
with_entry k (Some x) es = (k, x) ∷ es

-- the entries with `change` applied to each value; an entry for which `change` gives None is
-- removed
abbrev pub revised : {K X Y : Type 0} → (X → Option Y) → List (K × X) → List (K × Y)
revised change [] = []
revised change (e ∷ es) = with_entry e.0 (change e.1) (revised change es)

-- the map with `change` applied to each value; an entry for which `change` gives None is removed
unfoldable pub revise : {K X Y : Type 0} {R : K → K → Ordering} → (X → Option Y) → FinMap R X
    → FinMap R Y
revise change m = from_sorted (revised change (entries m))

-- maps from names to values, with the names in canonical order
abbrev pub ByName : Type 0 → Type 0
ByName X = FinMap name_cmp X

-- the value of the longest prefix of `name` that has a value, among the prefixes of at most n
-- components; None if no prefix of at most n components has a value
abbrev pub longest_within : {X : Type 0} → ByName X → List Field → ℕ → Option X
longest_within table name zero = get table []
longest_within table name (suc n) =
    option_or (get table (take (suc n) name)) (longest_within table name n)

-- the value of the longest prefix of `name` that has a value, or None if no prefix has a value
abbrev pub longest : {X : Type 0} → ByName X → List Field → Option X
longest table name = longest_within table name (length name)

-- the prefix that consists of the first n components is the longest prefix of the name that has a
-- value
abbrev pub IsLongest : {X : Type 0} → ByName X → List Field → ℕ → Type 0
IsLongest table name n =
    (n ≤ length name) × IsSome (get table (take n name))
    × ((m : ℕ) → n < m → m ≤ length name → get table (take m name) ≡ None)

-- `table` with the value x for `name` if the optional value is Some x, and `table` without `name`
-- if the optional value is None
abbrev pub with_value : {X : Type 0} → ByName X → List Field → Option X → ByName X
with_value table name None = remove table name
with_value table name (Some x) = insert table name x
