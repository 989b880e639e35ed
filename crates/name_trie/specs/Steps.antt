-- How many steps a walk along a name takes. A step is a search among the children of a node.
use Rattle.std.specs.Prelude.{◌≡◌, ◌⊎◌, ◌<◌, ◌≤◌, ℕ, List, ◌++◌, length, take, Some, IsSome}
use Rattle.std.specs.FinMap.{get}
use Rattle.ndn_tlv.specs.Element.{Field}
use Rattle.name_trie.specs.NameTable.{NameTable}

-- some name that has a value, or the name for which a call is prepared, begins with `front`
abbrev pub IsBegun : {X : Type 0} → NameTable X → List Field → Type 0
IsBegun t front =
    (rest : List Field)
    × (IsSome (get t.table (front ++ rest)) ⊎ (t.prepared ≡ Some (front ++ rest)))

-- A walk along `name` takes n steps: one step for each proper prefix of `name` with which some name
-- that has a value, or the name for which a call is prepared, begins. These prefixes are the n
-- shortest ones.
pub record TakesSteps {X : Type 0} (t : NameTable X) (name : List Field) (n : ℕ) : Type 0 where
  pub within : n ≤ length name
  pub begun : (m : ℕ) → m < n → IsBegun t (take m name)
  pub ended : n < length name → ¬ IsBegun t (take n name)
