-- Which names a pattern matches, and what its groups capture.
use Rattle.std.specs.Prelude.{◌≡◌, ℕ, ◌<◌, ◌≤◌, ◌⊎◌, List, [], ◌∷◌, length, take, drop, map, sum, Option, Some, None, ⊤}
use Rattle.std.specs.List.{AllByRecursion}
use Rattle.ndn_tlv.specs.Element.{Field}
use Rattle.ndn_names.specs.Order.{DiffersBelow}
use Rattle.name_patterns.specs.Pattern.{PlainTest, Anything, OneOf, NoneOf, PlainAtom, PlainPattern}

-- the component is in the list
abbrev pub IsAmong : Field → List Field → Type 0
IsAmong c [] = ⊥
IsAmong c (other ∷ others) = (other ≡ c) ⊎ IsAmong c others

-- the component passes the test
abbrev pub Passes : PlainTest → Field → Type 0
Passes Anything c = ⊤
Passes (OneOf cs) c = IsAmong c cs
Passes (NoneOf cs) c = IsAmong c cs → ⊥

abbrev pub IsAtMost : ℕ → Option ℕ → Type 0
IsAtMost count None = ⊤
IsAtMost count (Some most) = count ≤ most

-- A split assigns a count of components to each atom, in order. The count of an atom is within the
-- atom's bounds, and that many components at the front pass the atom's test. The later atoms split
-- the remaining components. No component remains after the last atom.
abbrev pub IsSplit : List PlainAtom → List Field → List ℕ → Type 0
IsSplit [] cs counts = (cs ≡ []) × (counts ≡ [])
IsSplit (atom ∷ atoms) cs [] = ⊥
IsSplit (atom ∷ atoms) cs (count ∷ counts) =
    (atom.bounds.least ≤ count) × IsAtMost count atom.bounds.most × (count ≤ length cs)
    × AllByRecursion (Passes atom.test) (take count cs) × IsSplit atoms (drop count cs) counts

-- the atoms have no split of these components
abbrev pub HasNoSplit : List PlainAtom → List Field → Type 0
HasNoSplit atoms cs = (counts : List ℕ) → IsSplit atoms cs counts → ⊥

-- The split whose list of counts is the greatest in lexicographic order.
pub record IsGreatestSplit (atoms : List PlainAtom) (cs : List Field)
    (counts : List ℕ) : Type 0 where
  pub split : IsSplit atoms cs counts
  pub greatest : (other : List ℕ) → IsSplit atoms cs other → (other ≡ counts)
      ⊎ DiffersBelow ◌<◌ other counts

-- the positions in a name at which a group begins and ends, given the counts of the atoms
abbrev pub group_places : List ℕ → ℕ × ℕ → ℕ × ℕ
group_places counts group = (sum (take group.0 counts), sum (take group.1 counts))

-- the positions of all groups; group 0 is the whole name
abbrev pub places_of : PlainPattern → List Field → List ℕ → List (ℕ × ℕ)
places_of pattern cs counts = (0, length cs) ∷ map (group_places counts) pattern.groups

-- the pattern matches the name with these components, and the pattern's groups are at these
-- positions
abbrev pub Match : PlainPattern → List Field → List (ℕ × ℕ) → Type 0
Match pattern cs places =
    (counts : List ℕ) × IsGreatestSplit pattern.atoms cs counts
    × (places ≡ places_of pattern cs counts)
