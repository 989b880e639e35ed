-- The search for the greatest split.
use Rattle.std.specs.Prelude.{◌≡◌, ◌≤◌, ◌<◌, ◌^◌, slice_get, IsSomeAnd, take, sum, ℕ, zero, suc, List, [], ◌∷◌, ◌++◌, length, drop, Option, Some, None, option_map, option_and_then, is_some, Bool, true, false, not, nat_lt, min, ◌==◌, ◌&&◌, bytes_eq, if◌then◌else◌}
use Rattle.std.specs.Int.{bit_at}
use Rattle.std.specs.List.{list_any, prefix_len}
use Rattle.ndn_tlv.specs.Element.{Field}
use Rattle.name_patterns.specs.declared.search.Row.{Row}
use Rattle.name_patterns.specs.Pattern.{PlainTest, Anything, OneOf, NoneOf, PlainAtom}

abbrev pub is_among : Field → List Field → Bool
is_among c cs = list_any (λ other. (other.0 == c.0) && bytes_eq other.1 c.1) cs

abbrev pub passes : PlainTest → Field → Bool
passes Anything c = true
passes (OneOf cs) c = is_among c cs
passes (NoneOf cs) c = not (is_among c cs)

abbrev pub at_most : Option ℕ → ℕ → ℕ
at_most None n = n
at_most (Some most) n = min most n

-- the number of components before the first component that fails the test, or the number of all
-- components if all pass the test
abbrev pub run_of : PlainTest → List Field → ℕ
run_of test cs = prefix_len (passes test) cs

-- `greatest can_take least most` is the greatest `n` from `least` to `most` for which `can_take n`
-- is true, or `None` if there is no such `n`
unfoldable pub greatest : (ℕ → Bool) → ℕ → ℕ → Option ℕ
greatest can_take least zero = if (least == 0) && can_take 0 then Some 0 else None
greatest can_take least (suc n) =
    if nat_lt (suc n) least then None else (
    if can_take (suc n) then Some (suc n) else greatest can_take least n)

-- The count of the first atom in the greatest split. This is the greatest `count` within the atom's
-- bounds with two properties: the first `count` components pass the atom's test, and the other
-- atoms have a split of the remaining components. Without atoms, the count is 0 if there are no
-- components. The result is `None` if there is no split.
unfoldable pub first_count : List PlainAtom → List Field → Option ℕ
first_count [] [] = Some 0
first_count [] (c ∷ cs) = None
first_count (atom ∷ atoms) cs =
    greatest (λ count. is_some (first_count atoms (drop count cs))) atom.bounds.least
    (at_most atom.bounds.most (run_of atom.test cs))

-- the counts of all atoms in the greatest split of the components, or `None` if there is no split
unfoldable pub greedy : List PlainAtom → List Field → Option (List ℕ)
greedy [] cs = option_map (λ count. []) (first_count [] cs)
greedy (atom ∷ atoms) cs =
    option_and_then (λ count. option_map (λ counts. count ∷ counts) (greedy atoms (drop count cs)))
    (first_count (atom ∷ atoms) cs)

-- whether a position is in a set, which is stored as the bits of a number
abbrev pub has_place : ℕ → ℕ → Bool
has_place places place = bit_at places place == 1

abbrev pub passes_there : PlainTest → Option Field → Bool
passes_there test None = false
passes_there test (Some c) = passes test c

-- `places` are the positions of the components that pass the test
abbrev pub ArePassed : PlainTest → List Field → ℕ → Type 0
ArePassed test cs places =
    (place : ℕ) → has_place places place ≡ passes_there test (slice_get cs place)

-- of the positions up to and including the end of `cs`, `places` has exactly those from which the
-- atoms have a split of the remaining components
abbrev pub AreSplit : List PlainAtom → List Field → ℕ → Type 0
AreSplit atoms cs places =
    (place : ℕ) → place ≤ length cs
    → has_place places place ≡ is_some (first_count atoms (drop place cs))

-- `row` is the row of the first atom, or of the end if there are no atoms. `row.split` are the
-- positions from which the atoms have a split. `row.passed` are the positions, all below 64, of the
-- components that pass the first atom's test.
abbrev pub IsRow : List PlainAtom → List Field → Row → Type 0
IsRow [] cs row = AreSplit [] cs row.split
IsRow (atom ∷ atoms) cs row = ArePassed atom.test cs row.passed × (row.passed < 2 ^ 64)
    × AreSplit (atom ∷ atoms) cs row.split

-- `rows` has a valid row for each atom from index `first` on, and for the end
abbrev pub IsTable : ℕ → List PlainAtom → List Field → List Row → Type 0
IsTable first atoms cs rows =
    (i : ℕ) → first ≤ i → i ≤ length atoms → IsSomeAnd (slice_get rows i) (IsRow (drop i atoms) cs)

-- `starts` are the positions before each atom and after the last atom, given the counts of the
-- atoms
abbrev pub AreStarts : List PlainAtom → List ℕ → List ℕ → Type 0
AreStarts atoms counts starts =
    (i : ℕ) → i ≤ length atoms → slice_get starts i ≡ Some (sum (take i counts))

-- the counts `done` followed by the counts in `later`, or `None` if `later` is `None`
abbrev pub after_counts : List ℕ → Option (List ℕ) → Option (List ℕ)
after_counts done later = option_map (λ counts. done ++ counts) later

-- The counts `done` are those of the first `i` atoms in the greatest split, if there is a split.
-- The first `i` atoms match the first `place` components. `starts` has the positions before each of
-- the first `i` atoms, and the position after the last of them.
pub record IsTaken (atoms : List PlainAtom) (cs : List Field) (i place : ℕ)
    (starts done : List ℕ) : Type 0 where
  pub len : length done ≡ i
  pub end : sum done ≡ place
  pub fits : place ≤ length cs
  pub rest : greedy atoms cs ≡ after_counts done (greedy (drop i atoms) (drop place cs))
  pub starts_are : (k : ℕ) → k ≤ i → slice_get starts k ≡ Some (sum (take k done))

abbrev pub AreTaken : List PlainAtom → List Field → ℕ → ℕ → List ℕ → Type 0
AreTaken atoms cs i place starts = (done : List ℕ) × IsTaken atoms cs i place starts done
