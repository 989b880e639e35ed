-- Patterns of names as plain data.
use Rattle.std.specs.Prelude.{ℕ, ◌≤◌, List, length, Option, Some, None}
use Rattle.std.specs.List.{AllByRecursion}
use Rattle.ndn_tlv.specs.Element.{Field}

-- The test of a component: any component passes, or only those in the list, or only those not in
-- the list.
pub data PlainTest : Type 0 where
  Anything : PlainTest
  OneOf : List Field → PlainTest
  NoneOf : List Field → PlainTest

-- How many components an atom matches: a least number, and a greatest number that may be absent.
pub record Bounds : Type 0 where
  pub least : ℕ
  pub most : Option ℕ

abbrev pub once : Bounds
once = record { least = 1; most = Some 1 }

abbrev pub any_number : Bounds
any_number = record { least = 0; most = None }

-- An atom of a pattern: a test, and how many consecutive components must pass this test.
pub record PlainAtom : Type 0 where
  pub test : PlainTest
  pub bounds : Bounds

-- the atom that matches any number of any components
abbrev pub anything : PlainAtom
anything = record { test = Anything; bounds = any_number }

-- A pattern: its atoms in order, including implied atoms, and its groups. A group is a pair: the
-- number of atoms before its first atom, and the number of atoms before its end.
pub record PlainPattern : Type 0 where
  pub atoms : List PlainAtom
  pub groups : List (ℕ × ℕ)

-- two positions in a list of length `len`; the first position is not after the second
abbrev pub LiesIn : ℕ → ℕ × ℕ → Type 0
LiesIn len places = (places.0 ≤ places.1) × (places.1 ≤ len)

-- The limits of the patterns that the reader returns.
pub record IsWithinLimits (pattern : PlainPattern) : Type 0 where
  pub few_atoms : length pattern.atoms ≤ 34
  pub few_groups : length pattern.groups ≤ 9
  pub groups : AllByRecursion (LiesIn (length pattern.atoms)) pattern.groups
