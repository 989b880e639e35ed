-- The rows of a guard, for the contracts of private functions.
use Rattle.std.specs.Prelude.{◌≡◌, ℕ, ◌<◌, List, None, Some, length, take, slice_index_or}
use Rattle.std.specs.List.{AllByRecursion}
use Rattle.std.specs.FinMap.{find}
use Rattle.replay_guard.specs.Freshness.{Signer}
use Rattle.replay_guard.specs.Guard.{Latest, signer_cmp}

abbrev pub Row : Type 0
Row = Signer × Latest

-- the row at index `at` is the first row of this signer
pub record IsFirst (signer : Signer) (rows : List Row) (at : ℕ) : Type 0 where
  pub within : at < length rows
  pub none_before : find signer_cmp signer (take at rows) ≡ None
  pub signer_is : (row : Row) → row ≡ slice_index_or rows at row → row.0 ≡ signer

-- `HasAll rows others` states that, for each row of `others`, `rows` has a row of the same signer,
-- and the first row of this signer in `rows` has the same time and number
abbrev pub HasAll : List Row → List Row → Type 0
HasAll rows = AllByRecursion (λ other. find signer_cmp other.0 rows ≡ Some other.1)
