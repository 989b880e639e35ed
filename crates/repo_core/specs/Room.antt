-- Sorted rows and their spare capacity, for the contracts of private functions.
use Rattle.std.specs.Prelude.{◌≡◌, ◌≢◌, ℕ, ◌<◌, ◌≤◌, List, length, take, slice_index_or, refl}
use Rattle.std.specs.Coded.{Coded, code_by, coded×, coded_list, coded_ℕ}
use Rattle.std.specs.declared.cmp.Ordering.{Ordering}
use Rattle.std.specs.declared.cmp.Ordering.TheVariants.{Greater}
use Rattle.std.specs.FinMap as map
use Rattle.std.specs.List.{AllByRecursion}
use Rattle.ndn_names.specs.Key.{name_code}
use Rattle.repo_core.specs.declared.want_names.Names.{Names}
use Rattle.repo_core.specs.Objects.{Objects}

-- objects, and the number of objects that can be added without allocating memory
pub record Shelf : Type 0 where
  pub table : Objects
  pub room : ℕ

abbrev pub shelf_code : Coded Shelf
shelf_code =
    code_by (Objects × ℕ)
    (coded× (map.code name_code (coded_list coded_ℕ)) coded_ℕ)
    (λ s. (s.table, s.room)) (λ p. record { table = p.0; room = p.1 }) (λ _. refl)

-- the rows before index `at` have keys less than `key`, and the rows from index `at` on have keys
-- greater than or equal to `key`
pub record IsPlace {K X : Type 0} (R : K → K → Ordering) (key : K) (rows : List (K × X))
    (at : ℕ) : Type 0 where
  pub within : at ≤ length rows
  pub before : AllByRecursion (λ row. R key row.0 ≡ Greater) (take at rows)
  pub after : (k : ℕ) (row : K × X) → at ≤ k → k < length rows
      → R key (slice_index_or rows k row).0 ≢ Greater

-- the row at index `at` has this key
abbrev pub HasAt : {K X : Type 0} → K → List (K × X) → ℕ → Type 0
HasAt {K} {X} key rows at =
    (at < length rows)
    × ((row : K × X) → row ≡ slice_index_or rows at row → row.0 ≡ key)

-- the names `fetched` and `key` are equal
abbrev pub AreAlike : Names → Type 0
AreAlike n = n.fetched ≡ n.key
