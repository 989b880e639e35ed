-- The LRU order of the rows, as a map from the serial number of each row to the row's slab index.
-- These definitions are for the contracts of private functions.
use Rattle.std.specs.Prelude.{◌≡◌, ◌⊎◌, ℕ, ◌<◌, ◌≤◌, List, [], ◌∷◌, ◌++◌, length, take, drop, Option, None, Some, nat_eq, slice_index_or, insert}
use Rattle.std.specs.Option.{option_map}
use Rattle.std.specs.List.{All, AllByRecursion, IsDistinct}
use Rattle.std.specs.Map.{keys_of, lookup, remove_entry, set_value}
use Rattle.lru.specs.LruCache.{LruCache, lru_cache, promoted, put_entries, displaced}
use Rattle.content_store.specs.declared.rows.Row.{Row}
use Rattle.ndn_tlv.specs.Element.{Field}
use Rattle.ndn_names.specs.Name.{IsPrefix}
use Rattle.content_store.specs.Store.{CachedData, IsCachedData, TakesLeast, full_name_of}
use Rattle.content_store.specs.declared.store.TheConstants.{MAX_CAPACITY}
use Rattle.content_store.specs.Rows.{Placed, IsValidRows}

abbrev pub with_held : Option CachedData → List CachedData → List CachedData
with_held None rest = rest
with_held (Some c) rest = c ∷ rest

-- for each pair of a serial number and a slab index, in order, the Data that `g` returns for the
-- slab index; a pair for which `g` returns None is left out
unfoldable pub cached_by : (ℕ → Option CachedData) → List (ℕ × ℕ) → List CachedData
cached_by g [] = []
cached_by g (u ∷ us) = with_held (g u.1) (cached_by g us)

abbrev pub held_in : List Placed → ℕ → Option CachedData
held_in rows p = option_map (λ row. row.entry) (lookup (nat_eq p) rows)

abbrev pub cached_in : List Placed → List (ℕ × ℕ) → List CachedData
cached_in rows used = cached_by (held_in rows) used

-- `u` is a pair of a serial number and a slab index, and the row at this slab index has this serial
-- number.
pub record LeadsTo (rows : List Placed) (u : ℕ × ℕ) : Type 0 where
  pub row : Row
  pub there : lookup (nat_eq u.1) rows ≡ Some row
  pub its : row.serial ≡ u.0

pub record Sound (rows : List Placed) (used : List (ℕ × ℕ)) (next : ℕ) : Type 0 where
  pub valid : IsValidRows rows
  pub distinct : IsDistinct nat_eq (keys_of used)
  pub there : AllByRecursion (LeadsTo rows) used
  pub back : AllByRecursion (λ r. lookup (nat_eq r.1.serial) used ≡ Some r.0) rows
  pub below : AllByRecursion (λ u. u.0 < next) used
  pub long : length rows ≡ length used
  pub each_data : AllByRecursion (λ r. IsCachedData r.1.entry) rows

-- The rows and the LRU cache of a store are consistent (`Sound`). The LRU cache has the capacity
-- `capacity`, from 1 to 65,536, and at most `capacity` entries.
pub record IsHeld (rows : List Placed) (used : LruCache ℕ ℕ) (capacity next : ℕ) : Type 0 where
  pub sound : Sound rows used.entries next
  pub cap : used.cap ≡ capacity
  pub within : length used.entries ≤ capacity
  pub low : 1 ≤ capacity
  pub high : capacity ≤ MAX_CAPACITY

-- if the row at position `at` becomes the most recently used, the LRU cache `before` becomes
-- `after`
abbrev pub UsesAt : List Placed → LruCache ℕ ℕ → ℕ → LruCache ℕ ℕ → Type 0
UsesAt rows before at after =
    (d : Placed) → let r = slice_index_or rows at d in after
    ≡ lru_cache (promoted (nat_eq r.1.serial) before.entries) before.cap

-- the rows without the evicted row, or all rows if no row is evicted
abbrev pub evicted : Option (ℕ × ℕ) → List Placed → List Placed
evicted None rows = rows
evicted (Some e) rows = remove_entry (nat_eq e.1) rows

-- A row is inserted at position `at` under a new slab index, as the most recently used. The row
-- that the LRU cache evicts, if any, is removed.
pub record PutsNew (rows : List Placed) (used : LruCache ℕ ℕ) (at : ℕ) (row : Row)
    (rows' : List Placed) (used' : LruCache ℕ ℕ) : Type 0 where
  pub place : ℕ
  pub absent : lookup (nat_eq place) rows ≡ None
  pub more : IsValidRows (insert rows at (place, row))
  pub uses : used' ≡ lru_cache (put_entries nat_eq used row.serial place) used.cap
  pub rows_are : rows'
      ≡ evicted (displaced nat_eq used row.serial place) (insert rows at (place, row))
  pub valid : IsValidRows rows'

-- The Data `entry` replaces the Data at position `at`, and the row at this position becomes the
-- most recently used.
pub record Renews (rows : List Placed) (used : LruCache ℕ ℕ) (at : ℕ) (entry : CachedData)
    (rows' : List Placed) (used' : LruCache ℕ ℕ) : Type 0 where
  pub rows_are : (d : Placed) → let r = slice_index_or rows at d in rows'
      ≡ set_value (nat_eq r.0) rows (record { entry = entry; serial = r.1.serial })
  pub uses : UsesAt rows used at used'
  pub valid : IsValidRows rows'

-- the list without the items at the positions from `start` to `end - 1`
abbrev pub without_range : {X : Type 0} → ℕ → ℕ → List X → List X
without_range start end xs = take start xs ++ drop end xs

-- Of the Data whose full names begin with `name`, at most `most` are removed, those with the least
-- full names first. If fewer than `most` Data are removed, no Data remains whose full name begins
-- with `name`.
pub record TakesUnder (name : List Field) (most : ℕ) (rows : List Placed) (used : LruCache ℕ ℕ)
    (rows' : List Placed) (used' : LruCache ℕ ℕ) (next gone : ℕ) : Type 0 where
  pub sound : Sound rows' used'.entries next
  pub cap : used'.cap ≡ used.cap
  pub fewer : length used'.entries ≤ length used.entries
  pub taken : TakesLeast name (cached_in rows used.entries) (cached_in rows' used'.entries) gone
  pub at_most : gone ≤ most
  pub ended : (gone ≡ most)
      ⊎ All (λ d. ¬ IsPrefix name (full_name_of d)) (cached_in rows' used'.entries)
