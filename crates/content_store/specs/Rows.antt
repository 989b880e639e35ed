-- The list of cached Data in order of their full names, for the contracts of private functions.
use Rattle.std.specs.Prelude.{◌≡◌, ℕ, ◌<◌, ◌≤◌, List, [], ◌∷◌, length, Option, None, Some, IsSome, slice_index_or, nat_eq}
use Rattle.std.specs.List.{AllByRecursion, IsDistinct}
use Rattle.std.specs.Map.{keys_of}
use Rattle.std.specs.declared.cmp.Ordering.TheVariants.{Less}
use Rattle.ndn_tlv.specs.Element.{Field}
use Rattle.ndn_names.specs.Order.{name_cmp}
use Rattle.content_store.specs.Store.{CachedData, full_name_of}
use Rattle.content_store.specs.declared.rows.Row.{Row}

-- a slab index and the row at this index
abbrev pub Placed : Type 0
Placed = ℕ × Row

abbrev pub name_at : Placed → List Field
name_at r = full_name_of r.1.entry

abbrev pub held_at : Placed → CachedData
held_at r = r.1.entry

abbrev pub with_slot : ℕ → Option Row → List Placed → List Placed
with_slot p None rest = rest
with_slot p (Some row) rest = (p, row) ∷ rest

-- the rows at the given slab indexes, each with its slab index; a slab index without a row is left
-- out
unfoldable pub shown : (ℕ → Option Row) → List ℕ → List Placed
shown h [] = []
shown h (p ∷ ps) = with_slot p (h p) (shown h ps)

-- the full names of the rows are in strictly ascending order
abbrev pub Rising : List Placed → Type 0
Rising rows =
    (i j : ℕ) (d : Placed) → i < j → j < length rows
    → name_cmp (name_at (slice_index_or rows i d)) (name_at (slice_index_or rows j d)) ≡ Less

pub record IsRows (h : ℕ → Option Row) (order : List ℕ) : Type 0 where
  pub there : AllByRecursion (λ p. IsSome (h p)) order
  pub rising : Rising (shown h order)

-- Each row before position `at` has a full name less than `name`, and no row from position `at` on
-- has a full name less than `name`.
pub record IsLower (name : List Field) (rows : List Placed) (at : ℕ) : Type 0 where
  pub within : at ≤ length rows
  pub below : (k : ℕ) (d : Placed) → k < at
      → name_cmp (name_at (slice_index_or rows k d)) name ≡ Less
  pub above : (k : ℕ) (d : Placed) → at ≤ k → k < length rows
      → name_cmp (name_at (slice_index_or rows k d)) name ≡ Less → ⊥

-- `Some at` means that `at` is the position of the first row whose Data has the property `P`. None
-- means that there is no such row.
abbrev pub FirstWith : (CachedData → Type 0) → List Placed → Option ℕ → Type 0
FirstWith P rows None =
    (k : ℕ) (d : Placed) → k < length rows → ¬ P (held_at (slice_index_or rows k d))
FirstWith P rows (Some at) =
    (at < length rows) × ((d : Placed) → P (held_at (slice_index_or rows at d)))
    × ((k : ℕ) (d : Placed) → k < at → ¬ P (held_at (slice_index_or rows k d)))

-- The full names of the rows are in strictly ascending order, and each slab index occurs once.
pub record IsValidRows (rows : List Placed) : Type 0 where
  pub rising : Rising rows
  pub distinct : IsDistinct nat_eq (keys_of rows)
