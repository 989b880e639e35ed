-- The list of cached Data is divided into blocks. The freshness bound of a block is a moment from
-- which on no Data of the block is fresh. These definitions are for the contracts of private
-- functions.
use Rattle.std.specs.Prelude.{◌≡◌, ◌≢◌, ℕ, ◌+◌, ◌-◌, ◌^◌, ◌<◌, ◌≤◌, List, insert, length, min}
use Rattle.std.specs.Prelude.{slice_index_or}
use Rattle.std.specs.List.{All}
use Rattle.content_store.specs.Store.{CachedData}
use Rattle.content_store.specs.Rows.{Placed, held_at}
use Rattle.content_store.specs.Uses.{without_range}
use Rattle.content_store.specs.declared.blocks.Block.{Block}
use Rattle.content_store.specs.declared.blocks.Change.{Change}
use Rattle.content_store.specs.declared.blocks.Change.TheVariants.{Added, Renewed, Removed}

-- the moment until which the Data is fresh: its arrival plus its FreshnessPeriod, or 2^64 - 1 if
-- the sum is greater
abbrev pub fresh_until : CachedData → ℕ
fresh_until c = min (c.arrival + c.freshness) (2 ^ 64 - 1)

-- the block's `until` is a freshness bound: from the moment `until` on, no Data of the block is
-- fresh
abbrev pub Bounds : List Placed → Block → Type 0
Bounds rows b =
    (k : ℕ) (d : Placed) → b.start ≤ k → k < b.end → k < length rows
    → fresh_until (held_at (slice_index_or rows k d)) ≤ b.until

abbrev pub AreBounds : List Placed → List Block → Type 0
AreBounds rows blocks = All (Bounds rows) blocks

-- `rows'` is the list `rows` after the change. A change that adds or renews a row contains a moment
-- `until`: from this moment on, the row is not fresh.
abbrev pub Follows : Change → List Placed → List Placed → Type 0
Follows (Added at until) rows rows' =
    (row : Placed) × (at ≤ length rows) × (fresh_until (held_at row) ≤ until)
    × (rows' ≡ insert rows at row)
Follows (Renewed at until) rows rows' =
    (length rows' ≡ length rows)
    × ((d : Placed) → fresh_until (held_at (slice_index_or rows' at d)) ≤ until)
    × ((k : ℕ) (d : Placed) → k ≢ at → k < length rows
    → slice_index_or rows' k d ≡ slice_index_or rows k d)
Follows (Removed start end) rows rows' =
    (start ≤ end) × (end ≤ length rows) × (rows' ≡ without_range start end rows)

-- for the list `rows`: if the `until` of each block in `blocks` is a freshness bound, the `until`
-- of each block in `blocks'` is a freshness bound too
abbrev pub Keeps : List Placed → List Block → List Block → Type 0
Keeps rows blocks blocks' = AreBounds rows blocks → AreBounds rows blocks'

-- if the `until` of each block in `blocks` is a freshness bound before `change`, the `until` of
-- each block in `blocks'` is a freshness bound after `change`, for the new list `rows'`
abbrev pub Carries : Change → List Placed → List Block → List Block → Type 0
Carries change rows' blocks blocks' =
    (rows : List Placed) → Follows change rows rows' → AreBounds rows blocks
    → AreBounds rows' blocks'
