-- The entries of rule files, and the blocks that contain them.
use Rattle.std.specs.Prelude.{ℕ, List, [], ◌∷◌, Option, Bool, ◌==◌, if◌then◌else◌}

-- a key with its value, and whether it has a block
pub record PlainEntry : Type 0 where
  -- the number of blocks around the key
  pub depth : ℕ
  -- the line of the key, counted from 1
  pub line : ℕ
  pub key : List ℕ
  pub value : Option (List ℕ)
  pub has_block : Bool

-- an entry together with the entries of its block
abbrev pub Block : Type 0
Block = PlainEntry × List PlainEntry

-- A pair: the entries before the first entry at this depth, and the blocks at this depth. A block
-- is an entry at this depth, together with all entries after it, up to the next entry at this
-- depth, if there is one.
unfoldable pub parted : ℕ → List PlainEntry → List PlainEntry × List Block
parted depth [] = ([], [])
parted depth (entry ∷ entries) =
    if entry.depth == depth
    then ([], (entry, (parted depth entries).0) ∷ (parted depth entries).1)
    else (entry ∷ (parted depth entries).0, (parted depth entries).1)

-- the entries at this depth, each with the entries of its block
abbrev pub blocks_of : ℕ → List PlainEntry → List Block
blocks_of depth entries = (parted depth entries).1
