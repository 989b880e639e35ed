-- A list of slab indexes (indexes of rows in a `Slab`) that is divided into blocks, for the
-- contracts of private functions.
use Rattle.std.specs.Prelude.{◌≡◌, ℕ, ◌+◌, ◌<◌, ◌≤◌, List, [], ◌∷◌, ◌++◌, length, slice_index_or}
use Rattle.content_store.specs.declared.places.Block.{Block}

-- the slab indexes of all blocks, one block after another
unfoldable pub flat : List Block → List ℕ
flat [] = []
flat (b ∷ bs) = b.items.items ++ flat bs

-- the first block starts at position `n`, and each later block starts at the position where the
-- previous block ends
unfoldable pub AreLaid : ℕ → List Block → Type 0
AreLaid n [] = Unit {0}
AreLaid n (b ∷ bs) = (b.start ≡ n) × AreLaid (n + length b.items.items) bs

pub record IsLaid (blocks : List Block) : Type 0 where
  pub laid : AreLaid 0 blocks
  pub short : length (flat blocks) ≤ 131072

-- The block with index i contains position `at` or, if `at` is the end of the list, ends at `at`. A
-- slab index that is inserted at position `at` goes into the block with index i.
pub record IsIn (blocks : List Block) (at i : ℕ) : Type 0 where
  pub there : i < length blocks
  pub begins : (d : Block) → (slice_index_or blocks i d).start ≤ at
  pub ends : (d : Block) → let b = slice_index_or blocks i d in at ≤ b.start + length b.items.items
  pub inside : at < length (flat blocks)
      → (d : Block) → let b = slice_index_or blocks i d in at < b.start + length b.items.items
