use Rattle.std.proofs.Common.{◌≡◌, ℕ, ◌<◌, ◌≤◌, List, get_or}
use Rattle.content_store.specs.declared.blocks.Block.{Block}
use Rattle.content_store.specs.Blocks.{Bounds, Follows}
use Rattle.content_store.specs.Rows.{Placed}
use Rattle.content_store.proofs.blocks.follow.Given as goal

abbrev pub invariant-loop-at : goal.invariant-loop-at
invariant-loop-at l =
    ((j : ℕ) (d : Block) → j < l.at → (rows rows' : List Placed) → Follows l.change rows rows' → Bounds rows (get_or l.fn.blocks.items j d) → Bounds rows' (get_or l.blocks.items j d))
    × ((j : ℕ) (d : Block) → l.at ≤ j → get_or l.blocks.items j d ≡ get_or l.fn.blocks.items j d)
