use Rattle.std.proofs.Common.{ℕ, ◌<◌, ◌≤◌, get_or}
use Rattle.slab.specs.Slab.{get}
use Rattle.content_store.specs.Rows.{Placed, shown, held_at}
use Rattle.content_store.specs.Blocks.{fresh_until}
use Rattle.content_store.proofs.blocks.block_of.Given as goal

abbrev pub invariant-loop-at : goal.invariant-loop-at
invariant-loop-at l =
    (k : ℕ) (d : Placed) → l.fn.start ≤ k → k < l.at → fresh_until (held_at (get_or (shown (get l.entries) l.order) k d)) ≤ l.until
