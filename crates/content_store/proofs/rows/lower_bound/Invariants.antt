use Rattle.std.proofs.Common.{◌-◌, ◌≡◌, ◌+◌, ◌<◌, ◌≤◌, ◌^◌, ℕ, length}
use Rattle.slab.specs.Slab.{get}
use Rattle.content_store.specs.Sought.{sought_name}
use Rattle.content_store.specs.Rows.{shown}
use Rattle.content_store.proofs.Shown.{LowerSoFar}
use Rattle.content_store.proofs.rows.lower_bound.Given as goal

abbrev pub invariant-loop-low : goal.invariant-loop-low
invariant-loop-low l =
    LowerSoFar (sought_name l.sought) (shown (get l.entries) l.order) l.low l.high
    × (l.high ≤ length l.order)
    × (left : ℕ) × (l.steps + left ≡ l.fn.steps + 17) × (l.fn.steps ≤ l.steps) × (l.high - l.low < 2 ^ left)

abbrev pub decreases-loop-low : goal.decreases-loop-low
decreases-loop-low l = l.high - l.low
