use Rattle.std.proofs.Common.{ℕ, ◌<◌, ◌≤◌, ◌-◌, get_or, length}
use Rattle.slab.specs.Slab.{get}
use Rattle.ndn_packets.specs.Key.{plain_key}
use Rattle.content_store.specs.Rows.{Placed, shown, held_at}
use Rattle.content_store.specs.Store.{CanServe}
use Rattle.content_store.proofs.rows.first_from.Given as goal

abbrev pub invariant-loop-at : goal.invariant-loop-at
invariant-loop-at l =
    (l.fn.start ≤ l.at)
    × ((k : ℕ) (d : Placed) → k < l.at → k < length (shown (get l.entries) l.order)
    → CanServe (plain_key l.key) l.now (held_at (get_or (shown (get l.entries) l.order) k d)) → ⊥)

abbrev pub decreases-loop-at : goal.decreases-loop-at
decreases-loop-at l = length l.order - l.at
