use Rattle.std.proofs.Common.{◌≡◌, ◌++◌, ◌-◌, take}
use Rattle.std.specs.Prelude.{map}
use Rattle.slab.specs.Slab.{get}
use Rattle.name_trie.specs.Trie.{rows, below, named}
use Rattle.name_trie.proofs.listing.+list_below.Given as goal

abbrev pub decreases-list_below : goal.decreases-list_below
decreases-list_below g l = l.depth

abbrev pub invariant-loop-row : goal.invariant-loop-row
invariant-loop-row g l =
    map (λ r. (r.0, r.1.now)) l.list.items ≡ map (λ r. (r.0, r.1.now)) l.initial.list.items
    ++ named l.front (below (rows (get l.nodes) (l.depth - 1)) (take l.row-index l.row-items))
