use Rattle.std.proofs.Common.{◌≡◌, ◌-◌, take, fold}
use Rattle.std.specs.Prelude.{map}
use Rattle.slab.specs.Slab.{get}
use Rattle.name_trie.specs.Trie.{rows, below}
use Rattle.name_trie.proofs.see.+see_below.Given as goal

abbrev pub decreases-see_below : goal.decreases-see_below
decreases-see_below g l = l.depth

abbrev pub invariant-loop-row : goal.invariant-loop-row
invariant-loop-row g l =
    l.see ≡ fold g.S.See.seen l.initial.see (map (λ r. r.1) (below (rows (get l.nodes) (l.depth - 1)) (take l.row-index l.row-items)))
