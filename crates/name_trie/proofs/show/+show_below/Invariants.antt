use Rattle.std.proofs.Common.{◌≡◌, ◌-◌, take}
use Rattle.std.specs.Prelude.{Some}
use Rattle.slab.specs.Slab.{get}
use Rattle.name_trie.specs.Shown.{known_at, shown_after}
use Rattle.name_trie.specs.Trie.{below, lookup, rows}
use Rattle.name_trie.proofs.show.+show_below.Given as goal

abbrev pub decreases-show_below : goal.decreases-show_below
decreases-show_below g l = l.depth

abbrev pub invariant-loop-row : goal.invariant-loop-row
invariant-loop-row g l =
    record {
      name : l.name.items ≡ l.initial.name.items;
      shown : l.show ≡ shown_after g.S.Show.shown l.initial.name.items (known_at g.W.Carry.past l.before (lookup (get l.nodes) (Some l.at))) l.initial.show
          (below (rows (get l.nodes) (l.depth - 1)) (take l.row-index l.row-items));
    }
