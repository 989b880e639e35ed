use Rattle.std.proofs.Common.{◌≡◌, true, false, length, List, [], ◌++◌}
use Rattle.slab.specs.Slab.{get}
use Rattle.ndn_tlv.specs.Element.{Field}
use Rattle.ndn_names.specs.View.{components, components_left}
use Rattle.name_trie.specs.Trie.{lookup, walk}
use Rattle.name_trie.specs.Taken.{taken_along}
use Rattle.name_trie.proofs.look.look_along.Given as goal

abbrev pub invariant-loop-next : goal.invariant-loop-next
invariant-loop-next g l =
    (front : List Field) × (front ++ components_left l.rest ≡ components l.fn.name) × (walk (get l.nodes) l.fn.root front ≡ l.next)
    × (taken_along (g.L.Look.seen true) (g.L.Look.seen false) l.look (lookup (get l.nodes) l.fn.root) front (components_left l.rest)
    ≡ taken_along (g.L.Look.seen true) (g.L.Look.seen false) l.fn.look (lookup (get l.nodes) l.fn.root) [] (components l.fn.name))

abbrev pub decreases-loop-next : goal.decreases-loop-next
decreases-loop-next g l = length (components_left l.rest)
