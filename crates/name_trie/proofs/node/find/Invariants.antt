use Rattle.std.proofs.Common.{◌≡◌}
use Rattle.slab.specs.Slab.{get}
use Rattle.ndn_names.specs.View.{components, components_left}
use Rattle.name_trie.specs.Trie.{walk}
use Rattle.name_trie.proofs.node.find.Given as goal

abbrev pub invariant-loop-component : goal.invariant-loop-component
invariant-loop-component g l =
    walk (get l.nodes) l.at (components_left l.rest) ≡ walk (get l.nodes) l.fn.root (components l.fn.name)
