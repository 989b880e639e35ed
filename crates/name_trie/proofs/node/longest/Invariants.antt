use Rattle.std.proofs.Common.{◌≡◌, length}
use Rattle.std.specs.Prelude.{None}
use Rattle.std.specs.Option.{option_map}
use Rattle.slab.specs.Slab.{get}
use Rattle.ndn_names.specs.View.{components, components_left}
use Rattle.name_trie.specs.Trie.{last_on}
use Rattle.name_trie.proofs.node.longest.Given as goal

abbrev pub invariant-loop-next : goal.invariant-loop-next
invariant-loop-next g l =
    last_on (get l.nodes) l.next (components_left l.rest) (option_map (λ v. v.now) l.best) ≡ last_on (get l.nodes) l.fn.root (components l.fn.name) None

abbrev pub decreases-loop-next : goal.decreases-loop-next
decreases-loop-next g l = length (components_left l.rest)
