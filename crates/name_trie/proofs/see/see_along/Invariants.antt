use Rattle.std.proofs.Common.{◌≡◌, ◌+◌, ◌≤◌, length, List, [], ◌++◌}
use Rattle.slab.specs.Slab.{get}
use Rattle.ndn_tlv.specs.Element.{Field}
use Rattle.ndn_names.specs.View.{components, components_left}
use Rattle.name_trie.specs.Trie.{lookup, steps, walk}
use Rattle.name_trie.specs.Taken.{taken_along}
use Rattle.name_trie.proofs.see.see_along.Given as goal

abbrev pub invariant-loop-next : goal.invariant-loop-next
invariant-loop-next g l =
    record {
      path : (front : List Field) × (front ++ components_left l.rest ≡ components l.fn.name) × (walk (get l.nodes) l.fn.root front ≡ l.next)
          × (taken_along g.S.See.seen g.S.See.seen l.see (lookup (get l.nodes) l.fn.root) front (components_left l.rest)
          ≡ taken_along g.S.See.seen g.S.See.seen l.fn.see (lookup (get l.nodes) l.fn.root) [] (components l.fn.name));
      counted : l.fn.steps ≤ l.steps;
      cost : l.steps + length (components_left l.rest) ≤ l.fn.steps + length (components l.fn.name);
      exact : l.steps + steps (get l.nodes) l.next (components_left l.rest) ≡ l.fn.steps + steps (get l.nodes) l.fn.root (components l.fn.name);
      small : length (components l.fn.name) ≤ 64;
    }

abbrev pub decreases-loop-next : goal.decreases-loop-next
decreases-loop-next g l = length (components_left l.rest)
