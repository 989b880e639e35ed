use Rattle.std.proofs.Common.{◌≡◌, ◌⊎◌, ◌≤◌, ℕ, true, false, length, List, [], ◌++◌}
use Rattle.std.specs.Prelude.{Some, IfSome}
use Rattle.std.specs.Option.{option_and_then, option_map}
use Rattle.std.specs.FinSet as set
use Rattle.slab.specs.Slab.{get}
use Rattle.ndn_tlv.specs.Element.{Field}
use Rattle.ndn_names.specs.View.{components, components_left}
use Rattle.name_trie.specs.Trie.{Sound, child, lookup, walk}
use Rattle.name_trie.specs.Changes.{IsBare}
use Rattle.name_trie.specs.Taken.{taken_along}
use Rattle.name_trie.specs.Timed.{IsTimed, IsCounted}
use Rattle.name_trie.proofs.Along.{before}
use Rattle.name_trie.proofs.take.take_along.Given as goal

abbrev pub invariant-loop-next : goal.invariant-loop-next
invariant-loop-next g l =
    record {
      sound : Sound (get l.nodes) l.fn.root;
      timed : IsTimed g.V.Timed.timer (get l.nodes) l.timers.timers;
      counted : IsCounted g.S.Tally.counts (get l.nodes) l.fn.root (g.S.Tally.sum l.tally);
      few : set.len l.timers.timers ≤ set.len l.fn.timers.timers;
      capacity : l.fn.timers.capacity ≤ l.timers.capacity;
      walks : (q : List Field) → walk (get l.nodes) l.fn.root q ≡ walk (get l.fn.nodes) l.fn.root q;
      path : (front : List Field) × (front ++ components_left l.rest ≡ components l.fn.name) × (walk (get l.nodes) l.fn.root front ≡ l.next)
          × ((q : List Field) → lookup (get l.nodes) l.fn.root q ≡ option_and_then (before (g.T.Take.left true) (g.T.Take.left false) q front) (lookup (get l.fn.nodes) l.fn.root q))
          × (taken_along (g.T.Take.taken true) (g.T.Take.taken false) l.how (lookup (get l.fn.nodes) l.fn.root) front (components_left l.rest)
          ≡ taken_along (g.T.Take.taken true) (g.T.Take.taken false) l.fn.how (lookup (get l.fn.nodes) l.fn.root) [] (components l.fn.name));
      bares : (j : ℕ) → IsBare (get l.nodes) j → IsBare (get l.fn.nodes) j ⊎ (option_map (λ end. end.at) l.end ≡ Some j);
      link : (a b : ℕ) → option_map (λ end. end.at) l.end ≡ Some a → l.next ≡ Some b → (c : Field) × (child (get l.nodes) a c ≡ Some b);
      part : IfSome l.end (λ end. end.is_whole ≡ false);
    }

abbrev pub decreases-loop-next : goal.decreases-loop-next
decreases-loop-next g l = length (components_left l.rest)
