use Rattle.std.proofs.Common.{◌≡◌, ◌⊎◌, ℕ, List, ◌++◌}
use Rattle.std.specs.Prelude.{Some, IsSome}
use Rattle.slab.specs.Slab.{get}
use Rattle.ndn_tlv.specs.Element.{Field}
use Rattle.ndn_names.specs.View.{components, components_left}
use Rattle.name_trie.specs.Trie.{Sound, walk, value}
use Rattle.name_trie.specs.Changes.{SameLookups, IsBare}
use Rattle.name_trie.proofs.node.make_path.Given as goal

abbrev pub invariant-loop-component : goal.invariant-loop-component
invariant-loop-component g l =
    record {
      sound : Sound (get l.nodes) l.root;
      same : SameLookups (get l.fn.nodes) l.fn.root (get l.nodes) l.root;
      values : (j : ℕ) → value (get l.nodes) j ≡ value (get l.fn.nodes) j;
      path : (front : List Field) × (front ++ components_left l.rest ≡ components l.fn.name) × (walk (get l.nodes) l.root front ≡ Some l.at);
      bares : (j : ℕ) → IsBare (get l.nodes) j → (l.at ≡ j) ⊎ IsBare (get l.fn.nodes) j;
      known : IsSome (walk (get l.fn.nodes) l.fn.root (components l.fn.name)) → IsSome (walk (get l.nodes) (Some l.at) (components_left l.rest));
    }
