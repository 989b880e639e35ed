use Rattle.std.proofs.Common.{◌≡◌, ◌≢◌, ◌⊎◌, ℕ, List}
use Rattle.std.specs.Prelude.{Some, IsSome}
use Rattle.slab.specs.Slab.{get, slab_len}
use Rattle.ndn_tlv.specs.Element.{Field}
use Rattle.name_trie.specs.Trie.{Sound, walk, value}
use Rattle.name_trie.specs.Changes.{SameLookups, IsBare}
use Rattle.name_trie.proofs.node.prune.Given as goal

abbrev pub invariant-loop-next : goal.invariant-loop-next
invariant-loop-next g l =
    record {
      sound : Sound (get l.nodes) l.root;
      same : SameLookups (get l.initial.nodes) l.initial.root (get l.nodes) l.root;
      kept : (q : List Field) → IsSome l.kept → walk (get l.initial.nodes) l.initial.root q ≡ l.kept → walk (get l.nodes) l.root q ≡ l.kept;
      bares : (j : ℕ) → IsBare (get l.nodes) j → (l.kept ≡ Some j) ⊎ ((l.next ≡ Some j) ⊎ ((j ≢ l.from) × IsBare (get l.initial.nodes) j));
      values : (j : ℕ) → value (get l.nodes) j ≡ value (get l.initial.nodes) j;
      fewer : (j : ℕ) → IsSome (get l.nodes j) → IsSome (get l.initial.nodes j);
    }

abbrev pub decreases-loop-next : goal.decreases-loop-next
decreases-loop-next g l = slab_len l.nodes
