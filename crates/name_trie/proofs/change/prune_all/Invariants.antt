use Rattle.std.proofs.Common.{◌≡◌, ◌⊎◌, ◌≤◌, ℕ, List}
use Rattle.std.specs.Prelude.{Some, IsSome}
use Rattle.slab.specs.Slab.{get}
use Rattle.ndn_tlv.specs.Element.{Field}
use Rattle.name_trie.specs.Trie.{Sound, walk, value}
use Rattle.name_trie.specs.Changes.{SameLookups, IsBare}
use Rattle.name_trie.proofs.change.prune_all.Given as goal

abbrev pub invariant-loop-k : goal.invariant-loop-k
invariant-loop-k g l =
    record {
      sound : Sound (get l.nodes) l.root;
      same : SameLookups (get l.fn.nodes) l.fn.root (get l.nodes) l.root;
      kept : (q : List Field) → IsSome l.kept → walk (get l.fn.nodes) l.fn.root q ≡ l.kept → walk (get l.nodes) l.root q ≡ l.kept;
      bares : (j : ℕ) → IsBare (get l.nodes) j → (l.kept ≡ Some j) ⊎ (l.k ≤ j);
      values : (j : ℕ) → value (get l.nodes) j ≡ value (get l.fn.nodes) j;
      fewer : (j : ℕ) → IsSome (get l.nodes j) → IsSome (get l.fn.nodes j);
    }
