use Rattle.std.proofs.Common.{◌≡◌}
use Rattle.name_trie.specs.Head.{head}
use Rattle.name_trie.proofs.Heads.{AreOctets}
use Rattle.name_trie.proofs.component_buf.head_of.Given as goal

abbrev pub invariant-loop : goal.invariant-loop
invariant-loop l = record {
  so_far : l.head ≡ head l.counter l.octets;
  fit : AreOctets l.octets;
}
