use Rattle.std.proofs.Common.{◌≡◌}
use Rattle.name_trie.specs.Head.{head}
use Rattle.name_trie.proofs.Heads.{AreOctets}
use Rattle.name_trie.proofs.component_buf.short_number.Given as goal

abbrev pub invariant-loop-octet : goal.invariant-loop-octet
invariant-loop-octet l = record {
  so_far : l.number ≡ head l.octet-index l.octets;
  fit : AreOctets l.octets;
}
