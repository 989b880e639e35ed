use Rattle.std.proofs.Common.{ap, sym, ◌∙◌}
use Rattle.std.specs.FinMap.{entries}
use Rattle.slab.specs.Slab.{get}
use Rattle.name_trie.proofs.Changed.{if_ok_then}
use Rattle.name_trie.proofs.Listed.{entries_table}
use Rattle.name_trie.proofs.trie.NameTrie.list.Goals as goal

pub returns : goal.returns
returns g c =
    if_ok_then c.list.result c.list.ensures (λ l e. e ∙ sym (entries_table (get c.self.inside.nodes) c.self.inside.root) ∙ ap (λ t. entries t.table) c.self.view_is)
