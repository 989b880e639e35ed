use Rattle.slab.specs.Slab.{get}
use Rattle.name_trie.proofs.Walks.{empty_table}
use Rattle.name_trie.proofs.trie.NameTrie.new.Goals as goal

pub returns-clause-table : goal.returns-clause-table
returns-clause-table g c = empty_table (get c.new.result)
