use Rattle.std.proofs.Common.{ap, ◌∙◌}
use Rattle.slab.specs.Slab.{get}
use Rattle.ndn_names.specs.View.{components}
use Rattle.name_trie.specs.ByName.{longest}
use Rattle.name_trie.proofs.LastOn.{longest_is}
use Rattle.name_trie.proofs.trie.NameTrie.longest.Goals as goal

pub returns : goal.returns
returns g c =
    let name = components c.args.name in
    c.longest.ensures ∙ longest_is (get c.self.inside.nodes) c.self.inside.root name c.args.name.spelled.1.0 ∙ ap (λ t. longest t.table name) c.self.view_is
