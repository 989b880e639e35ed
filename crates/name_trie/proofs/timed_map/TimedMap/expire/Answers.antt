use Rattle.std.proofs.Common.{ap, ◌∙◌}
use Rattle.slab.specs.Slab.{get}
use Rattle.name_trie.specs.ByName.{revise}
use Rattle.name_trie.proofs.Closed.{revise_table}
use Rattle.name_trie.proofs.timed_map.TimedMap.expire.Goals as goal

pub returns-clause-table : goal.returns-clause-table
returns-clause-table g c =
    revise_table (g.C.Change.change c.args.how.now) (get c.self.inside.nodes) (get c.expire.new.nodes) c.self.inside.root c.expire.new.root c.expire.ensures.changed
    ∙ ap (λ t. revise (g.C.Change.change c.args.how.now) t.table) c.self.view_is
