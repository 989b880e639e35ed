use Rattle.std.proofs.Common.{true, false, [], arith, ap, sym, ◌∙◌}
use Rattle.std.specs.FinMap as map
use Rattle.slab.specs.Slab.{get}
use Rattle.ndn_names.specs.View.{components}
use Rattle.name_trie.specs.Trie.{lookup}
use Rattle.name_trie.specs.Taken.{taken_along}
use Rattle.name_trie.proofs.Along.{taken_same}
use Rattle.name_trie.proofs.Walks.{get-table}
use Rattle.name_trie.proofs.timed_map.TimedMap.look_along.Goals as goal

pub returns : goal.returns
returns g c =
    let own = g.L.Look.seen true in
    let below = g.L.Look.seen false in
    let h = get c.self.inside.nodes in
    let root = c.self.inside.root in
    let name = components c.args.name in
    c.look_along.ensures
    ∙ taken_same own below c.args.look.now (lookup h root) _ [] name 64 (λ q le. sym (get-table h root q le)) (omega (arith, c.args.name.spelled.1.0))
    ∙ ap (λ t. taken_along own below c.args.look.now (map.get t.table) [] name) c.self.view_is
