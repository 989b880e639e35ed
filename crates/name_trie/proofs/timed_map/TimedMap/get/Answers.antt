use Rattle.std.proofs.Common.{ap, sym, ◌∙◌, Bor}
use Rattle.std.specs.Option.{option_and_then, option_map}
use Rattle.std.specs.FinMap as map
use Rattle.slab.specs.Slab.{get}
use Rattle.ndn_names.specs.View.{components}
use Rattle.name_trie.specs.Trie.{value}
use Rattle.name_trie.proofs.Walks.{get-table}
use Rattle.name_trie.proofs.timed_map.TimedMap.get.Goals as goal

pub returns-in_err-k : goal.returns-in_err-k
returns-in_err-k g c =
    let h = get c.self.inside.nodes in
    let name = components c.args.name in
    ap (option_map (λ (v : Bor g.row.V.Denot). v.now)) c.from_residual.ensures ∙ ap (option_and_then (value h)) c.in_err-k.ensures
    ∙ sym (get-table h c.self.inside.root name c.args.name.spelled.1.0) ∙ ap (λ t. map.get t.table name) c.self.view_is

pub returns : goal.returns
returns g c =
    let h = get c.self.inside.nodes in
    let name = components c.args.name in
    c.value_of.ensures ∙ ap (option_and_then (value h)) c.in_ok-k.ensures
    ∙ sym (get-table h c.self.inside.root name c.args.name.spelled.1.0) ∙ ap (λ t. map.get t.table name) c.self.view_is
