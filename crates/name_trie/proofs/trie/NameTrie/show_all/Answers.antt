use Rattle.std.proofs.Common.{[], arith, ap, sym, ◌∙◌}
use Rattle.std.specs.FinMap.{entries, get as map_get}
use Rattle.slab.specs.Slab.{get}
use Rattle.name_trie.specs.Shown.{known_at, shown_known}
use Rattle.name_trie.specs.Trie.{lookup, table_of}
use Rattle.name_trie.proofs.Along.{taken_same}
use Rattle.name_trie.proofs.Changed.{on_ok_then}
use Rattle.name_trie.proofs.Listed.{entries_table}
use Rattle.name_trie.proofs.Shown.{rows_same}
use Rattle.name_trie.proofs.Walks.{get-table}
use Rattle.name_trie.proofs.trie.NameTrie.show_all.Goals as goal

pub returns : goal.returns
returns g c =
    let h = get c.self.inside.nodes in
    let root = c.self.inside.root in
    let past = g.W.Carry.past in
    on_ok_then c.show_all.result c.show_all.ensures
    (λ e. e
    ∙ rows_same g.S.Show.shown c.args.show.now (known_at past c.args.before.now (lookup h root)) (known_at past c.args.before.now (map_get (table_of h root))) h root
    (λ q le. taken_same past past c.args.before.now (lookup h root) (map_get (table_of h root)) [] q 64 (λ p short. sym (get-table h root p short)) (omega (arith, le)))
    ∙ ap (λ es. shown_known g.S.Show.shown (known_at past c.args.before.now (map_get (table_of h root))) c.args.show.now es) (sym (entries_table h root))
    ∙ ap (λ t. shown_known g.S.Show.shown (known_at past c.args.before.now (map_get t.table)) c.args.show.now (entries t.table)) c.self.view_is)
