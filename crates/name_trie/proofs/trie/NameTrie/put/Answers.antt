use Rattle.std.proofs.Common.{ap, sym, ◌∙◌}
use Rattle.std.specs.Prelude.{is_none}
use Rattle.std.specs.FinMap as map
use Rattle.slab.specs.Slab.{get}
use Rattle.ndn_names.specs.View.{components}
use Rattle.name_trie.specs.Trie.{value, walk, lookup}
use Rattle.name_trie.proofs.Walks.{get-table, same_table, put_table}
use Rattle.name_trie.proofs.Changed.{if_ok_then, on_ok_then, on_err_then, some_before, some_along}
use Rattle.name_trie.proofs.trie.NameTrie.put.Goals as goal

pub returns-clause-ok : goal.returns-clause-ok
returns-clause-ok g c =
    let name = components c.args.name in
    let v = c.args.value in
    on_ok_then c.put_value-result.result c.put_value-result.ensures.ok (λ is.
    same_table (get c.put_value-result.new.nodes) (get c.release.new.nodes) c.put_value-result.new.root c.release.new.root c.release.ensures.same
    ∙ put_table (get c.self.inside.nodes) (get c.put_value-result.new.nodes) c.self.inside.root c.put_value-result.new.root name v c.args.name.spelled.1.0 is
    ∙ ap (λ t. map.insert t.table name v) c.self.view_is)

pub returns-clause-err : goal.returns-clause-err
returns-clause-err g c =
    on_err_then c.put_value-result.result c.put_value-result.ensures.err (λ is.
    same_table (get c.put_value-result.new.nodes) (get c.release.new.nodes) c.put_value-result.new.root c.release.new.root c.release.ensures.same
    ∙ same_table (get c.self.inside.nodes) (get c.put_value-result.new.nodes) c.self.inside.root c.put_value-result.new.root is
    ∙ ap (λ t. t.table) c.self.view_is)

pub returns-clause-known : goal.returns-clause-known
returns-clause-known g c = λ some.
    let h = get c.self.inside.nodes in
    let root = c.self.inside.root in
    let name = components c.args.name in
    c.put_value-result.ensures.known (some_before (value h) (walk h root name)
    (some_along (lookup h root name) _ (sym (get-table h root name c.args.name.spelled.1.0) ∙ ap (λ t. map.get t.table name) c.self.view_is) some))

pub returns-clause-added : goal.returns-clause-added
returns-clause-added g c =
    let name = components c.args.name in
    if_ok_then c.put_value-result.result c.put_value-result.ensures.added (λ is_new e. e
    ∙ ap is_none (sym (get-table (get c.self.inside.nodes) c.self.inside.root name c.args.name.spelled.1.0) ∙ ap (λ t. map.get t.table name) c.self.view_is))
