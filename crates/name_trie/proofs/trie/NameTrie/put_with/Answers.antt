use Rattle.std.proofs.Common.{◌≡◌, ap, sym, ◌∙◌}
use Rattle.std.specs.Prelude.{is_none}
use Rattle.std.specs.FinMap as map
use Rattle.slab.specs.Slab.{get}
use Rattle.ndn_names.specs.View.{components}
use Rattle.name_trie.specs.Trie.{value, walk, lookup}
use Rattle.name_trie.proofs.Walks.{get-table, same_table, put_table}
use Rattle.name_trie.proofs.Changed.{if_ok_then, on_ok_then, on_err_then, some_before, some_along}
use Rattle.name_trie.proofs.trie.NameTrie.put_with.Given as given
use Rattle.name_trie.proofs.trie.NameTrie.put_with.Goals as goal

-- the lookup of the name in the nodes before the call returns the value of the name in the old
-- table
had : (g : given.Over) (c : goal.After-release g) → lookup (get c.self.inside.nodes) c.self.inside.root (components c.args.name) ≡ map.get c.args.self.now.table (components c.args.name)
had g c =
    sym (get-table (get c.self.inside.nodes) c.self.inside.root (components c.args.name) c.args.name.spelled.1.0)
    ∙ ap (λ t. map.get t.table (components c.args.name)) c.self.view_is

pub returns-clause-added : goal.returns-clause-added
returns-clause-added g c =
    if_ok_then c.put_value_with-result.result c.put_value_with-result.ensures.added (λ is_new e. e ∙ ap is_none (had g c))

pub returns-clause-ok : goal.returns-clause-ok
returns-clause-ok g c =
    let h = get c.self.inside.nodes in
    let h1 = get c.put_value_with-result.new.nodes in
    let root = c.self.inside.root in
    let root1 = c.put_value_with-result.new.root in
    let name = components c.args.name in
    let becomes = g.B.Becomes.becomes c.args.how in
    on_ok_then c.put_value_with-result.result c.put_value_with-result.ensures.ok (λ is.
    same_table h1 (get c.release.new.nodes) root1 c.release.new.root c.release.ensures.same
    ∙ put_table h h1 root root1 name (becomes (lookup h root name)) c.args.name.spelled.1.0 is
    ∙ (λ i. map.insert (c.self.view_is i).table name (becomes (had g c i))))

pub returns-clause-err : goal.returns-clause-err
returns-clause-err g c =
    let h1 = get c.put_value_with-result.new.nodes in
    let root1 = c.put_value_with-result.new.root in
    on_err_then c.put_value_with-result.result c.put_value_with-result.ensures.err (λ is.
    same_table h1 (get c.release.new.nodes) root1 c.release.new.root c.release.ensures.same
    ∙ same_table (get c.self.inside.nodes) h1 c.self.inside.root root1 is
    ∙ ap (λ t. t.table) c.self.view_is)

pub returns-clause-known : goal.returns-clause-known
returns-clause-known g c = λ some.
    let h = get c.self.inside.nodes in
    let root = c.self.inside.root in
    let name = components c.args.name in
    c.put_value_with-result.ensures.known (some_before (value h) (walk h root name) (some_along (lookup h root name) _ (had g c) some))
