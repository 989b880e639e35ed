use Rattle.std.proofs.Common.{◌≡◌, inl, inr, ap, sym, ◌∙◌, Bor}
use Rattle.std.specs.Prelude.{None, Some, is_some}
use Rattle.std.specs.Option.{option_and_then, option_map}
use Rattle.std.specs.FinMap as map
use Rattle.slab.specs.Slab.{get}
use Rattle.ndn_names.specs.View.{components}
use Rattle.name_trie.specs.Trie.{value}
use Rattle.name_trie.proofs.Walks.{get-table, same_table, remove_table, remove_absent}
use Rattle.name_trie.proofs.Counts.{is_some_map}
use Rattle.name_trie.proofs.Tidy.{bare_set}
use Rattle.name_trie.proofs.Changed.{live, there_by_up, held_still}
use Rattle.name_trie.proofs.Closed.{walk_set, sound_set, lookup_set}
use Rattle.name_trie.proofs.trie.NameTrie.remove.Goals as goal

pub set_value-requires : goal.set_value-requires
set_value-requires g c =
    let h = get c.self.inside.nodes in
    let up = live h c.self.inside.root c.self.invariant.0 (components c.args.name) c.in-Some.k (sym c.in-Some.ensures) in
    there_by_up h c.in-Some.k up.0 up.1

pub prune-requires : goal.prune-requires
prune-requires g c =
    sound_set c.in-Some.k None (get c.self.inside.nodes) (get c.set_value.new.nodes) c.set_value.ensures c.self.inside.root c.self.invariant.0

pub invariant_of-self : goal.invariant_of-self
invariant_of-self g c =
    let h = get c.self.inside.nodes in
    let h1 = get c.set_value.new.nodes in
    let root = c.self.inside.root in (
      c.prune.ensures.sound,
      held_still h (get c.prune.new.nodes) root c.prune.new.root c.held_node-kept.result c.self.inside.held c.held_node-kept.ensures
          (λ q some at. c.prune.ensures.kept q some (walk_set c.in-Some.k None h h1 c.set_value.ensures root q ∙ at)) c.self.invariant.1,
      (λ j b. elim (c.prune.ensures.tidy j b) as (λ _. option_map (λ p. p.1) c.self.inside.held ≡ Some j) [
        | (inl is) ↦ sym c.held_node-kept.ensures ∙ is
        | (inr was) ↦ c.self.invariant.2 j (bare_set h h1 c.in-Some.k None c.set_value.ensures j was.0 was.1)
      ]),
    )

pub returns-in-Some-clause-table : goal.returns-in-Some-clause-table
returns-in-Some-clause-table g c =
    let h = get c.self.inside.nodes in
    let h1 = get c.set_value.new.nodes in
    let root = c.self.inside.root in
    let name = components c.args.name in
    same_table h1 (get c.prune.new.nodes) root c.prune.new.root c.prune.ensures.same
    ∙ remove_table h h1 root root name c.args.name.spelled.1.0
    (lookup_set c.in-Some.k None h h1 c.set_value.ensures root c.self.invariant.0 name (sym c.in-Some.ensures))
    ∙ ap (λ t. map.remove t.table name) c.self.view_is

pub returns-in_default-clause-table : goal.returns-in_default-clause-table
returns-in_default-clause-table g c =
    let h = get c.self.inside.nodes in
    let name = components c.args.name in
    remove_absent c.args.self.now.table name
    (ap (λ t. map.get t.table name) (sym c.self.view_is) ∙ get-table h c.self.inside.root name c.args.name.spelled.1.0 ∙ ap (option_and_then (value h)) (sym c.in_default.ensures))

pub returns-in-Some-clause-removed : goal.returns-in-Some-clause-removed
returns-in-Some-clause-removed g c =
    let h = get c.self.inside.nodes in
    let name = components c.args.name in
    c.is_some-had_value.ensures ∙ is_some_map (λ (v : Bor g.row.V.Denot). v.now) c.value_of.result
    ∙ ap is_some (c.value_of.ensures ∙ ap (option_and_then (value h)) c.in-Some.ensures
    ∙ sym (get-table h c.self.inside.root name c.args.name.spelled.1.0) ∙ ap (λ t. map.get t.table name) c.self.view_is)

pub returns-in_default-clause-removed : goal.returns-in_default-clause-removed
returns-in_default-clause-removed g c =
    let h = get c.self.inside.nodes in
    let name = components c.args.name in
    ap is_some (ap (option_and_then (value h)) c.in_default.ensures
    ∙ sym (get-table h c.self.inside.root name c.args.name.spelled.1.0) ∙ ap (λ t. map.get t.table name) c.self.view_is)
