use Rattle.std.proofs.Common.{◌≡◌, inl, inr, Bool, ℕ, cond, refl, ap, sym, ◌∙◌, arith}
use Rattle.std.specs.Prelude.{Option, None, Some}
use Rattle.std.specs.Option.{option_and_then, option_map}
use Rattle.std.specs.FinMap as map
use Rattle.slab.specs.Slab.{get}
use Rattle.ndn_names.specs.View.{components}
use Rattle.name_trie.specs.Trie.{value, walk, table_of}
use Rattle.name_trie.specs.ByName.{with_value}
use Rattle.name_trie.proofs.Walks.{get-table, same_table, remove_absent}
use Rattle.name_trie.proofs.Closed.{walk_turned, sound_turned, lookup_turned, bare_turned, with_value_table, count_turned}
use Rattle.name_trie.proofs.Changed.{held_still}
use Rattle.name_trie.proofs.trie.NameTrie.change.Goals as goal

pub prune-requires : goal.prune-requires
prune-requires g c =
    sound_turned c.in-Some.k _ (get c.self.inside.nodes) (get c.change_at-went.new.nodes) c.change_at-went.ensures.turns c.self.inside.root c.self.invariant.0

pub invariant_of-self : goal.invariant_of-self
invariant_of-self g c =
    let h = get c.self.inside.nodes in
    let h1 = get c.change_at-went.new.nodes in
    let root = c.self.inside.root in
    let turns = c.change_at-went.ensures.turns in (
      c.prune.ensures.sound,
      held_still h (get c.prune.new.nodes) root c.prune.new.root c.held_node-kept.result c.self.inside.held c.held_node-kept.ensures
          (λ q some at. c.prune.ensures.kept q some (walk_turned c.in-Some.k _ h h1 turns root q ∙ at)) c.self.invariant.1,
      (λ j b. elim (c.prune.ensures.tidy j b) as (λ _. option_map (λ p. p.1) c.self.inside.held ≡ Some j) [
        | (inl is) ↦ sym c.held_node-kept.ensures ∙ is
        | (inr was) ↦ c.self.invariant.2 j (bare_turned c.in-Some.k _ h h1 turns j was.0 was.1)
      ]),
    )

pub returns-clause-table : goal.returns-clause-table
returns-clause-table g c =
    let h = get c.self.inside.nodes in
    let h1 = get c.change_at-went.new.nodes in
    let root = c.self.inside.root in
    let name = components c.args.name in
    let k = c.in-Some.k in
    let change = g.C.Change.change c.args.how.now in
    let now = option_and_then change (value h k) in
    let at : walk h root name ≡ Some k = sym c.in-Some.ensures in
    let had : value h k ≡ map.get (table_of h root) name = ap (option_and_then (value h)) (sym at) ∙ sym (get-table h root name c.args.name.spelled.1.0) in
    same_table h1 (get c.prune.new.nodes) root c.prune.new.root c.prune.ensures.same
    ∙ with_value_table h h1 root root name now c.args.name.spelled.1.0
    (lookup_turned k now h h1 c.change_at-went.ensures.turns root c.self.invariant.0 name at)
    ∙ ap (λ (o : Option g.row.V.Denot). with_value (table_of h root) name (option_and_then change o)) had
    ∙ ap (λ t. with_value t.table name (option_and_then change (map.get t.table name))) c.self.view_is

pub returns-in_default-clause-table : goal.returns-in_default-clause-table
returns-in_default-clause-table g c =
    let h = get c.self.inside.nodes in
    let name = components c.args.name in
    let none : map.get c.args.self.now.table name ≡ None =
    ap (λ t. map.get t.table name) (sym c.self.view_is) ∙ get-table h c.self.inside.root name c.args.name.spelled.1.0 ∙ ap (option_and_then (value h)) (sym c.in_default.ensures) in
    remove_absent c.args.self.now.table name none
    ∙ sym (ap (λ (o : Option g.row.V.Denot). with_value c.args.self.now.table name (option_and_then (g.C.Change.change c.args.how.now) o)) none)

abbrev counted : Bool → ℕ
counted b = cond b 1 0

pub returns-clause-count : goal.returns-clause-count
returns-clause-count g c =
    let h = get c.self.inside.nodes in
    let h1 = get c.change_at-went.new.nodes in
    let root = c.self.inside.root in
    let k = c.in-Some.k in
    let change = g.C.Change.change c.args.how.now in
    let now = option_and_then change (value h k) in
    let went = ap counted c.change_at-went.ensures.went in
    let count = count_turned k now h h1 c.change_at-went.ensures.turns root c.self.invariant.0 change refl in
    let same : map.len (table_of (get c.prune.new.nodes) c.prune.new.root) ≡ map.len (table_of h1 root) = ap map.len (same_table h1 (get c.prune.new.nodes) root c.prune.new.root c.prune.ensures.same) in
    let shown : map.len (table_of h root) ≡ map.len c.args.self.now.table = ap (λ t. map.len t.table) c.self.view_is in
    omega (arith, went, count, same, shown)
