use Rattle.std.proofs.Common.{◌≡◌, inl, inr, refl, ap, sym, ◌∙◌}
use Rattle.std.specs.Prelude.{Option, None, Some}
use Rattle.std.specs.Option.{option_and_then, option_map}
use Rattle.std.specs.FinMap as map
use Rattle.slab.specs.Slab.{get}
use Rattle.ndn_names.specs.View.{components}
use Rattle.name_trie.specs.Trie.{value, walk, table_of}
use Rattle.name_trie.specs.ByName.{with_value}
use Rattle.name_trie.proofs.Walks.{get-table, same_table, remove_absent}
use Rattle.name_trie.proofs.Closed.{walk_turned, sound_turned, lookup_turned, bare_turned, with_value_table}
use Rattle.name_trie.proofs.Changed.{held_still}
use Rattle.name_trie.proofs.Rings.{same_timers, still_room}
use Rattle.name_trie.proofs.Totals.{counted_same, counted_turned, has_counts}
use Rattle.name_trie.proofs.timed_map.TimedMap.change.Goals as goal

pub prune-requires : goal.prune-requires
prune-requires g c =
    sound_turned c.in-Some.k _ (get c.self.inside.nodes) (get c.change_timed.new.nodes) c.change_timed.ensures.turns c.self.inside.root c.self.invariant.0

pub invariant_of-self : goal.invariant_of-self
invariant_of-self g c =
    let h = get c.self.inside.nodes in
    let h1 = get c.change_timed.new.nodes in
    let root = c.self.inside.root in
    let turns = c.change_timed.ensures.turns in (
      c.prune.ensures.sound,
      held_still h (get c.prune.new.nodes) root c.prune.new.root c.held_node-kept.result c.self.inside.held c.held_node-kept.ensures
          (λ q some at. c.prune.ensures.kept q some (walk_turned c.in-Some.k _ h h1 turns root q ∙ at)) c.self.invariant.1,
      (λ j b. elim (c.prune.ensures.tidy j b) as (λ _. option_map (λ p. p.1) c.self.inside.held ≡ Some j) [
        | (inl is) ↦ sym c.held_node-kept.ensures ∙ is
        | (inr was) ↦ c.self.invariant.2 j (bare_turned c.in-Some.k _ h h1 turns j was.0 was.1)
      ]),
      same_timers g.V.Timed.timer h1 (get c.prune.new.nodes) c.change_timed.new.timers.timers c.prune.ensures.values c.change_timed.ensures.timed,
      still_room c.self.inside.is_ready c.self.inside.timers c.change_timed.new.timers c.change_timed.ensures.few c.change_timed.ensures.capacity c.self.invariant.4,
      counted_same g.S.Tally.counts h1 (get c.prune.new.nodes) root c.prune.new.root (g.S.Tally.sum c.change_timed.new.tally) c.prune.ensures.same
          (counted_turned g.S.Tally.counts c.in-Some.k _ h h1 turns root c.self.invariant.0 (g.C.Change.change c.args.how.now) refl (g.S.Tally.sum c.self.inside.tally) (g.S.Tally.sum c.change_timed.new.tally) c.change_timed.ensures.counted c.self.invariant.5),
    )

pub returns-clause-table : goal.returns-clause-table
returns-clause-table g c =
    let h = get c.self.inside.nodes in
    let h1 = get c.change_timed.new.nodes in
    let root = c.self.inside.root in
    let name = components c.args.name in
    let k = c.in-Some.k in
    let change = g.C.Change.change c.args.how.now in
    let now = option_and_then change (value h k) in
    let at : walk h root name ≡ Some k = sym c.in-Some.ensures in
    let had : value h k ≡ map.get (table_of h root) name = ap (option_and_then (value h)) (sym at) ∙ sym (get-table h root name c.args.name.spelled.1.0) in
    same_table h1 (get c.prune.new.nodes) root c.prune.new.root c.prune.ensures.same
    ∙ with_value_table h h1 root root name now c.args.name.spelled.1.0
    (lookup_turned k now h h1 c.change_timed.ensures.turns root c.self.invariant.0 name at)
    ∙ ap (λ (o : Option g.row.V.Denot). with_value (table_of h root) name (option_and_then change o)) had
    ∙ ap (λ t. with_value t.table name (option_and_then change (map.get t.table name))) c.self.view_is

pub returns-in_default-clause-table : goal.returns-in_default-clause-table
returns-in_default-clause-table g c =
    let h = get c.self.inside.nodes in
    let name = components c.args.name in
    let none : map.get c.args.self.now.table name ≡ None =
    ap (λ t. map.get t.table name) (sym c.self.view_is) ∙ get-table h c.self.inside.root name c.args.name.spelled.1.0 ∙ ap (option_and_then (value h)) (sym c.in_default.ensures) in
    remove_absent c.args.self.now.table name none
    ∙ sym (ap (λ (o : Option g.row.V.Denot). with_value c.args.self.now.table name (option_and_then (g.C.Change.change c.args.how.now) o)) none)

pub change_timed-requires-clause-has : goal.change_timed-requires-clause-has
change_timed-requires-clause-has g c =
    has_counts g.S.Tally.counts (get c.self.inside.nodes) c.self.inside.root c.self.invariant.0 (g.S.Tally.sum c.self.inside.tally) c.self.invariant.5 c.in-Some.k
