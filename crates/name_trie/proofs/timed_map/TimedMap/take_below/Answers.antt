use Rattle.std.proofs.Common.{◌≡◌, inl, inr, true, [], ◌∷◌, ◌++◌, refl, ap, sym, ◌∙◌}
use Rattle.std.specs.Prelude.{Option, None, Some}
use Rattle.std.specs.Option.{option_and_then, option_map}
use Rattle.std.specs.FinMap as map
use Rattle.slab.specs.Slab.{get}
use Rattle.ndn_names.specs.View.{components, field_of}
use Rattle.name_trie.specs.Trie.{value, down, walk, table_of}
use Rattle.name_trie.specs.ByName.{with_value}
use Rattle.name_trie.specs.Taken.{taken}
use Rattle.name_trie.proofs.Walks.{get-table, get_nothing, same_table, remove_absent}
use Rattle.name_trie.proofs.Closed.{walk_turned, sound_turned, lookup_turned, bare_turned, with_value_table}
use Rattle.name_trie.proofs.Changed.{held_still, short_name, walk-append}
use Rattle.name_trie.proofs.Rings.{same_timers, still_room}
use Rattle.name_trie.proofs.Totals.{counted_same, counted_turned, has_counts}
use Rattle.name_trie.proofs.timed_map.TimedMap.take_below.Given as given
use Rattle.name_trie.proofs.timed_map.TimedMap.take_below.Goals as goal

absent : (g : given.Over) (c : goal.In_default g) → map.get c.args.self.now.table (components c.args.name ++ field_of c.args.component ∷ []) ≡ None
absent g c =
    let h = get c.self.inside.nodes in
    let root = c.self.inside.root in
    let name = components c.args.name in
    let x = field_of c.args.component in
    ap (λ t. map.get t.table (name ++ x ∷ [])) (sym c.self.view_is)
    ∙ get_nothing h root (name ++ x ∷ []) (ap (option_and_then (value h)) (walk-append h root name (x ∷ []) ∙ ap (λ o. down h o x) (sym c.in_default.ensures)))

pub returns-in_default-clause-table : goal.returns-in_default-clause-table
returns-in_default-clause-table g c =
    let name = components c.args.name ++ field_of c.args.component ∷ [] in
    remove_absent c.args.self.now.table name (absent g c)
    ∙ sym (ap (λ (o : Option g.row.V.Denot). with_value c.args.self.now.table name (option_and_then (g.T.Take.left true) o)) (absent g c))

pub returns-in_default-clause-taken : goal.returns-in_default-clause-taken
returns-in_default-clause-taken g c = sym (ap (taken (g.T.Take.taken true) c.args.how.now) (absent g c))

absent_child : (g : given.Over) (c : goal.In_default-child_of g) → map.get c.args.self.now.table (components c.args.name ++ field_of c.args.component ∷ []) ≡ None
absent_child g c =
    let h = get c.self.inside.nodes in
    let root = c.self.inside.root in
    let name = components c.args.name in
    let x = field_of c.args.component in
    ap (λ t. map.get t.table (name ++ x ∷ [])) (sym c.self.view_is)
    ∙ get_nothing h root (name ++ x ∷ []) (ap (option_and_then (value h)) (walk-append h root name (x ∷ []) ∙ ap (λ o. down h o x) (sym c.in-Some.ensures) ∙ sym c.in_default-child_of.ensures))

pub returns-in_default-child_of-clause-table : goal.returns-in_default-child_of-clause-table
returns-in_default-child_of-clause-table g c =
    let name = components c.args.name ++ field_of c.args.component ∷ [] in
    remove_absent c.args.self.now.table name (absent_child g c)
    ∙ sym (ap (λ (o : Option g.row.V.Denot). with_value c.args.self.now.table name (option_and_then (g.T.Take.left true) o)) (absent_child g c))

pub returns-in_default-child_of-clause-taken : goal.returns-in_default-child_of-clause-taken
returns-in_default-child_of-clause-taken g c = sym (ap (taken (g.T.Take.taken true) c.args.how.now) (absent_child g c))

pub prune-requires : goal.prune-requires
prune-requires g c =
    sound_turned c.in-Some-child_of.k _ (get c.self.inside.nodes) (get c.take_at.new.nodes) c.take_at.ensures.turns c.self.inside.root c.self.invariant.0

pub invariant_of-self : goal.invariant_of-self
invariant_of-self g c =
    let h = get c.self.inside.nodes in
    let h1 = get c.take_at.new.nodes in
    let root = c.self.inside.root in
    let k = c.in-Some-child_of.k in
    let turns = c.take_at.ensures.turns in (
      c.prune.ensures.sound,
      held_still h (get c.prune.new.nodes) root c.prune.new.root c.held_node-kept.result c.self.inside.held c.held_node-kept.ensures
          (λ q some at. c.prune.ensures.kept q some (walk_turned k _ h h1 turns root q ∙ at)) c.self.invariant.1,
      (λ j b. elim (c.prune.ensures.tidy j b) as (λ _. option_map (λ p. p.1) c.self.inside.held ≡ Some j) [
        | (inl is) ↦ sym c.held_node-kept.ensures ∙ is
        | (inr was) ↦ c.self.invariant.2 j (bare_turned k _ h h1 turns j was.0 was.1)
      ]),
      same_timers g.V.Timed.timer h1 (get c.prune.new.nodes) c.take_at.new.timers.timers c.prune.ensures.values c.take_at.ensures.timed,
      still_room c.self.inside.is_ready c.self.inside.timers c.take_at.new.timers c.take_at.ensures.few c.take_at.ensures.capacity c.self.invariant.4,
      counted_same g.S.Tally.counts h1 (get c.prune.new.nodes) root c.prune.new.root (g.S.Tally.sum c.take_at.new.tally) c.prune.ensures.same
          (counted_turned g.S.Tally.counts k _ h h1 turns root c.self.invariant.0 (g.T.Take.left true) refl (g.S.Tally.sum c.self.inside.tally) (g.S.Tally.sum c.take_at.new.tally) c.take_at.ensures.counted c.self.invariant.5),
    )

led : (g : given.Over) (c : goal.After-prune g) → walk (get c.self.inside.nodes) c.self.inside.root (components c.args.name ++ field_of c.args.component ∷ []) ≡ Some c.in-Some-child_of.k
led g c =
    let h = get c.self.inside.nodes in
    let x = field_of c.args.component in
    walk-append h c.self.inside.root (components c.args.name) (x ∷ []) ∙ ap (λ o. down h o x) (sym c.in-Some.ensures) ∙ sym c.in-Some-child_of.ensures

had : (g : given.Over) (c : goal.After-prune g) → value (get c.self.inside.nodes) c.in-Some-child_of.k
    ≡ map.get (table_of (get c.self.inside.nodes) c.self.inside.root) (components c.args.name ++ field_of c.args.component ∷ [])
had g c =
    let h = get c.self.inside.nodes in
    let root = c.self.inside.root in
    let name = components c.args.name ++ field_of c.args.component ∷ [] in
    ap (option_and_then (value h)) (sym (led g c)) ∙ sym (get-table h root name (short_name h root c.self.invariant.0 name c.in-Some-child_of.k (led g c)))

pub returns-clause-table : goal.returns-clause-table
returns-clause-table g c =
    let h = get c.self.inside.nodes in
    let h1 = get c.take_at.new.nodes in
    let root = c.self.inside.root in
    let name = components c.args.name ++ field_of c.args.component ∷ [] in
    let k = c.in-Some-child_of.k in
    let left = g.T.Take.left true in
    let now = option_and_then left (value h k) in
    same_table h1 (get c.prune.new.nodes) root c.prune.new.root c.prune.ensures.same
    ∙ with_value_table h h1 root root name now (short_name h root c.self.invariant.0 name k (led g c))
    (lookup_turned k now h h1 c.take_at.ensures.turns root c.self.invariant.0 name (led g c))
    ∙ ap (λ (o : Option g.row.V.Denot). with_value (table_of h root) name (option_and_then left o)) (had g c)
    ∙ ap (λ t. with_value t.table name (option_and_then left (map.get t.table name))) c.self.view_is

pub returns-clause-taken : goal.returns-clause-taken
returns-clause-taken g c =
    let name = components c.args.name ++ field_of c.args.component ∷ [] in
    c.take_at.ensures.taken ∙ ap (taken (g.T.Take.taken true) c.args.how.now) (had g c)
    ∙ ap (λ t. taken (g.T.Take.taken true) c.args.how.now (map.get t.table name)) c.self.view_is

pub take_at-requires-clause-has : goal.take_at-requires-clause-has
take_at-requires-clause-has g c =
    has_counts g.S.Tally.counts (get c.self.inside.nodes) c.self.inside.root c.self.invariant.0 (g.S.Tally.sum c.self.inside.tally) c.self.invariant.5 c.in-Some-child_of.k
