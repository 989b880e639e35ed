use Rattle.std.proofs.Common.{◌≡◌, ◌≤◌, ℕ, inl, inr, true, false, [], ◌∷◌, ◌++◌, ap, sym, ◌∙◌, arith}
use Rattle.std.specs.Prelude.{None, Some}
use Rattle.std.specs.Option.{option_and_then, option_map}
use Rattle.std.specs.FinMap as map
use Rattle.slab.specs.Slab.{get}
use Rattle.ndn_tlv.specs.Element.{Field}
use Rattle.ndn_names.specs.View.{components}
use Rattle.name_trie.specs.Trie.{value, down, walk, lookup}
use Rattle.name_trie.specs.Taken.{taken_along, changed_along}
use Rattle.name_trie.proofs.Along.{taken_same}
use Rattle.name_trie.proofs.Walks.{get-table, get_changed, get_nothing}
use Rattle.name_trie.proofs.Changed.{held_still, walk-append}
use Rattle.name_trie.proofs.Rings.{same_timers, still_room}
use Rattle.name_trie.proofs.Totals.{counted_same}
use Rattle.name_trie.proofs.timed_map.TimedMap.take_along.Given as given
use Rattle.name_trie.proofs.timed_map.TimedMap.take_along.Goals as goal
use Rattle.name_trie.proofs.timed_map.TimedMap.take_along.Goals.{then-end, else-end}

pub returns-in_default-clause-changed : goal.returns-in_default-clause-changed
returns-in_default-clause-changed g c = λ q.
    let f = changed_along (g.T.Take.left true) (g.T.Take.left false) q (components c.args.name) in
    get_changed (get c.self.inside.nodes) (get c.take_along.new.nodes) c.self.inside.root c.self.inside.root f q (c.take_along.ensures.changed q)
    ∙ ap (λ t. option_and_then f (map.get t.table q)) c.self.view_is

pub returns-in_default-clause-taken : goal.returns-in_default-clause-taken
returns-in_default-clause-taken g c =
    let h = get c.self.inside.nodes in
    let root = c.self.inside.root in
    c.take_along.ensures.taken
    ∙ taken_same (g.T.Take.taken true) (g.T.Take.taken false) c.args.how.now (lookup h root) _ [] (components c.args.name) 64 (λ q le. sym (get-table h root q le)) (omega (arith, c.args.name.spelled.1.0))
    ∙ ap (λ t. taken_along (g.T.Take.taken true) (g.T.Take.taken false) c.args.how.now (map.get t.table) [] (components c.args.name)) c.self.view_is

pub returns-in_default-clause-below : goal.returns-in_default-clause-below
returns-in_default-clause-below g c = λ _ x _.
    let h1 = get c.take_along.new.nodes in
    let root = c.self.inside.root in
    let name = components c.args.name in
    get_nothing h1 root (name ++ x ∷ [])
    (ap (option_and_then (value h1)) (walk-append h1 root name (x ∷ []) ∙ ap (λ o. down h1 o x) c.in_default.ensures.short))

pub invariant_of-self-2 : goal.invariant_of-self-2
invariant_of-self-2 g c =
    let h = get c.self.inside.nodes in
    let h1 = get c.take_along.new.nodes in
    let h2 = get c.prune.new.nodes in
    let root = c.self.inside.root in (
      c.prune.ensures.sound,
      held_still h h2 root c.prune.new.root c.held_node-kept.result c.self.inside.held c.held_node-kept.ensures
          (λ q some at. c.prune.ensures.kept q some (c.take_along.ensures.walks q ∙ at)) c.self.invariant.1,
      (λ j b. elim (c.prune.ensures.tidy j b) as (λ _. option_map (λ p. p.1) c.self.inside.held ≡ Some j) [
        | (inl is) ↦ sym c.held_node-kept.ensures ∙ is
        | (inr was) ↦ elim (c.in-Some.ensures.tidy j was.1) as (λ _. option_map (λ p. p.1) c.self.inside.held ≡ Some j) [
          | (inl old) ↦ c.self.invariant.2 j old
          | (inr at) ↦ absurd (was.0 (same_some j c.in-Some.end.at (sym at)))
        ]
      ]),
      same_timers g.V.Timed.timer h1 h2 c.take_along.new.timers.timers c.prune.ensures.values c.take_along.ensures.timed,
      still_room c.self.inside.is_ready c.self.inside.timers c.take_along.new.timers c.take_along.ensures.few c.take_along.ensures.capacity c.self.invariant.4,
      counted_same g.S.Tally.counts h1 h2 root c.prune.new.root (g.S.Tally.sum c.take_along.new.tally) c.prune.ensures.same c.take_along.ensures.counted,
    )
  where
    same_some : (a b : ℕ) → Some a ≡ Some b → a ≡ b
    same_some a b e = cc

pub returns-clause-changed : goal.returns-clause-changed
returns-clause-changed g c = λ q.
    let f = changed_along (g.T.Take.left true) (g.T.Take.left false) q (components c.args.name) in
    get_changed (get c.self.inside.nodes) (get c.prune.new.nodes) c.self.inside.root c.prune.new.root f q (c.prune.ensures.same q ∙ c.take_along.ensures.changed q)
    ∙ ap (λ t. option_and_then f (map.get t.table q)) c.self.view_is

pub returns-clause-taken : goal.returns-clause-taken
returns-clause-taken g c =
    let h = get c.self.inside.nodes in
    let root = c.self.inside.root in
    c.take_along.ensures.taken
    ∙ taken_same (g.T.Take.taken true) (g.T.Take.taken false) c.args.how.now (lookup h root) _ [] (components c.args.name) 64 (λ q le. sym (get-table h root q le)) (omega (arith, c.args.name.spelled.1.0))
    ∙ ap (λ t. taken_along (g.T.Take.taken true) (g.T.Take.taken false) c.args.how.now (map.get t.table) [] (components c.args.name)) c.self.view_is

-- the node of the name, if there is one, has no child whose component has a type number of at most
-- `kind`
no_child : (g : given.Over) (c : goal.After-prune g) → c.if-end.below ≡ false → (x : Field) → x.0 ≤ c.args.kind
    → down (get c.take_along.new.nodes) (walk (get c.take_along.new.nodes) c.self.inside.root (components c.args.name)) x ≡ None
no_child g c none x le =
    let h1 = get c.take_along.new.nodes in
    elim c.if-end.branch as (λ _. down h1 (walk h1 c.self.inside.root (components c.args.name)) x ≡ None) [
      | (then-end w) ↦ ap (λ o. down h1 o x) (c.in-Some.ensures.whole w.if-end.true) ∙ w.has_child_up_to-below.ensures.no (sym w.below-is ∙ none) x le
      | (else-end w) ↦ ap (λ o. down h1 o x) (c.in-Some.ensures.short w.if-end.false)
    ]

pub returns-clause-below : goal.returns-clause-below
returns-clause-below g c = λ none x le.
    let h1 = get c.take_along.new.nodes in
    let root = c.self.inside.root in
    let q = components c.args.name ++ x ∷ [] in
    get_nothing (get c.prune.new.nodes) c.prune.new.root q
    (c.prune.ensures.same q ∙ ap (option_and_then (value h1)) (walk-append h1 root (components c.args.name) (x ∷ []) ∙ no_child g c none x le))
