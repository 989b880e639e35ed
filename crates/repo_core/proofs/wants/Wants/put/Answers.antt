use Rattle.std.proofs.Common.{◌≡◌, ◌<◌, false, length, vec_len, set, ap, sym, ◌∙◌, arith, inl, inr, rules}
use Rattle.std.specs.Prelude.{◌↔◌, IsTrue, vec_capacity, is_some}
use Rattle.std.specs.FinMap as map
use Rattle.std.specs.FinMap.{put, len, contains_key, get-from_sorted}
use Rattle.repo_core.specs.Room.{IsPlace, HasAt}
use Rattle.repo_core.specs.Wants.{WantKey, want_cmp, want_cmp-total, want_cmp-antisymmetric}
use Rattle.ndn_names.proofs.Rows.{sorted_put, from_put, len-from_sorted}
use Rattle.repo_core.proofs.Places.{put_there, put_new, find_new}
use Rattle.repo_core.proofs.wants.Wants.put.Goals as goal
use Rattle.repo_core.proofs.wants.Wants.put.Goals.{After-has_at, After-drop-name-inside, After-insert_row}

place : (c : After-has_at) → IsPlace want_cmp (c.args.name, c.args.can_be_prefix) c.self.inside.rows.items c.place_of-at.result
place c = rw (c.deref.ensures.value, c.view.ensures) at c.place_of-at.ensures

there : (c : After-has_at) → IsTrue c.has_at.result ↔ HasAt {K = WantKey} (c.args.name, c.args.can_be_prefix) c.self.inside.rows.items c.place_of-at.result
there c = rw (c.deref-2.ensures.value, c.view-2.ensures) at c.has_at.ensures

written : (c : After-drop-name-inside) → set c.self.inside.rows.items c.place_of-at.result (c.index_mut.result.now.0, c.args.deadline) ≡ put want_cmp (c.args.name, c.args.can_be_prefix) c.args.deadline c.self.inside.rows.items
written c =
    let before = (goal.at.invariant_of-self c).After-has_at in
    let key : WantKey = (c.args.name, c.args.can_be_prefix) in
    let has = (there before).0 c.if-has_at.true in
    ap (λ k. set c.self.inside.rows.items c.place_of-at.result (k, c.args.deadline)) (has.1 c.index_mut.result.now c.index_mut.ensures.value)
    ∙ sym (put_there want_cmp-total want_cmp-antisymmetric key c.self.inside.rows.items c.place_of-at.result (place before) has c.args.deadline)

room : (c : After-has_at) → c.has_at.result ≡ false → vec_len c.self.inside.rows < vec_capacity c.self.inside.rows
room c other =
    let rows = c.self.inside.rows in
    let key : WantKey = (c.args.name, c.args.can_be_prefix) in
    let count : vec_len rows ≡ length rows.items = search rules in
    let absent = find_new want_cmp-total want_cmp-antisymmetric key rows.items c.place_of-at.result (place c) c.self.invariant.0 (λ has. let yes = (there c).1 has in cc) in
    let shown = ap (λ t. contains_key t key) (sym c.self.view_is) ∙ ap is_some (get-from_sorted want_cmp rows.items key c.self.invariant.0) ∙ absent in
    elim c.requires [
      | inl known ↦ absurd (let never = shown in cc)
      | inr few ↦ let all : len c.args.self.now ≡ length rows.items = ap len (sym c.self.view_is) ∙ len-from_sorted want_cmp rows.items c.self.invariant.0 in omega (arith, all, few, count, c.self.invariant.1)
    ]

added : (c : After-insert_row) → c.insert_row.new.rows.items ≡ put want_cmp (c.args.name, c.args.can_be_prefix) c.args.deadline c.self.inside.rows.items
added c =
    let before = (goal.at.invariant_of-self-else-has_at c).After-has_at in
    let key : WantKey = (c.args.name, c.args.can_be_prefix) in
    c.insert_row.ensures.items
    ∙ sym (put_new want_cmp-total want_cmp-antisymmetric key c.self.inside.rows.items c.place_of-at.result (place before) (λ has. let yes = (there before).1 has in let never = c.if-has_at.false in cc) c.args.deadline)

pub invariant_of-self : goal.invariant_of-self
invariant_of-self c = (sorted_put want_cmp-total c.self.inside.rows.items _ c.self.invariant.0 (c.args.name, c.args.can_be_prefix) c.args.deadline (written c), c.self.invariant.1)

pub returns-then-has_at : goal.returns-then-has_at
returns-then-has_at c =
    from_put want_cmp-total c.self.inside.rows.items _ c.self.invariant.0 (c.args.name, c.args.can_be_prefix) c.args.deadline (written c)
    ∙ ap (λ t. map.insert t (c.args.name, c.args.can_be_prefix) c.args.deadline) c.self.view_is

pub insert_row-requires-clause-room : goal.insert_row-requires-clause-room
insert_row-requires-clause-room c = room (goal.at.insert_row-requires-clause-room c).After-has_at c.if-has_at.false

pub invariant_of-self-else-has_at : goal.invariant_of-self-else-has_at
invariant_of-self-else-has_at c = (
  sorted_put want_cmp-total c.self.inside.rows.items c.insert_row.new.rows.items c.self.invariant.0 (c.args.name, c.args.can_be_prefix) c.args.deadline (added c),
  omega (arith, c.self.invariant.1, c.insert_row.ensures.capacity),
)

pub returns-else-has_at : goal.returns-else-has_at
returns-else-has_at c =
    from_put want_cmp-total c.self.inside.rows.items c.insert_row.new.rows.items c.self.invariant.0 (c.args.name, c.args.can_be_prefix) c.args.deadline (added c)
    ∙ ap (λ t. map.insert t (c.args.name, c.args.can_be_prefix) c.args.deadline) c.self.view_is
