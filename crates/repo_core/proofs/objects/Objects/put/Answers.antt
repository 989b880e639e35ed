use Rattle.std.proofs.Common.{◌≡◌, set, ap, sym, ◌∙◌}
use Rattle.std.specs.Prelude.{◌↔◌, IsTrue}
use Rattle.std.specs.FinMap as map
use Rattle.std.specs.FinMap.{put}
use Rattle.ndn_names.specs.Order.{name_cmp}
use Rattle.ndn_names.specs.Key.{name_cmp-total, name_cmp-antisymmetric}
use Rattle.repo_core.specs.Room.{IsPlace, HasAt}
use Rattle.ndn_names.proofs.Rows.{sorted_put, from_put}
use Rattle.repo_core.proofs.Places.{put_there, put_new}
use Rattle.repo_core.proofs.objects.Objects.put.Goals as goal
use Rattle.repo_core.proofs.objects.Objects.put.Goals.{After-has_at, After-drop-index_mut, After-insert_row}

place : (c : After-has_at) → IsPlace name_cmp c.args.object.0 c.self.inside.rows.items c.place_of-at.result
place c = (rw c.deref.ensures.value at c.place_of-at.ensures) c.args.object.0 c.full_name.ensures

there : (c : After-has_at) → IsTrue c.has_at.result ↔ HasAt c.args.object.0 c.self.inside.rows.items c.place_of-at.result
there c = (rw c.deref-2.ensures.value at c.has_at.ensures) c.args.object.0 c.full_name-2.ensures

replaced : (c : After-drop-index_mut) → set c.self.inside.rows.items c.place_of-at.result c.args.object ≡ put name_cmp c.args.object.0 c.args.object.1 c.self.inside.rows.items
replaced c =
    let before = (goal.at.invariant_of-self c).After-has_at in
    sym (put_there name_cmp-total name_cmp-antisymmetric c.args.object.0 c.self.inside.rows.items c.place_of-at.result (place before) ((there before).0 c.if-has_at.true) c.args.object.1)

added : (c : After-insert_row) → c.insert_row.new.rows.items ≡ put name_cmp c.args.object.0 c.args.object.1 c.self.inside.rows.items
added c =
    let before = (goal.at.invariant_of-self-else-has_at c).After-has_at in
    c.insert_row.ensures.items
    ∙ sym (put_new name_cmp-total name_cmp-antisymmetric c.args.object.0 c.self.inside.rows.items c.place_of-at.result (place before) (λ has. let yes = (there before).1 has in let never = c.if-has_at.false in cc) c.args.object.1)

pub invariant_of-self : goal.invariant_of-self
invariant_of-self c = sorted_put name_cmp-total c.self.inside.rows.items _ c.self.invariant c.args.object.0 c.args.object.1 (replaced c)

pub returns-then-has_at : goal.returns-then-has_at
returns-then-has_at c =
    from_put name_cmp-total c.self.inside.rows.items _ c.self.invariant c.args.object.0 c.args.object.1 (replaced c)
    ∙ ap (λ s. map.insert s.table c.args.object.0 c.args.object.1) c.self.view_is

pub invariant_of-self-else-has_at : goal.invariant_of-self-else-has_at
invariant_of-self-else-has_at c = sorted_put name_cmp-total c.self.inside.rows.items c.insert_row.new.rows.items c.self.invariant c.args.object.0 c.args.object.1 (added c)

pub returns-else-has_at : goal.returns-else-has_at
returns-else-has_at c =
    from_put name_cmp-total c.self.inside.rows.items c.insert_row.new.rows.items c.self.invariant c.args.object.0 c.args.object.1 (added c)
    ∙ ap (λ s. map.insert s.table c.args.object.0 c.args.object.1) c.self.view_is
