use Rattle.std.proofs.Common.{◌≡◌, ◌<◌, length, get_or, ap, ◌∙◌, arith}
use Rattle.std.specs.Prelude.{nat_eq}
use Rattle.std.specs.Map.{remove_entry}
use Rattle.slab.specs.Slab.{get}
use Rattle.content_store.specs.Rows.{shown, IsRows}
use Rattle.content_store.proofs.Shown.{length-shown, valid_shown}
use Rattle.content_store.proofs.Bounds.{one_removed}
use Rattle.content_store.proofs.Edits.{forgotten}
use Rattle.std.specs.List.{remove}
use Rattle.content_store.proofs.rows.Rows.forget.Goals as goal
use Rattle.content_store.proofs.rows.Rows.forget.Goals.{After-remove-row}

pub index_of-at-requires-clause-short : goal.index_of-at-requires-clause-short
index_of-at-requires-clause-short c =
    let lt = c.requires.short in
    let len = length-shown (get c.self.inside.entries) c.self.inside.order c.self.invariant.0.there in
    omega (arith, ap length c.self.view_is)

whole : (c : After-remove-row) → c.index_of-at.result < length (shown (get c.self.inside.entries) c.self.inside.order)
    × (shown (get c.remove-row.new.self) c.remove.new.self ≡ remove_entry (nat_eq c.args.place) (shown (get c.self.inside.entries) c.self.inside.order))
    × IsRows (get c.remove-row.new.self) c.remove.new.self
    × (shown (get c.remove-row.new.self) c.remove.new.self ≡ remove (shown (get c.self.inside.entries) c.self.inside.order) c.index_of-at.result)
whole c =
    let order = c.self.inside.order in
    let within : c.index_of-at.result < length order = c.index_of-at.ensures.within in
    let found : get_or order c.index_of-at.result 0 ≡ c.args.place = c.index_of-at.ensures.found in
    let all = forgotten (get c.self.inside.entries) (get c.remove-row.new.self) order c.remove.new.self c.index_of-at.result c.args.place c.self.invariant.0 within found
    c.remove-row.ensures.updates.others c.remove.ensures in
    let len = length-shown (get c.self.inside.entries) order c.self.invariant.0.there in
    (omega arith, all.0, all.1, all.2)

pub invariant_of-self : goal.invariant_of-self
invariant_of-self c =
    let w = whole (goal.at.invariant_of-self c).After-remove-row in
    let rows = shown (get c.self.inside.entries) c.self.inside.order in
    let rows' = shown (get c.remove-row.new.self) c.remove.new.self in (
      w.2,
      c.remove_row.ensures rows (one_removed rows rows' c.index_of-at.result w.0 w.3) c.self.invariant.1,
    )

pub remove_row-requires-clause-rows : goal.remove_row-requires-clause-rows
remove_row-requires-clause-rows c =
    (whole (goal.at.remove_row-requires-clause-rows c).After-remove-row).2

pub remove_row-requires-clause-room : goal.remove_row-requires-clause-room
remove_row-requires-clause-room c =
    let w = whole (goal.at.remove_row-requires-clause-room c).After-remove-row in
    let short = c.requires.short in
    omega (arith, w.0, ap length c.self.view_is)

pub returns-clause-rows : goal.returns-clause-rows
returns-clause-rows c = (whole (goal.at.returns-clause-rows c).After-remove-row).1 ∙ ap (remove_entry (nat_eq c.args.place)) c.self.view_is

pub returns-clause-valid : goal.returns-clause-valid
returns-clause-valid c = valid_shown (get c.remove-row.new.self) c.remove.new.self (whole (goal.at.returns-clause-valid c).After-remove-row).2
