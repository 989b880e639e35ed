use Rattle.std.proofs.Common.{◌≡◌, List, length, insert, ap, sym, subst, ◌∙◌, arith}
use Rattle.slab.specs.Slab.{get}
use Rattle.content_store.specs.Blocks.{Follows}
use Rattle.content_store.specs.declared.blocks.Change.TheVariants.{Added}
use Rattle.content_store.specs.Rows.{Placed, shown, Rising, IsRows}
use Rattle.content_store.proofs.Shown.{length-shown, valid_shown}
use Rattle.content_store.proofs.Edits.{inserted, vacant, lookup_vacant}
use Rattle.std.specs.Prelude.{nat_eq}
use Rattle.std.specs.Map.{lookup}
use Rattle.content_store.proofs.rows.Rows.insert.Goals as goal
use Rattle.content_store.proofs.rows.Rows.insert.Goals.{In-Ok}

pub insert-requires-clause-within : goal.insert-requires-clause-within
insert-requires-clause-within c =
    let le = c.requires.within in
    let len = length-shown (get c.self.inside.entries) c.self.inside.order c.self.invariant.0.there in
    omega (arith, ap length c.self.view_is)

pub insert-requires-clause-short : goal.insert-requires-clause-short
insert-requires-clause-short c =
    let lt = c.requires.short in
    let len = length-shown (get c.self.inside.entries) c.self.inside.order c.self.invariant.0.there in
    omega (arith, ap length c.self.view_is)

-- after the row is inserted into the slab, and its slab index into the list, the list shows this
-- row at position `at`
whole : (c : In-Ok) → (shown (get c.hold.new.entries) c.insert.new.self ≡ insert (shown (get c.self.inside.entries) c.self.inside.order) c.args.at (c.in_ok-place.place, c.args.row))
    × IsRows (get c.hold.new.entries) c.insert.new.self
whole c =
    inserted (get c.self.inside.entries) (get c.hold.new.entries) c.self.inside.order c.insert.new.self c.args.at c.in_ok-place.place c.args.row c.self.invariant.0
    c.in_ok-place.ensures.vacant c.in_ok-place.ensures.held c.in_ok-place.ensures.others c.in-Ok.ensures.ok
    (subst (λ (rows : List Placed). Rising (insert rows c.args.at (c.in_ok-place.place, c.args.row))) (sym c.self.view_is) (c.requires.fits c.in_ok-place.place))

pub add_row-requires : goal.add_row-requires
add_row-requires c = (whole (goal.at.add_row-requires c).In-Ok).1

pub invariant_of-self-in-Ok : goal.invariant_of-self-in-Ok
invariant_of-self-in-Ok c =
    let b = (goal.at.invariant_of-self-in-Ok c).In-Ok in
    let le = c.requires.within in
    let rows = shown (get c.self.inside.entries) c.self.inside.order in
    let follows : Follows (Added c.args.at c.fresh_until-until.result) rows (shown (get c.hold.new.entries) c.insert.new.self) = (
      (c.in_ok-place.place, c.args.row),
      omega (arith, ap length c.self.view_is),
      omega arith,
      (whole b).0,
    ) in (
      (whole b).1,
      c.add_row.ensures rows follows c.self.invariant.1,
    )

pub returns-in-Ok-clause-ok : goal.returns-in-Ok-clause-ok
returns-in-Ok-clause-ok c =
    let b = (goal.at.returns-in-Ok-clause-ok c).In-Ok in (
      ap (λ (rows : List Placed). lookup (nat_eq c.in_ok-place.place) rows) (sym c.self.view_is)
          ∙ lookup_vacant (get c.self.inside.entries) c.self.inside.order c.in_ok-place.place
          (vacant (get c.self.inside.entries) c.self.inside.order c.in_ok-place.place c.self.invariant.0.there c.in_ok-place.ensures.vacant),
      (whole b).0 ∙ ap (λ (rows : List Placed). insert rows c.args.at (c.in_ok-place.place, c.args.row)) c.self.view_is,
    )

pub returns-in-Ok-clause-valid : goal.returns-in-Ok-clause-valid
returns-in-Ok-clause-valid c =
    let b = (goal.at.returns-in-Ok-clause-valid c).In-Ok in
    valid_shown (get c.hold.new.entries) c.insert.new.self (whole b).1
