use Rattle.std.proofs.Common.{◌<◌, ◌≤◌, take, length, subst, ap, sym, ◌∙◌}
use Rattle.std.specs.Ordering.{nat_cmp}
use Rattle.std.specs.FinMap as map
use Rattle.pit_fib.specs.Kept.{Kept}
use Rattle.pit_fib.specs.Pit.{moments}
use Rattle.ndn_names.proofs.Rows.{from_none}
use Rattle.pit_fib.proofs.Moments.{Row, set_here, few_so_far, moments_more, moments_all, moments_in}
use Rattle.pit_fib.proofs.entry.Entry.moments.Goals as goal

pub loop-row-init : goal.loop-row-init
loop-row-init c = c.new-moments.ensures ∙ sym (from_none nat_cmp)

pub loop-row-preserved : goal.loop-row-preserved
loop-row-preserved c =
    let rows = c.rows-row-items.result.now in
    let sorted = c.rows-row-items.ensures.sorted in
    let at = c.loop-row.row-index in
    let row = c.row-item.result in
    let few = few_so_far rows sorted at row c.loop-row-test.true c.row-item.is c.rows-row-items.ensures.small in
    set_here c.insert.result c.loop-row.moments c.insert.new.self row.0 row.1.moment
    (λ t. c.insert.ensures.ok t ∙ ap (λ (r : Row). map.insert c.loop-row.moments r.0 r.1.moment) c.row.view_is)
    (λ t. (c.insert.ensures.full t).2) (subst (λ m. map.len m < 64) (sym c.loop-row.invariant) few)
    ∙ ap (λ m. map.insert m row.0 row.1.moment) c.loop-row.invariant
    ∙ moments_more rows sorted at row c.loop-row-test.true c.row-item.is

pub returns : goal.returns
returns c =
    let is = c.rows-row-items.ensures.rows in
    c.loop-row.invariant ∙ ap (λ l. moments_in (take c.loop-row.row-index l)) is
    ∙ moments_all c.self.inside.out_records.values c.loop-row.row-index (subst (λ l. length l ≤ c.loop-row.row-index) is c.loop-row-test.false)
    ∙ ap (λ (s : Kept). moments s.records.out_records) c.self.view_is
