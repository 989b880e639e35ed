use Rattle.std.proofs.Common.{◌-◌, ◌<◌, get_or, length, sym, ap, ◌∙◌, arith}
use Rattle.slab.specs.Slab.{get}
use Rattle.ndn_names.specs.View.{components}
use Rattle.content_store.specs.Rows.{shown}
use Rattle.content_store.proofs.Shown.{all_below, length-shown, less_is, shown_at}
use Rattle.content_store.proofs.rows.is_above.Goals as goal

pub returns : goal.returns
returns c =
    λ t k d lt. let h = get c.args.entries.now in
    let order = c.args.order.now in
    let at = c.args.at - 1 in
    let some = c.if-at-eq0.false in
    let le = c.requires.within in
    let len = length-shown h order c.requires.rows.there in
    let within : at < length order = omega arith in
    all_below (components c.args.name) (shown h order) c.requires.rows.rising at (get_or order at 0, c.index.result.now) (omega arith)
    (λ e. shown_at h order at c.index.result.now c.requires.rows.there within (ap h (sym c.get.ensures) ∙ c.index.ensures) e) (less_is _ (sym c.is_below.ensures ∙ t)) k d (omega arith)
