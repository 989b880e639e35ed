use Rattle.std.proofs.Common.{◌≡◌, length, sym, ap, ◌∙◌}
use Rattle.std.specs.FinMap.{len, len-entries}
use Rattle.pit_fib.specs.Tally.{earliest, stopped_sum, tallied}
use Rattle.pit_fib.proofs.tally.TallySeeEntry.see.Goals as goal

pub returns : goal.returns
returns c =
    let count : length c.rows-rows.result.now ≡ len c.entry.inside.registered = ap length c.rows-rows.ensures.rows ∙ sym (len-entries c.entry.inside.registered) in
    (λ i. record {
      count = (c.saturating_add-self.ensures ∙ ap (stopped_sum c.args.self.now.count) count) i;
      next_due = (c.earliest-self.ensures ∙ ap (earliest c.args.self.now.next_due) c.rows-rows.ensures.rows) i;
    })
    ∙ ap (tallied c.args.self.now) c.entry.view_is
