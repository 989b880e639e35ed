use Rattle.std.proofs.Common.{sym, ap, ◌∙◌}
use Rattle.pit_fib.specs.Kept.{Row, changed_row}
use Rattle.pit_fib.proofs.Rows.{no_slots, changed_none}
use Rattle.pit_fib.proofs.row.Row.revised.Goals as goal

pub returns-in_err-slots : goal.returns-in_err-slots
returns-in_err-slots g c =
    let after = g.R.Revision.after c.args.how.now in
    c.from_residual.ensures
    ∙ sym (ap (λ (m : Row). changed_row after m) (no_slots c.self.inside.slots c.args.self c.self.view_is c.in_err-slots.was) ∙ changed_none after)
