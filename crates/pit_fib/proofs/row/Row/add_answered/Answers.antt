use Rattle.std.proofs.Common.{sym, ap, ◌∙◌}
use Rattle.pit_fib.specs.Kept.{Row, with_answered}
use Rattle.pit_fib.proofs.Rows.{no_slots, answered_none}
use Rattle.pit_fib.proofs.row.Row.add_answered.Goals as goal

pub returns-in_default : goal.returns-in_default
returns-in_default c =
    sym (ap (λ (m : Row). with_answered c.args.is_own c.args.faces.now m) (no_slots c.self.inside.slots c.args.self.now c.self.view_is c.in_default.is)
    ∙ answered_none c.args.is_own c.args.faces.now)
