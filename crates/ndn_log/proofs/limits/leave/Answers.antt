use Rattle.std.proofs.Common.{sym, ◌∙◌}
use Rattle.ndn_log.proofs.Leaving.{leave_at, leave_none}
use Rattle.ndn_log.proofs.limits.leave.Goals as goal

pub returns-in-Some : goal.returns-in-Some
returns-in-Some c =
    let counted = c.saturating_add.ensures in
    rw counted (sym (leave_at c.args.face c.args.shown.now c.in-Some.place (record { face = 0; left = 0 }) (sym c.place_of.ensures ∙ c.in-Some.is)))

pub returns-in_default : goal.returns-in_default
returns-in_default c = sym (leave_none c.args.face c.args.shown.now (sym c.place_of.ensures ∙ c.in_default.is))
