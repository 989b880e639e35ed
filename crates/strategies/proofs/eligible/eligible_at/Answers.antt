use Rattle.std.proofs.Common.{true, false, sym, ◌∙◌}
use Rattle.strategies.specs.Eligible.{is_eligible}
use Rattle.strategies.proofs.Places.{filter_here, filter_past}
use Rattle.strategies.proofs.eligible.eligible_at.Goals as goal

pub returns-in-Some : goal.returns-in-Some
returns-in-Some c =
    filter_here (is_eligible c.args.ask) c.args.hops.now c.args.i c.in-Some.hop true (sym c.in-Some.ensures) (sym c.is_eligible.ensures ∙ c.if-is_eligible.true)

pub returns-in_default : goal.returns-in_default
returns-in_default c =
    filter_here (is_eligible c.args.ask) c.args.hops.now c.args.i c.in-Some.hop false (sym c.in-Some.ensures) (sym c.is_eligible.ensures ∙ c.if-is_eligible.false)

pub returns-in_default-2 : goal.returns-in_default-2
returns-in_default-2 c = filter_past (is_eligible c.args.ask) c.args.hops.now c.args.i (sym c.in_default.ensures)
