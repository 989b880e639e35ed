use Rattle.std.proofs.Common.{rules, true, false, sym, ◌∙◌}
use Rattle.strategies.specs.Eligible.{is_eligible}
use Rattle.strategies.proofs.Places.{any_here, any_past}
use Rattle.strategies.proofs.eligible.any_eligible.Goals as goal
use Rattle.strategies.proofs.eligible.any_eligible.Goals.{in_default-via-in-None-1, in_default-via-in-Some+else-is_eligible}

pub returns-in-loop-i : goal.returns-in-loop-i
returns-in-loop-i c =
    let found = any_here (is_eligible c.args.ask) c.args.hops.now c.loop-i.i c.in-Some.hop true (sym c.in-Some.ensures) (sym c.is_eligible.ensures ∙ c.if-is_eligible.true) in
    sym (c.loop-i.invariant ∙ found)

pub loop-i-preserved : goal.loop-i-preserved
loop-i-preserved c =
    let test = is_eligible c.args.ask in
    elim c.in_default.branch [
      | in_default-via-in-None-1 w ↦ c.loop-i.invariant ∙ any_past test c.args.hops.now c.loop-i.i (search rules)
      | in_default-via-in-Some+else-is_eligible w ↦
          c.loop-i.invariant ∙ any_here test c.args.hops.now c.loop-i.i w.in-Some.hop false (sym w.in-Some.ensures) (sym w.is_eligible.ensures ∙ w.if-is_eligible.false)
    ]
