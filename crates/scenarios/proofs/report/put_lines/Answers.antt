use Rattle.std.proofs.Common.{arith}
use Rattle.scenarios.proofs.Reports.{State-next, counted_as}
use Rattle.scenarios.proofs.report.put_lines.Goals as goal
use Rattle.scenarios.proofs.report.put_lines.Goals.{then-is_passed, else-is_passed}

pub loop-scenario-preserved : goal.loop-scenario-preserved
loop-scenario-preserved c =
    let ok = c.in-Ok.is_passed in
    elim c.if-is_passed.branch [
      | then-is_passed w ↦ State-next _ c.loop-scenario.scenario-index _ _ _ _ _ _ _ _ ok c.loop-scenario-test.true c.scenario-item.is c.loop-scenario.invariant c.in-Ok.ensures
          (counted_as ok _ _ _ 1 0 w.if-is_passed.true w.passed-is)
          (counted_as ok _ _ _ 0 1 w.if-is_passed.true (omega (arith, w.differ-is)))
      | else-is_passed w ↦ State-next _ c.loop-scenario.scenario-index _ _ _ _ _ _ _ _ ok c.loop-scenario-test.true c.scenario-item.is c.loop-scenario.invariant c.in-Ok.ensures
          (counted_as ok _ _ _ 1 0 w.if-is_passed.false (omega (arith, w.passed-is)))
          (counted_as ok _ _ _ 0 1 w.if-is_passed.false w.differ-is)
    ]
