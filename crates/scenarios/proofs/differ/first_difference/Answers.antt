use Rattle.std.proofs.Common.{◌∙◌, sym, arith}
use Rattle.scenarios.proofs.Differences.{BeginAlike-start, BeginAlike-line, Differ-at_lines, Differ-at_end, equal_lines, unequal_lines, unequal}
use Rattle.scenarios.proofs.differ.first_difference.Goals as goal

pub loop-left-init : goal.loop-left-init
loop-left-init c = BeginAlike-start _ _

pub loop-left-preserved : goal.loop-left-preserved
loop-left-preserved c =
    BeginAlike-line _ _ c.loop-left.left.now c.loop-left.right.now c.first_line.result.0.now c.first_line-in-loop-left.result.0.now _ _
    c.loop-left.invariant c.first_line.ensures.parts c.first_line-in-loop-left.ensures.parts
    c.first_line.ensures.line c.first_line-in-loop-left.ensures.line
    (equal_lines _ _ (sym c.ne.ensures ∙ c.if-ne.false))

pub returns-then-ne-clause-different : goal.returns-then-ne-clause-different
returns-then-ne-clause-different c =
    Differ-at_lines _ _ c.loop-left.left.now c.loop-left.right.now c.first_line.result.0.now c.first_line-in-loop-left.result.0.now _ _
    c.loop-left.invariant (unequal _ _ _ c.eq.ensures c.if-eq.false)
    c.first_line.ensures.parts c.first_line-in-loop-left.ensures.parts
    c.first_line.ensures.line c.first_line-in-loop-left.ensures.line
    (unequal_lines _ _ (sym c.ne.ensures ∙ c.if-ne.true))

pub returns-clause-different : goal.returns-clause-different
returns-clause-different c =
    Differ-at_end _ _ c.loop-left.left.now c.loop-left.right.now _ c.first_line-2.result.1.now
    c.loop-left.invariant (grind (arith, c.is_empty.ensures, c.loop-left-test.false))
    (unequal _ _ _ c.eq.ensures c.if-eq.false)
    c.first_line-2.ensures.parts c.first_line-2.ensures.line c.first_line-2.ensures.progress
