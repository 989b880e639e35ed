use Rattle.std.proofs.Common.{inl}
use Rattle.scenarios.proofs.Differences.{first_line-through, parts-through}
use Rattle.scenarios.proofs.differ.first_line.Goals as goal

pub returns-in-Some-clause-parts : goal.returns-in-Some-clause-parts
returns-in-Some-clause-parts c =
    parts-through _ _ c.in-Some.line.now c.in-Some.rest.now c.in-Some.ensures.found.0
    (first_line-through _ c.in-Some.line.now c.in-Some.rest.now c.in-Some.ensures.found.0)

pub returns-in-Some-clause-line : goal.returns-in-Some-clause-line
returns-in-Some-clause-line c =
    inl (c.in-Some.line.now, c.in-Some.ensures.found.1, first_line-through _ c.in-Some.line.now c.in-Some.rest.now c.in-Some.ensures.found.0)
