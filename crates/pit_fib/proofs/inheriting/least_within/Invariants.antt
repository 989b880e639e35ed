use Rattle.std.proofs.Common.{◌≡◌, take}
use Rattle.pit_fib.specs.Inheriting.{least_within}
use Rattle.pit_fib.proofs.inheriting.least_within.Given as goal

abbrev pub invariant-loop-row : goal.invariant-loop-row
invariant-loop-row l = l.costs ≡ least_within l.at l.below (take l.row-index l.rows)
