use Rattle.std.proofs.Common.{◌≡◌, take}
use Rattle.pit_fib.specs.Tally.{earliest}
use Rattle.pit_fib.proofs.tally.earliest.Given as goal

abbrev pub invariant-loop-row : goal.invariant-loop-row
invariant-loop-row l = l.least ≡ earliest l.moment (take l.row-index l.rows)
