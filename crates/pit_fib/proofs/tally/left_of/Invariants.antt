use Rattle.std.proofs.Common.{◌≡◌, ◌≤◌, take}
use Rattle.pit_fib.specs.Tally.{left_of}
use Rattle.pit_fib.proofs.tally.left_of.Given as goal

abbrev pub invariant-loop-row : goal.invariant-loop-row
invariant-loop-row l = (l.left ≡ left_of l.now (take l.row-index l.rows)) × (l.left ≤ l.row-index)
