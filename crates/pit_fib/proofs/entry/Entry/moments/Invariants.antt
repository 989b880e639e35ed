use Rattle.std.proofs.Common.{◌≡◌, take}
use Rattle.pit_fib.proofs.Moments.{moments_in}
use Rattle.pit_fib.proofs.entry.Entry.moments.Given as goal

abbrev pub invariant-loop-row : goal.invariant-loop-row
invariant-loop-row l = l.moments ≡ moments_in (take l.row-index l.row-items)
