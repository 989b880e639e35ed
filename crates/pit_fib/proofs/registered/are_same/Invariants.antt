use Rattle.std.proofs.Common.{◌≡◌, take}
use Rattle.pit_fib.proofs.registered.are_same.Given as goal

abbrev pub invariant-loop-at : goal.invariant-loop-at
invariant-loop-at l = take l.at l.rows ≡ take l.at l.others
