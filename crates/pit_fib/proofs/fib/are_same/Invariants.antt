use Rattle.std.proofs.Common.{take}
use Rattle.pit_fib.specs.SameEntries.{AreSame}
use Rattle.pit_fib.proofs.fib.are_same.Given as goal

abbrev pub invariant-loop-at : goal.invariant-loop-at
invariant-loop-at l = AreSame (take l.at l.entries) (take l.at l.others)
