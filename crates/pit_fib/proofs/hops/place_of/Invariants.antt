use Rattle.std.proofs.Common.{take}
use Rattle.pit_fib.proofs.OrderedHops.{NoneAfter}
use Rattle.pit_fib.proofs.hops.place_of.Given as goal

abbrev pub invariant-loop-at : goal.invariant-loop-at
invariant-loop-at l = NoneAfter l.hop (take l.at l.hops)
