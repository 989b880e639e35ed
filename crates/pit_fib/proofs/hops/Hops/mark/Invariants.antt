use Rattle.std.proofs.Common.{◌≡◌, ◌++◌, take, drop}
use Rattle.pit_fib.specs.Hops.{marked}
use Rattle.pit_fib.proofs.hops.Hops.mark.Given as goal

abbrev pub invariant-loop-hop : goal.invariant-loop-hop
invariant-loop-hop l = l.hop-items ≡ marked l.locals (take l.hop-index l.initial.hop-items) ++ drop l.hop-index l.initial.hop-items
