use Rattle.std.proofs.Common.{◌≡◌, filter, drop}
use Rattle.pit_fib.specs.Hops.{is_before}
use Rattle.strategies.specs.Eligible.{eligible}
use Rattle.strategies.specs.Selection.{least, is_new}
use Rattle.strategies.proofs.best_route.least_new.Given as goal

abbrev pub invariant-loop-i : goal.invariant-loop-i
invariant-loop-i l = l.first ≡ least is_before (filter (is_new l.used) (eligible l.ask (drop l.i l.hops)))
