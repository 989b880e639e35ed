use Rattle.std.proofs.Common.{◌≡◌, drop}
use Rattle.strategies.specs.Eligible.{eligible}
use Rattle.strategies.specs.Selection.{least, is_staler}
use Rattle.strategies.proofs.best_route.stalest.Given as goal

abbrev pub invariant-loop-i : goal.invariant-loop-i
invariant-loop-i l = l.first ≡ least (is_staler l.used) (eligible l.ask (drop l.i l.hops))
