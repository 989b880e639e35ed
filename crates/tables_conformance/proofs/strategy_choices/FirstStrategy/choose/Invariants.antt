use Rattle.std.proofs.Common.{◌≡◌, drop, take}
use Rattle.strategies.specs.Eligible.{eligible}
use Rattle.strategies.specs.Choice.{faces_of}
use Rattle.tables_conformance.proofs.strategy_choices.FirstStrategy.choose.Given as goal

abbrev pub invariant-loop-i : goal.invariant-loop-i
invariant-loop-i l = l.faces ≡ faces_of (take 1 (eligible l.ask (drop l.i l.hops)))
