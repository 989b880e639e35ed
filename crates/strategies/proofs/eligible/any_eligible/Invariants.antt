use Rattle.std.proofs.Common.{◌≡◌, drop}
use Rattle.std.specs.List.{list_any}
use Rattle.strategies.specs.Eligible.{is_eligible}
use Rattle.strategies.proofs.eligible.any_eligible.Given as goal

abbrev pub invariant-loop-i : goal.invariant-loop-i
invariant-loop-i l = list_any (is_eligible l.ask) l.hops ≡ list_any (is_eligible l.ask) (drop l.i l.hops)
