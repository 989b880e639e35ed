use Rattle.std.proofs.Common.{◌≡◌, drop}
use Rattle.std.specs.List.{list_any}
use Rattle.std.specs.FinMap.{entries}
use Rattle.strategies.specs.Selection.{is_recent}
use Rattle.strategies.proofs.best_route.any_recent.Given as goal

abbrev pub invariant-loop-i : goal.invariant-loop-i
invariant-loop-i l =
    list_any (λ e. is_recent l.now e.1) (entries l.used) ≡ list_any (λ e. is_recent l.now e.1) (drop l.i (entries l.used))
