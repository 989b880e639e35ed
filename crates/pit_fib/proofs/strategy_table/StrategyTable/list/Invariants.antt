use Rattle.std.proofs.Common.{◌≡◌, ◌++◌}
use Rattle.std.specs.Prelude.{map}
use Rattle.pit_fib.proofs.strategy_table.StrategyTable.list.Given as goal

abbrev pub invariant-loop-name : goal.invariant-loop-name
invariant-loop-name l = l.list.items ≡ l.initial.list.items ++ map (λ r. (r.0, r.1.now)) l.yielded
