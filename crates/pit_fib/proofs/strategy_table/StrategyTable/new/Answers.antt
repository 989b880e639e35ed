use Rattle.std.proofs.Common.{inr, ap, [], ◌∙◌, sym, subst, arith}
use Rattle.std.specs.FinMap.{get, get-empty, len-empty, empty, insert}
use Rattle.ndn_names.specs.Order.{name_cmp}
use Rattle.pit_fib.specs.declared.strategy_table.StrategyId.{StrategyId}
use Rattle.pit_fib.specs.declared.strategy_table.StrategyId.TheVariants.{BestRoute}
use Rattle.pit_fib.specs.Limits.{IsWithinLimits}
use Rattle.pit_fib.specs.StrategyTable.{Choices}
use Rattle.pit_fib.proofs.Limits.{limits_empty, limits_insert}
use Rattle.pit_fib.proofs.strategy_table.StrategyTable.new.Goals as goal

pub invariant_of-result : goal.invariant_of-result
invariant_of-result c =
    let none = len-empty name_cmp StrategyId in (
      ap (λ t. get t []) c.new.ensures.table ∙ get-empty name_cmp [],
      subst (λ (t : Choices). IsWithinLimits (insert t [] BestRoute)) (sym c.new.ensures.table)
          (limits_insert empty limits_empty [] BestRoute (omega arith) (inr (omega (arith, none)))),
    )
