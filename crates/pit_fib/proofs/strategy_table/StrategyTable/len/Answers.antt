use Rattle.std.proofs.Common.{sym, ap, ◌∙◌, ◌+◌, arith}
use Rattle.std.specs.FinMap.{len}
use Rattle.pit_fib.proofs.RootChoice.{len_with_root}
use Rattle.pit_fib.proofs.strategy_table.StrategyTable.len.Goals as goal

pub overflow_add-result : goal.overflow_add-result
overflow_add-result c =
    let all = len_with_root c.self.inside.others.table c.self.inside.root c.self.invariant.0 in
    let most = c.self.invariant.1.bounded in
    let count = c.len.ensures in
    omega (arith, all, most, count)

pub returns-clause-exact : goal.returns-clause-exact
returns-clause-exact c =
    ap (λ n. n + 1) c.len.ensures ∙ sym (len_with_root c.self.inside.others.table c.self.inside.root c.self.invariant.0)
    ∙ ap (λ t. len t.table) c.self.view_is
