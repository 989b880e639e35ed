use Rattle.std.proofs.Common.{[], ap, subst, sym, ◌∙◌}
use Rattle.std.specs.FinMap.{get, insert}
use Rattle.ndn_names.specs.View.{components}
use Rattle.pit_fib.specs.Limits.{IsWithinLimits}
use Rattle.pit_fib.specs.StrategyTable.{Choices, without_choice}
use Rattle.pit_fib.proofs.Limits.{limits_without}
use Rattle.pit_fib.proofs.RootChoice.{other_unset, unset_apart}
use Rattle.pit_fib.proofs.strategy_table.StrategyTable.unset.Goals as goal

pub invariant_of-self : goal.invariant_of-self
invariant_of-self c =
    let name = components c.args.name in (
      ap (λ t. get t []) c.remove.ensures.table ∙ unset_apart c.self.inside.others.table c.self.inside.root name c.self.invariant.0,
      subst (λ (t : Choices). IsWithinLimits t)
          (sym (ap (λ t. insert t [] c.self.inside.root) c.remove.ensures.table ∙ other_unset c.self.inside.others.table c.self.inside.root name))
          (limits_without (insert c.self.inside.others.table [] c.self.inside.root) c.self.invariant.1 name),
    )

pub returns-clause-table : goal.returns-clause-table
returns-clause-table c =
    ap (λ t. insert t [] c.self.inside.root) c.remove.ensures.table
    ∙ other_unset c.self.inside.others.table c.self.inside.root (components c.args.name)
    ∙ ap (λ t. without_choice t.table (components c.args.name)) c.self.view_is
