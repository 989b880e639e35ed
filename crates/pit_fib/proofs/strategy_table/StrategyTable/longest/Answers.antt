use Rattle.std.proofs.Common.{◌≡◌, ap, sym, ◌∙◌}
use Rattle.std.specs.Prelude.{Option, Some}
use Rattle.std.specs.Option.{option_or}
use Rattle.ndn_names.specs.View.{components}
use Rattle.pit_fib.specs.declared.strategy_table.StrategyId.{StrategyId}
use Rattle.name_trie.specs.ByName.{longest}
use Rattle.pit_fib.proofs.RootChoice.{longest_with_root}
use Rattle.pit_fib.proofs.strategy_table.StrategyTable.longest.Goals as goal
use Rattle.pit_fib.proofs.strategy_table.StrategyTable.longest.Goals.{After-longest}

-- the strategy of the longest prefix in the whole table is that of the longest prefix in `others`,
-- or the strategy of `/` if `others` has no prefix of the name
found : (c : After-longest) (o : Option StrategyId) → o ≡ longest c.self.inside.others.table (components c.args.name)
    → option_or o (Some c.self.inside.root) ≡ longest c.args.self.now.table (components c.args.name)
found c o is =
    let name = components c.args.name in
    ap (λ (p : Option StrategyId). option_or p (Some c.self.inside.root)) is
    ∙ sym (longest_with_root c.self.inside.others.table c.self.inside.root c.self.invariant.0 name)
    ∙ ap (λ t. longest t.table name) c.self.view_is

pub returns-in-Some : goal.returns-in-Some
returns-in-Some c = found (goal.at.returns-in-Some c).After-longest _ c.in-Some.ensures

pub returns-in-None : goal.returns-in-None
returns-in-None c = found (goal.at.returns-in-None c).After-longest _ c.in-None.ensures
