use Rattle.std.proofs.Common.{sym, ap, ◌∙◌}
use Rattle.std.specs.FinMap.{entries}
use Rattle.name_trie.specs.Shown.{shown_each}
use Rattle.name_trie.proofs.Changed.{on_ok_then}
use Rattle.pit_fib.proofs.FibShown.{own_are_shown}
use Rattle.pit_fib.proofs.RootChoice.{entries_with_root}
use Rattle.pit_fib.proofs.strategy_table.StrategyTable.show_all.Goals as goal

pub returns : goal.returns
returns g c =
    let others = c.self.inside.others.table in
    let root = c.self.inside.root in
    let show = g.S.Show.shown in
    on_ok_then c.show_all.result c.show_all.ensures
    (λ e. e
    ∙ own_are_shown show others root _
    ∙ ap (λ s. shown_each show s (entries others)) c.in_ok-show.ensures
    ∙ ap (shown_each show c.args.show.now) (sym (entries_with_root others root c.self.invariant.0))
    ∙ ap (λ t. shown_each show c.args.show.now (entries t.table)) c.self.view_is)
