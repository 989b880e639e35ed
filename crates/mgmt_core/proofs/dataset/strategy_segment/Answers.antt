use Rattle.std.proofs.Common.{ap, ◌∙◌}
use Rattle.std.specs.FinMap.{entries}
use Rattle.name_trie.specs.Shown.{shown_each}
use Rattle.mgmt_core.specs.Windows.{Kept, choice_octets, start_of, with_choice}
use Rattle.mgmt_core.specs.Writing.{strategy_text}
use Rattle.mgmt_core.proofs.Windows.{all_written}
use Rattle.mgmt_core.proofs.dataset.strategy_segment.Goals as goal

pub returns : goal.returns
returns c =
    let rows = entries c.args.strategies.now.table in
    c.segment.ensures (strategy_text c.args.strategies.now.table)
    (c.in_ok-show_all.ensures ∙ ap (λ (k : Kept). shown_each with_choice k rows) c.new-writer.ensures ∙ all_written choice_octets (start_of c.args.number) rows)
