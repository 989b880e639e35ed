use Rattle.std.proofs.Common.{List, ℕ, [], ap, ◌∙◌}
use Rattle.std.specs.FinMap.{entries}
use Rattle.name_trie.specs.Shown.{shown_each}
use Rattle.mgmt_core.specs.Windows.{choice_octets, text_with_choice}
use Rattle.mgmt_core.proofs.Windows.{text_written}
use Rattle.mgmt_core.proofs.dataset.strategy_dataset.Goals as goal

pub returns : goal.returns
returns c =
    let rows = entries c.args.strategies.now.table in
    c.into_octets.ensures ∙ c.in_ok-show_all.ensures ∙ ap (λ (t : List ℕ). shown_each text_with_choice t rows) c.new-list.ensures ∙ text_written choice_octets [] rows
