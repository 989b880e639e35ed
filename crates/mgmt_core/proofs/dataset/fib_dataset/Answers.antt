use Rattle.std.proofs.Common.{List, ℕ, [], ap, ◌∙◌}
use Rattle.name_trie.specs.Shown.{shown_each}
use Rattle.pit_fib.specs.Effective.{listed}
use Rattle.pit_fib.specs.Fib.{left_at}
use Rattle.mgmt_core.specs.Windows.{route_octets, text_with_route}
use Rattle.mgmt_core.proofs.Windows.{text_written}
use Rattle.mgmt_core.proofs.dataset.fib_dataset.Goals as goal

pub returns : goal.returns
returns c =
    let rows = listed (left_at c.args.now c.args.fib.now.table) in
    c.into_octets.ensures ∙ c.in_ok-list.ensures ∙ ap (λ (t : List ℕ). shown_each text_with_route t rows) c.new.ensures ∙ text_written route_octets [] rows
