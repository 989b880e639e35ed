use Rattle.std.proofs.Common.{ap, ◌∙◌}
use Rattle.name_trie.specs.Shown.{shown_each}
use Rattle.pit_fib.specs.Effective.{listed}
use Rattle.pit_fib.specs.Fib.{left_at}
use Rattle.mgmt_core.specs.Windows.{Kept, route_octets, start_of, with_route}
use Rattle.mgmt_core.specs.Writing.{fib_text}
use Rattle.mgmt_core.proofs.Windows.{all_written}
use Rattle.mgmt_core.proofs.dataset.fib_segment.Goals as goal

pub returns : goal.returns
returns c =
    let rows = listed (left_at c.args.now c.args.fib.now.table) in
    c.segment.ensures (fib_text c.args.now c.args.fib.now.table)
    (c.in_ok-written.ensures ∙ ap (λ (k : Kept). shown_each with_route k rows) c.new.ensures ∙ all_written route_octets (start_of c.args.number) rows)
