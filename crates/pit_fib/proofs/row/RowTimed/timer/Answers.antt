use Rattle.std.proofs.Common.{sym, ap, ◌∙◌}
use Rattle.std.specs.FinMap.{entries}
use Rattle.ndn_names.proofs.Rows.{no_entries}
use Rattle.name_trie.specs.Least.{least}
use Rattle.pit_fib.specs.Flags.{flags_cmp}
use Rattle.pit_fib.specs.Kept.{Row, deadline}
use Rattle.pit_fib.proofs.Rows.{no_slots}
use Rattle.pit_fib.proofs.row.RowTimed.timer.Goals as goal

pub returns-in-None : goal.returns-in-None
returns-in-None c =
    sym (ap (λ (m : Row). least deadline (entries m)) (no_slots c.self.inside.slots c.args.self.now c.self.view_is c.in-None.is)
    ∙ ap (least deadline) (no_entries flags_cmp))
