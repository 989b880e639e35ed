use Rattle.std.proofs.Common.{sym, ap, ◌∙◌}
use Rattle.std.specs.FinMap.{len, len-empty}
use Rattle.pit_fib.specs.Flags.{flags_cmp}
use Rattle.pit_fib.specs.Kept.{Kept, Row}
use Rattle.pit_fib.proofs.Rows.{no_slots}
use Rattle.pit_fib.proofs.row.Row.count.Goals as goal

pub returns-in-None : goal.returns-in-None
returns-in-None c =
    sym (ap (λ (m : Row). len m) (no_slots c.self.inside.slots c.args.self.now c.self.view_is c.in-None.is) ∙ len-empty flags_cmp Kept)
