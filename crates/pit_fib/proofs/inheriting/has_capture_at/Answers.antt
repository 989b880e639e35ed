use Rattle.std.proofs.Common.{sym, ◌∙◌}
use Rattle.std.specs.Prelude.{◌&&◌}
use Rattle.pit_fib.specs.Inheriting.{counts_at}
use Rattle.pit_fib.specs.Route.{is_capture}
use Rattle.pit_fib.proofs.Routes.{no_row, any_at, both_true}
use Rattle.pit_fib.proofs.inheriting.has_capture_at.Goals as goal

pub returns-then-is_capture : goal.returns-then-is_capture
returns-then-is_capture c =
    sym (any_at (λ e. counts_at c.args.at e.1 && is_capture e.1) c.args.rows.now c.loop-row.row-index no_row c.loop-row-test.true
    (both_true (sym c.counts_at.ensures ∙ c.if-counts_at.true) (sym c.is_capture.ensures ∙ c.if-is_capture.true)))
