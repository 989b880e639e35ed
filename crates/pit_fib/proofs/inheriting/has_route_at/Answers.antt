use Rattle.std.proofs.Common.{sym, ◌∙◌}
use Rattle.pit_fib.specs.Inheriting.{counts_at}
use Rattle.pit_fib.proofs.Routes.{no_row, any_at}
use Rattle.pit_fib.proofs.inheriting.has_route_at.Goals as goal

pub returns-then-counts_at : goal.returns-then-counts_at
returns-then-counts_at c =
    sym (any_at (λ e. counts_at c.args.at e.1) c.args.rows.now c.loop-row.row-index no_row c.loop-row-test.true (sym c.counts_at.ensures ∙ c.if-counts_at.true))
