use Rattle.std.proofs.Common.{◌≡◌, false, take}
use Rattle.std.specs.List.{list_any}
use Rattle.pit_fib.specs.Inheriting.{counts_at}
use Rattle.pit_fib.proofs.inheriting.has_route_at.Given as goal

abbrev pub invariant-loop-row : goal.invariant-loop-row
invariant-loop-row l = list_any (λ e. counts_at l.at e.1) (take l.row-index l.rows) ≡ false
