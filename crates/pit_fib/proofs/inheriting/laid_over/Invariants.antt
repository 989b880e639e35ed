use Rattle.std.proofs.Common.{◌≡◌, ℕ, take}
use Rattle.std.specs.Prelude.{fold}
use Rattle.pit_fib.specs.Tables.{ByFace}
use Rattle.pit_fib.specs.Within.{set_within}
use Rattle.pit_fib.proofs.inheriting.laid_over.Given as goal

abbrev pub invariant-loop-row : goal.invariant-loop-row
invariant-loop-row l =
    l.costs ≡ fold {A = ℕ × ℕ} {B = ByFace} (λ costs e. set_within costs e.0 e.1) l.fn.second (take l.row-index l.row-items)
