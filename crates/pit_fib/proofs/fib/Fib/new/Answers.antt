use Rattle.std.proofs.Common.{sym, subst}
use Rattle.std.specs.Vec.{vec_capacity}
use Rattle.pit_fib.specs.Limits.{IsRoomFor, IsTallied, IsWithinFib}
use Rattle.pit_fib.proofs.FibTables.{count_empty, later_empty, within_empty}
use Rattle.pit_fib.specs.Fib.{LeadsTo}
use Rattle.pit_fib.proofs.Leading.{leads_nowhere}
use Rattle.pit_fib.proofs.fib.Fib.new.Goals as goal

pub invariant_of-result : goal.invariant_of-result
invariant_of-result c =
    let is = c.new.ensures.table in (
      subst (λ t. IsWithinFib t) (sym is) within_empty,
      subst (λ t. IsTallied t 0 18446744073709551615) (sym is) (record { counted = sym count_empty; later = later_empty 18446744073709551615 }),
      subst (λ p. IsRoomFor c.new.result.table (vec_capacity c.new-2.result) p) (sym c.new.ensures.prepared) tt,
      (λ face leads. absurd (leads_nowhere face (subst (λ t. LeadsTo t face) is leads))),
    )
