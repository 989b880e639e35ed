use Rattle.std.proofs.Common.{◌≡◌, ap, refl, subst, sym, ◌∙◌}
use Rattle.std.specs.Prelude.{Option, None, Some, unwrap_or}
use Rattle.std.specs.Ordering.{nat_cmp}
use Rattle.std.specs.FinMap.{get-empty}
use Rattle.pit_fib.specs.RecordTally.{ArePositive, Fits, number, sum}
use Rattle.pit_fib.specs.Tables.{ByFace}
use Rattle.pit_fib.proofs.RecordTallies.{nothing_fits, positive-empty}
use Rattle.pit_fib.proofs.record_tally.RecordTallyTallyRow.new.Goals as goal

pub invariant_of-result : goal.invariant_of-result
invariant_of-result c = (subst ArePositive (sym c.new.ensures) positive-empty, subst (λ (m : ByFace). Fits (sum (record { keys = 0; faces = m }))) (sym c.new.ensures) nothing_fits)

pub returns : goal.returns
returns c = λ i. elim i as (λ i. sum (record { keys = 0; faces = c.new.result }) i ≡ 0) [
  | None ↦ refl
  | (Some face) ↦ ap (λ (m : ByFace). number m face) c.new.ensures ∙ ap (λ o. unwrap_or o 0) (get-empty nat_cmp face)
]
