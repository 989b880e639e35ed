use Rattle.std.proofs.Common.{length, rules, ap, arith}
use Rattle.content_store.proofs.Shown.{rows_none}
use Rattle.content_store.proofs.rows.Rows.new.Goals as goal

pub invariant_of-result : goal.invariant_of-result
invariant_of-result c = (
  (rows_none _ _ (search rules)).0,
  λ k d lt. absurd (omega (arith, ap length c.new-3.ensures.items)),
)

pub returns : goal.returns
returns c = (rows_none _ _ (search rules)).1
