use Rattle.std.proofs.Common.{length, ap, arith}
use Rattle.slab.specs.Slab.{get}
use Rattle.content_store.proofs.Shown.{rows_none}
use Rattle.content_store.proofs.rows.Rows.clear.Goals as goal

pub invariant_of-self : goal.invariant_of-self
invariant_of-self c = (
  (rows_none (get c.clear-2.new.self) c.clear.new.self c.clear.ensures).0,
  λ k d lt. absurd (omega (arith, ap length c.clear-3.ensures.items)),
)

pub returns : goal.returns
returns c = (rows_none (get c.clear-2.new.self) c.clear.new.self c.clear.ensures).1
