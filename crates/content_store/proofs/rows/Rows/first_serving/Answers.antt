use Rattle.std.proofs.Common.{length, ap, arith}
use Rattle.slab.specs.Slab.{get}
use Rattle.content_store.proofs.Shown.{length-shown}
use Rattle.content_store.proofs.rows.Rows.first_serving.Goals as goal

pub first_serving-requires-clause-short : goal.first_serving-requires-clause-short
first_serving-requires-clause-short c =
    let len = length-shown (get c.self.inside.entries) c.self.inside.order c.self.invariant.0.there in
    omega (arith, ap length c.self.view_is)
