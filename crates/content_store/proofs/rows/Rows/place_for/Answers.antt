use Rattle.std.proofs.Common.{length, ap, arith}
use Rattle.slab.specs.Slab.{get}
use Rattle.content_store.proofs.Shown.{length-shown}
use Rattle.content_store.proofs.rows.Rows.place_for.Goals as goal

pub lower_bound-requires-clause-short : goal.lower_bound-requires-clause-short
lower_bound-requires-clause-short c =
    let len = length-shown (get c.self.inside.entries) c.self.inside.order c.self.invariant.0.there in
    omega (arith, ap length c.self.view_is)
