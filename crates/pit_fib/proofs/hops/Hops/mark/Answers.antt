use Rattle.std.proofs.Common.{take, false}
use Rattle.std.specs.Prelude.{◌||◌}
use Rattle.pit_fib.specs.declared.hops.Hop.{Hop}
use Rattle.pit_fib.specs.FaceSet.{has_face}
use Rattle.pit_fib.proofs.Updates.{update_more}
use Rattle.pit_fib.proofs.hops.Hops.mark.Goals as goal

pub loop-hop-preserved : goal.loop-hop-preserved
loop-hop-preserved c = let e = c.contains-is_local.ensures in
    rw e (update_more (λ (h : Hop). record h { local = h.local || has_face h.face c.args.locals.now }) c.loop-hop.hop-items (take c.self.inside.len c.self.inside.places) c.loop-hop.hop-index (record { face = 0; cost = 0; local = false }) c.loop-hop-test.true c.loop-hop.invariant)
