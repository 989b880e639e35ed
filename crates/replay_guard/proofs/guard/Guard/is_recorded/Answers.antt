use Rattle.std.proofs.Common.{ap}
use Rattle.replay_guard.specs.Guard.{GuardState, signer_of}
use Rattle.replay_guard.proofs.Rows.{place_tells}
use Rattle.replay_guard.proofs.guard.Guard.is_recorded.Goals as goal

pub returns : goal.returns
returns c =
    rw c.is_some.ensures (place_tells c.args.self.now.latest c.self.inside.rows.items (signer_of c.args.signer) c.place_of.result (ap (λ (g : GuardState). g.latest) c.self.view_is) (rw c.deref.ensures.value at c.place_of.ensures))
