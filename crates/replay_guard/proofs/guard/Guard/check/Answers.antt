use Rattle.std.proofs.Common.{ap, refl}
use Rattle.replay_guard.specs.Freshness.{AreNear}
use Rattle.replay_guard.specs.Guard.{GuardState, signer_of}
use Rattle.replay_guard.proofs.Rows.{fresh_found, fresh_new}
use Rattle.replay_guard.proofs.guard.Guard.check.Goals as goal

pub returns-in-Some : goal.returns-in-Some
returns-in-Some c =
    let near : AreNear c.args.time c.args.now = c.are_near.ensures.0 c.if-not-are_near.false in
    fresh_found c.args.self.now.latest c.self.inside.rows.items c.in-Some.at c.index.result.now (signer_of c.args.signer) c.args.time c.args.seq c.args.now c.is_before.result
    (ap (λ (g : GuardState). g.latest) c.self.view_is) (rw c.deref.ensures.value at c.in-Some.ensures) c.index.ensures near c.is_before.ensures

pub returns-in-None : goal.returns-in-None
returns-in-None c =
    let near : AreNear c.args.time c.args.now = c.are_near.ensures.0 c.if-not-are_near.false in
    let fresh = fresh_new c.args.self.now.latest c.self.inside.rows.items (signer_of c.args.signer) c.args.time c.args.seq c.args.now
    (ap (λ (g : GuardState). g.latest) c.self.view_is) (rw c.deref.ensures.value at c.in-None.ensures) near in
    (λ _. fresh, λ _. refl)
