use Rattle.std.proofs.Common.{refl, inl, inr}
use Rattle.std.proofs.lemmas.Result.{err_from_is_err_and}
use Rattle.std.specs.Prelude.{Err}
use Rattle.node_config.proofs.PeerSteps.{to_plain, from_plain}
use Rattle.node_config.specs.Plain.{PlainPeer}
use Rattle.std.proofs.Common.{◌≡◌}
use Rattle.node_config.specs.declared.config.Scope.TheVariants.{Local}
use Rattle.node_config.proofs.Readings.{needs_fact}
use Rattle.node_config.proofs.peers.check_scope.Goals as goal

pub returns-in_err-unless : goal.returns-in_err-unless
returns-in_err-unless c =
    let p = err_from_is_err_and c.from_residual.result c.from_residual.ensures.1 in
    rw (p.1, p.2) (inl (c.in_err-unless.field-0.0, needs_fact _ _ _ _ c.at.ensures c.may_have.ensures.0 c.may_have.ensures.1 (Err c.in_err-unless.field-0.0) c.in_err-unless.ensures, refl))

pub returns : goal.returns
returns c =
    inr (tt, c.may_have.ensures.0 c.in_ok-unless.ensures, needs_fact _ _ _ _ c.at-2.ensures (λ t e. to_plain (λ (peer : PlainPeer). peer.scope ≡ Local) c.args.before.now (c.may_follow.ensures.0 t e)) (λ h. c.may_follow.ensures.1 (λ e. from_plain (λ (peer : PlainPeer). peer.scope ≡ Local) c.args.before.now (h e))) c.unless-2.result c.unless-2.ensures)
