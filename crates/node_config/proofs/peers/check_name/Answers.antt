use Rattle.std.proofs.Common.{refl, inl, inr}
use Rattle.std.proofs.lemmas.Result.{err_from_is_err_and}
use Rattle.std.specs.Prelude.{Err}
use Rattle.node_config.proofs.PeerSteps.{to_plain, from_plain}
use Rattle.node_config.specs.Plain.{PlainPeer}
use Rattle.std.proofs.Common.{◌≢◌}
use Rattle.node_config.proofs.Readings.{needs_fact}
use Rattle.node_config.proofs.peers.check_name.Goals as goal

pub returns-in_err-unless : goal.returns-in_err-unless
returns-in_err-unless c =
    let p = err_from_is_err_and c.from_residual.result c.from_residual.ensures.1 in
    rw (p.1, p.2) (inl (c.in_err-unless.field-0.0, needs_fact _ _ _ _ c.at.ensures c.has_room.ensures.0 c.has_room.ensures.1 (Err c.in_err-unless.field-0.0) c.in_err-unless.ensures, refl))

pub returns-in_err-unless-2 : goal.returns-in_err-unless-2
returns-in_err-unless-2 c =
    let p = err_from_is_err_and c.from_residual-in_err-unless-2.result c.from_residual-in_err-unless-2.ensures.1 in
    rw (p.1, p.2) (inr (tt, c.has_room.ensures.0 c.in_ok-unless.ensures, inl (c.in_err-unless-2.field-0.0, needs_fact _ _ _ _ c.at-2.ensures c.is_peer_name.ensures.0 c.is_peer_name.ensures.1 (Err c.in_err-unless-2.field-0.0) c.in_err-unless-2.ensures, refl)))

pub returns : goal.returns
returns c =
    inr (tt, c.has_room.ensures.0 c.in_ok-unless.ensures, inr (tt, c.is_peer_name.ensures.0 c.in_ok-unless-2.ensures, needs_fact _ _ _ _ c.at-3.ensures (λ t. to_plain (λ (peer : PlainPeer). peer.name ≢ c.args.name.now) c.args.before.now (c.is_new_name.ensures.0 t)) (λ h. c.is_new_name.ensures.1 (from_plain (λ (peer : PlainPeer). peer.name ≢ c.args.name.now) c.args.before.now h)) c.unless-3.result c.unless-3.ensures))
