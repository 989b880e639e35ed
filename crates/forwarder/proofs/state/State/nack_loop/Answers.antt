use Rattle.std.proofs.Common.{arith}
use Rattle.std.proofs.lemmas.Bool.{false≢true}
use Rattle.forwarder.proofs.state.State.nack_loop.Goals as goal

pub returns-in_err-push_nack-clause-ok : goal.returns-in_err-push_nack-clause-ok
returns-in_err-push_nack-clause-ok c =
    let done = c.in_err-push_nack.ensures.promised (omega (arith, c.requires.places)) (omega (arith, c.requires.space)) in
    absurd (false≢true done)
