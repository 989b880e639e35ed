use Rattle.forwarder.specs.Event.{moment}
use Rattle.forwarder.specs.Policy.{at_moment}
use Rattle.std.specs.Prelude.{max}
use Rattle.forwarder.specs.Runs.{now_of, seen_after}
use Rattle.forwarder.proofs.Explained.{all_explained}
use Rattle.forwarder.proofs.Origins.{waiting_fits}
use Rattle.forwarder.proofs.law.each_send_is_explained.Goals as goal

pub returns : goal.returns
returns c = λ first past event answer reply fits.
    all_explained (seen_after past (at_moment reply.was (moment event)) reply.waiting) event answer
    (waiting_fits past (max (now_of past) (moment event)) reply.waiting reply.is_waiting) fits reply.replies
