use Rattle.forwarder.specs.Event.{moment}
use Rattle.forwarder.specs.Policy.{at_moment}
use Rattle.forwarder.specs.Runs.{now_of, seen_after}
use Rattle.std.specs.Prelude.{max}
use Rattle.forwarder.proofs.KeptInterests.{arrives_where_kept, kept_or_answered, kept_or_waited, kept_waits}
use Rattle.forwarder.proofs.law.unanswered_interests_wait.Goals as goal

pub returns-clause-arrives : goal.returns-clause-arrives
returns-clause-arrives c = λ now event answer key face ask. arrives_where_kept now event answer key face ask

pub returns-clause-waits : goal.returns-clause-waits
returns-clause-waits c = λ past event answer key face ask kept. kept_waits past event answer key face ask kept

pub returns-clause-others : goal.returns-clause-others
returns-clause-others c = λ past event answer key face ask e. kept_or_waited past event answer key face ask e

pub returns-clause-answers : goal.returns-clause-answers
returns-clause-answers c = λ first past event answer face whole i reply fits is.
    kept_or_answered (seen_after past (at_moment reply.was (moment event)) reply.waiting) (max (now_of past) (moment event)) event answer face whole i fits reply.replies is
