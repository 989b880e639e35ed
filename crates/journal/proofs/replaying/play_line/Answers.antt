use Rattle.forwarder.specs.Event.{plain}
use Rattle.std.proofs.Common.{refl}
use Rattle.journal.proofs.Replays.{plays_step}
use Rattle.journal.proofs.replaying.play_line.Goals as goal

pub returns-in-Err-clause-stopped : goal.returns-in-Err-clause-stopped
returns-in-Err-clause-stopped c = refl

pub returns-in-Ok-clause-played : goal.returns-in-Ok-clause-played
returns-in-Ok-clause-played c =
    plays_step c.args.line.now (plain c.lend.result) c.in-Ok.field-0 c.clear.new.self c.step.new.outbox c.args.node.now c.step.new.self c.requires
    (rw (c.lend.ensures (λ r. r.rules) (λ r. r.keys)) (rw c.in-Ok-Event.field-0-is at c.in-Ok-Event.ensures)) (c.step.ensures.octets, c.step.ensures.keys) c.in-Ok.ensures.answered
