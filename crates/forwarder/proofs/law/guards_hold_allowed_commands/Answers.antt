use Rattle.forwarder.proofs.Once.{guard_is_of_allowed}
use Rattle.forwarder.proofs.law.guards_hold_allowed_commands.Goals as goal

pub returns : goal.returns
returns c = λ first p past none h. guard_is_of_allowed first p past none h
