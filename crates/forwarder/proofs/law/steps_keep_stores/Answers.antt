use Rattle.forwarder.proofs.Stores.{step_store}
use Rattle.forwarder.proofs.law.steps_keep_stores.Goals as goal

pub returns : goal.returns
returns c = λ old new event answer fits is step. step_store old new event answer fits is step
