use Rattle.forwarder.proofs.Soundness.{step_sound}
use Rattle.forwarder.proofs.law.steps_keep_nodes_sound.Goals as goal

pub returns : goal.returns
returns c = λ old new event answer sound step. step_sound old new event answer sound step
