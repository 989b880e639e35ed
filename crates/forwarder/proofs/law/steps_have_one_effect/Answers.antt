use Rattle.forwarder.proofs.OneEffect.{one_effect}
use Rattle.forwarder.proofs.law.steps_have_one_effect.Goals as goal

pub returns : goal.returns
returns c = λ old new other event answer another apart x y. one_effect old.policy new.policy other.policy event apart x.policy y.policy
