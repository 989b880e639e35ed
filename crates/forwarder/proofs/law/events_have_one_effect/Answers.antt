use Rattle.forwarder.proofs.OneEffect.{one_effect}
use Rattle.forwarder.proofs.law.events_have_one_effect.Goals as goal

pub returns : goal.returns
returns c = λ old new other event apart x y. one_effect old new other event apart x y
