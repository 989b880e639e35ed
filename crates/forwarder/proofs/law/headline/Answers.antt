use Rattle.forwarder.proofs.Headlines.{headline_of}
use Rattle.forwarder.proofs.law.headline.Goals as goal

pub returns : goal.returns
returns c = λ rules keys repo run p runs h. headline_of rules keys repo run p runs.keys runs.octets runs.valid h
