use Rattle.forwarder.proofs.Stored.{stored_is_of_allowed}
use Rattle.forwarder.proofs.law.objects_were_allowed.Goals as goal

pub returns : goal.returns
returns c = λ first p past name octets none h at. stored_is_of_allowed first p past name octets none h at
