use Rattle.ndn_tlv.specs.Number.{spelling}
use Rattle.forwarder.specs.Request.{localhost}
use Rattle.forwarder.proofs.Asking.{localhost_is_name}
use Rattle.forwarder.proofs.request.is_local_name.Goals as goal

pub returns : goal.returns
unfolding spelling
returns c = c.begins.ensures localhost localhost_is_name
