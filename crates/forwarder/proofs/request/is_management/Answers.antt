use Rattle.ndn_tlv.specs.Number.{spelling}
use Rattle.forwarder.specs.Request.{management}
use Rattle.forwarder.proofs.Asking.{management_is_name}
use Rattle.forwarder.proofs.request.is_management.Goals as goal

pub returns : goal.returns
unfolding spelling
returns c = c.begins.ensures management management_is_name
