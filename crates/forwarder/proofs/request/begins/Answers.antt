use Rattle.ndn_names.specs.View.{components}
use Rattle.forwarder.proofs.Asking.{begins_is}
use Rattle.forwarder.proofs.request.begins.Goals as goal

pub returns : goal.returns
returns c = λ prefix is.
    begins_is c.args.octets.now c.as_octets.result.now prefix (components c.args.name) c.starts_with.result is c.as_octets.ensures c.starts_with.ensures.value
