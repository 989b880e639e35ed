use Rattle.forwarder.specs.Request.{list_name}
use Rattle.forwarder.proofs.request.is_list_name.Goals as goal

pub returns : goal.returns
returns c = c.begins.ensures (list_name c.args.kind) c.octets.ensures
