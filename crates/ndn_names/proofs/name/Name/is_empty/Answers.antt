use Rattle.ndn_names.specs.View.{components}
use Rattle.ndn_names.proofs.Names.{is_empty-shown}
use Rattle.ndn_names.proofs.name.Name.is_empty.Goals as goal

pub returns : goal.returns
returns c = is_empty-shown c.as_octets.result.now c.is_empty.result (components c.args.self.now) c.as_octets.ensures c.is_empty.ensures
