use Rattle.ndn_names.specs.View.{components}
use Rattle.ndn_names.proofs.Prefixes.{is_prefix-shown}
use Rattle.ndn_names.proofs.name.Name.is_prefix_of.Goals as goal

pub returns : goal.returns
returns c =
    is_prefix-shown c.as_octets-2.result.now c.as_octets.result.now (components c.args.self.now) (components c.args.other) c.starts_with.result c.as_octets-2.ensures c.as_octets.ensures c.starts_with.ensures.value
