use Rattle.std.proofs.Common.{◌∙◌}
use Rattle.ndn_names.specs.View.{components}
use Rattle.ndn_names.proofs.OctetOrder.{values_equal}
use Rattle.ndn_names.proofs.key.NamePartialEq.eq.Goals as goal

pub returns : goal.returns
returns c =
    c.eq.ensures
    ∙ values_equal c.as_octets.result.now c.as_octets-2.result.now (components c.args.self.now) (components c.args.other.now) c.as_octets.ensures c.as_octets-2.ensures
