use Rattle.ndn_names.proofs.OctetOrder.{values_cmp}
use Rattle.ndn_names.proofs.order.octets_are_in_canonical_order.Goals as goal

pub returns : goal.returns
returns c = values_cmp
