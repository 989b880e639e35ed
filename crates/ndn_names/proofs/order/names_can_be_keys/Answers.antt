use Rattle.ndn_names.specs.Key.{name_cmp-total, name_cmp-antisymmetric}
use Rattle.ndn_names.proofs.order.names_can_be_keys.Goals as goal

pub returns : goal.returns
returns c = record { total = name_cmp-total; antisymmetric = name_cmp-antisymmetric }
