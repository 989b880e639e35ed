use Rattle.ndn_packets.specs.Key.{key_cmp-total, key_cmp-antisymmetric}
use Rattle.ndn_packets.proofs.KeyOrder.{key_cmp-equal}
use Rattle.ndn_packets.proofs.key.interest_keys_can_be_keys.Goals as goal

pub returns : goal.returns
returns c = record { total = key_cmp-total; antisymmetric = key_cmp-antisymmetric; equal = key_cmp-equal }
