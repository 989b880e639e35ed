use Rattle.std.proofs.Common.{refl}
use Rattle.ndn_tlv.specs.Number.{spelling}
use Rattle.mgmt_core.proofs.strategy_name.strategy_value.Goals as goal

pub returns-in-BestRoute : goal.returns-in-BestRoute
unfolding spelling
returns-in-BestRoute c = rw c.in-BestRoute.is refl

pub returns-in-Multicast : goal.returns-in-Multicast
unfolding spelling
returns-in-Multicast c = rw c.in-Multicast.is refl
