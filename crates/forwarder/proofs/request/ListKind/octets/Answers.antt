use Rattle.ndn_tlv.specs.Number.{spelling}
use Rattle.forwarder.specs.Request.{RouteList, StrategyList}
use Rattle.forwarder.proofs.Asking.{list_is_name}
use Rattle.forwarder.proofs.request.ListKind.octets.Goals as goal

pub returns-in-RouteList : goal.returns-in-RouteList
unfolding spelling
returns-in-RouteList c = rw (c.in-RouteList.is, c.as_slice.ensures) (list_is_name RouteList)

pub returns-in-StrategyList : goal.returns-in-StrategyList
unfolding spelling
returns-in-StrategyList c = rw (c.in-StrategyList.is, c.as_slice-in-StrategyList.ensures) (list_is_name StrategyList)
