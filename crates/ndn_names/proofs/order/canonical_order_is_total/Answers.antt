use Rattle.ndn_names.proofs.OrderLaws.{Less-irreflexive, Less-transitive, Less-total}
use Rattle.ndn_names.proofs.order.canonical_order_is_total.Goals as goal

pub returns : goal.returns
returns c = record { irreflexive = Less-irreflexive; transitive = Less-transitive; total = Less-total }
