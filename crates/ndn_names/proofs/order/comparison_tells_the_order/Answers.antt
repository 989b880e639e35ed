use Rattle.ndn_names.specs.Key.{name_cmp-antisymmetric}
use Rattle.ndn_names.proofs.OrderLaws.{less-name_cmp, name_cmp-less, name_cmp-equal, greater-name_cmp, name_cmp-greater}
use Rattle.ndn_names.proofs.order.comparison_tells_the_order.Goals as goal

pub returns : goal.returns
returns c = record {
  less = λ a b. (less-name_cmp a b, name_cmp-less a b);
  equal = λ a b. (name_cmp-antisymmetric a b, name_cmp-equal a b);
  greater = λ a b. (greater-name_cmp a b, name_cmp-greater a b);
}
