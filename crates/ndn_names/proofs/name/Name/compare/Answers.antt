use Rattle.std.proofs.Common.{◌≡◌, ◌∙◌, sym, subst}
use Rattle.std.specs.Ordering.{MatchOrdering}
use Rattle.std.specs.declared.cmp.Ordering.{Ordering}
use Rattle.ndn_names.specs.Order.{Less, name_cmp}
use Rattle.ndn_names.specs.View.{components}
use Rattle.ndn_names.proofs.OctetOrder.{values_cmp}
use Rattle.ndn_names.proofs.OrderLaws.{MatchOrdering-name_cmp}
use Rattle.ndn_names.proofs.name.Name.compare.Goals as goal
use Rattle.ndn_names.proofs.name.Name.compare.Goals.{After-cmp}

same_order : (c : After-cmp) → c.cmp.result ≡ name_cmp (components c.args.self.now) (components c.args.other)
same_order c = c.cmp.ensures ∙ values_cmp _ _ (components c.args.self.now) (components c.args.other) c.as_octets.ensures c.as_octets-2.ensures

pub returns : goal.returns
returns c = record {
  exact = same_order c;
  order =
      let a = components c.args.self.now in
      let b = components c.args.other in
      subst (λ (o : Ordering). MatchOrdering o (Less a b) (a ≡ b) (Less b a)) (sym (same_order c)) (MatchOrdering-name_cmp a b);
}
