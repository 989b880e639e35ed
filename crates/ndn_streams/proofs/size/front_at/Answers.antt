use Rattle.std.proofs.Common.{arith, sym, subst, ◌++◌}
use Rattle.ndn_tlv.proofs.Numbers.{IsBytes-append}
use Rattle.ndn_streams.specs.Cutting.{FrontOf}
use Rattle.ndn_streams.specs.Reading.{Size}
use Rattle.ndn_streams.proofs.Calls.{front_of_means}
use Rattle.ndn_streams.proofs.size.front_at.Goals as goal

pub returns-clause-means : goal.returns-clause-means
returns-clause-means c =
    subst (λ (s : Size). FrontOf (c.args.front.now ++ c.args.back.now) s) (sym c.whole_size_at.ensures)
    (front_of_means (c.args.front.now ++ c.args.back.now) (IsBytes-append c.args.front.now c.args.back.now (λ i. omega (arith, c.type_inv.front i)) (λ i. omega (arith, c.type_inv.back i))))
