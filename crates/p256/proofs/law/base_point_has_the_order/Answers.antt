use Rattle.std.proofs.Common.{refl}
use Rattle.p256.specs.Curve.{combined, sum, sum_of_products}
use Rattle.p256.specs.Prime.{difference}
use Rattle.p256.proofs.law.base_point_has_the_order.Goals as goal

pub returns-clause-infinite : goal.returns-clause-infinite
unfolding combined sum sum_of_products difference
returns-clause-infinite c = refl
