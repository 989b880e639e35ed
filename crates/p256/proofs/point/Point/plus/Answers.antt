use Rattle.std.proofs.Common.{◌∙◌}
use Rattle.p256.specs.Curve.{sum}
use Rattle.p256.proofs.Products.{products_modulo}
use Rattle.p256.proofs.point.Point.plus.Goals as goal

pub returns : goal.returns
unfolding sum
returns c =
    c.sum_of_products.ensures
    ∙ simp (
      c.times-xx.ensures,
      c.times-yy.ensures,
      c.times-zz.ensures,
      c.cross-xy.ensures,
      c.cross-yz.ensures,
      c.cross-xz.ensures,
      products_modulo,
    )
