use Rattle.std.proofs.Common.{◌∙◌}
use Rattle.std.proofs.Math.Nat.{mod-add-mod, add-mod-mod}
use Rattle.p256.specs.Curve.{sum}
use Rattle.p256.proofs.Products.{products_modulo}
use Rattle.p256.proofs.point.Point.twice.Goals as goal

pub returns : goal.returns
unfolding sum
returns c =
    c.sum_of_products.ensures
    ∙ simp (
      c.plus.ensures,
      c.plus-2.ensures,
      c.plus-3.ensures,
      c.times-xx.ensures,
      c.times-yy.ensures,
      c.times-zz.ensures,
      c.times-xy.ensures,
      c.times-yz.ensures,
      c.times-xz.ensures,
      mod-add-mod,
      add-mod-mod,
      products_modulo,
    )
