use Rattle.std.proofs.Common.{◌≡◌, ◌*◌, ◌%◌}
use Rattle.std.proofs.Math.Nat.{mod-add-mod, add-mod-mod}
use Rattle.std.proofs.lemmas.Nat.{mul-mod_first, mul-mod_second}
use Rattle.p256.specs.Curve.{b, sum_of_products}
use Rattle.p256.specs.Field.{number}
use Rattle.p256.specs.Prime.{prime}
use Rattle.p256.proofs.Differences.{difference_left, difference_right}
use Rattle.p256.proofs.curve.sum_of_products.Goals as goal

pub returns : goal.returns
unfolding sum_of_products
returns c =
    let bzz : number c.times-bzz.result ≡ (b * number c.args.zz) % prime = unfold number in c.times-bzz.ensures in
    let bxz : number c.times-bxz.result ≡ (b * number c.args.xz) % prime = unfold number in c.times-bxz.ensures in
    simp (
      c.minus.ensures,
      c.plus.ensures,
      c.plus-2.ensures,
      c.times-x_left.ensures,
      c.times-x_right.ensures,
      c.times-y_left.ensures,
      c.times-y_right.ensures,
      c.times-z_left.ensures,
      c.times-z_right.ensures,
      c.plus-high.ensures,
      c.minus-low.ensures,
      c.minus-u.ensures,
      c.thrice-xx3.ensures,
      c.thrice-v.ensures,
      c.minus-v_third.ensures,
      c.minus-bxz_less.ensures,
      c.thrice-zz3.ensures,
      c.thrice-w.ensures,
      c.minus-w_third.ensures,
      bzz,
      bxz,
      difference_left,
      difference_right,
      mul-mod_first,
      mul-mod_second,
      mod-add-mod,
      add-mod-mod,
    )
