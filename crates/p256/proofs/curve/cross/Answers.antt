use Rattle.std.proofs.Math.Nat.{mod-add-mod, add-mod-mod}
use Rattle.std.proofs.lemmas.Nat.{mul-mod_first, mul-mod_second}
use Rattle.p256.specs.Field.{number}
use Rattle.p256.proofs.Differences.{difference_left, difference_right, cross_rest}
use Rattle.p256.proofs.curve.cross.Goals as goal

pub returns : goal.returns
returns c =
    simp (
      c.minus.ensures,
      c.times-whole.ensures,
      c.plus-left.ensures,
      c.plus-right.ensures,
      c.plus-squares.ensures,
      c.requires.first,
      c.requires.second,
      difference_left,
      difference_right,
      mul-mod_first,
      mul-mod_second,
      mod-add-mod,
      add-mod-mod,
    )
    (cross_rest (number c.args.a1) (number c.args.b1) (number c.args.a2) (number c.args.b2))
