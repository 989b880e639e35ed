use Rattle.std.proofs.Common.{arith}
use Rattle.p256.specs.Field.{number}
use Rattle.p256.specs.Prime.{prime, radix_inverse, difference}
use Rattle.p256.specs.Integer.{value}
use Rattle.p256.proofs.Residues.{minus_form}
use Rattle.p256.proofs.element.FieldElement.minus.Goals as goal

pub returns : goal.returns
unfolding number difference
returns c = minus_form prime radix_inverse (value c.sub_mod.result) (value c.args.self.words) (value c.args.other.words) (omega (arith, c.args.other.below)) (omega arith) c.sub_mod.ensures
