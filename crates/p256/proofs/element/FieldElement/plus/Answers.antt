use Rattle.p256.specs.Field.{number}
use Rattle.p256.specs.Prime.{prime, radix_inverse}
use Rattle.p256.specs.Integer.{value}
use Rattle.p256.proofs.Residues.{plus_form}
use Rattle.p256.proofs.element.FieldElement.plus.Goals as goal

pub returns : goal.returns
unfolding number
returns c = plus_form prime radix_inverse (value c.add_mod.result) (value c.args.self.words) (value c.args.other.words) c.add_mod.ensures
