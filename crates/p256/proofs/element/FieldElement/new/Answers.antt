use Rattle.std.proofs.Common.{◌^◌, refl}
use Rattle.p256.specs.Field.{number}
use Rattle.p256.specs.Prime.{prime, radix_inverse}
use Rattle.p256.specs.Integer.{value}
use Rattle.p256.proofs.Residues.{new_form}
use Rattle.p256.proofs.element.FieldElement.new.Goals as goal

pub returns : goal.returns
unfolding number
returns c = new_form prime (2 ^ 256) radix_inverse refl (value c.multiply.result) _ (value c.args.x) refl c.multiply.ensures.congruent
