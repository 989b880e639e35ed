use Rattle.std.proofs.Common.{◌^◌, refl}
use Rattle.p256.specs.Field.{number}
use Rattle.p256.specs.Prime.{prime, radix_inverse}
use Rattle.p256.specs.Integer.{value}
use Rattle.p256.proofs.Residues.{times_form}
use Rattle.p256.proofs.element.FieldElement.times.Goals as goal

pub returns : goal.returns
unfolding number
returns c = times_form prime (2 ^ 256) radix_inverse refl (value c.multiply.result) (value c.args.self.words) (value c.args.other.words) c.multiply.ensures.congruent
