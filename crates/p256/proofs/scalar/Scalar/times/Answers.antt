use Rattle.std.proofs.Common.{◌^◌, refl}
use Rattle.p256.specs.Scalars.{residue}
use Rattle.p256.specs.Order.{order, order_radix_inverse}
use Rattle.p256.specs.Integer.{value}
use Rattle.p256.proofs.Residues.{times_form}
use Rattle.p256.proofs.scalar.Scalar.times.Goals as goal

pub returns : goal.returns
unfolding residue
returns c = times_form order (2 ^ 256) order_radix_inverse refl (value c.multiply.result) (value c.args.self.words) (value c.args.other.words) c.multiply.ensures.congruent
