use Rattle.std.proofs.Common.{◌≡◌, ◌-◌, ◌*◌, ◌/◌, ◌%◌, ◌^◌, ◌∙◌, refl, ap, arith}
use Rattle.p256.specs.Order.{order, order_radix_inverse}
use Rattle.p256.specs.Scalars.{inverse_of, residue}
use Rattle.p256.specs.Integer.{value}
use Rattle.p256.proofs.Powers.{power_step}
use Rattle.p256.proofs.scalar.Scalar.inverse.Goals as goal

pub loop-taken-preserved : goal.loop-taken-preserved
unfolding residue
loop-taken-preserved c =
    let bit = c.add-bit.result.1 in
    let x = residue c.args.self in
    let a = value c.loop-taken.power.0 * order_radix_inverse % order in
    let step = power_step x (order - 2) c.loop-taken._taken (value c.add-bit.result.0) bit (residue c.with_bit-power.result) order a
    c.add-bit.ensures.bit (omega arith) (omega arith) c.loop-taken.invariant.done c.with_bit-power.ensures in
    record { left = step.0; below = c.with_bit-power.result.below; done = step.1 }

pub returns : goal.returns
unfolding residue inverse_of
returns c =
    let ended : c.loop-taken._taken ≡ 256 = omega arith in
    let all : (order - 2) * 2 ^ c.loop-taken._taken / 2 ^ 256 ≡ order - 2 = rw ended refl in
    c.loop-taken.invariant.done ∙ ap (λ k. (value c.args.self.words * order_radix_inverse % order) ^ k % order) all
