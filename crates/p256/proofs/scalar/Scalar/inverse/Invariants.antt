use Rattle.std.proofs.Common.{◌≡◌, ◌-◌, ◌*◌, ◌/◌, ◌%◌, ◌^◌, ◌<◌}
use Rattle.p256.specs.Order.{order, order_radix_inverse}
use Rattle.p256.specs.Integer.{value}
use Rattle.p256.proofs.scalar.Scalar.inverse.Given as goal

abbrev pub invariant-loop-taken : goal.invariant-loop-taken
invariant-loop-taken l = record {
  left : value l.rest ≡ (order - 2) * 2 ^ l._taken % 2 ^ 256;
  below : value l.power.0 < order;
  done : value l.power.0 * order_radix_inverse % order ≡ (value l.self.words * order_radix_inverse % order) ^ ((order - 2) * 2 ^ l._taken / 2 ^ 256) % order;
}
