-- The integers modulo the order.
use Rattle.std.specs.Prelude.{ℕ, ◌-◌, ◌*◌, ◌%◌, ◌^◌}
use Rattle.p256.specs.declared.scalar.Scalar.{Scalar}
use Rattle.p256.specs.Order.{order, order_radix_inverse}
use Rattle.p256.specs.Integer.{value}

-- the number that a scalar stands for, whose words are in Montgomery's form
unfoldable pub residue : Scalar → ℕ
residue x = value x.words * order_radix_inverse % order

-- x to the power order - 2, which is the inverse of x modulo the order, by Fermat's little theorem;
-- that the order is a prime is trusted
unfoldable pub inverse_of : ℕ → ℕ
inverse_of x = x ^ (order - 2) % order
