-- Elements of the field.
use Rattle.std.proofs.Common.{ℕ, ◌<◌, ◌*◌, ◌%◌, arith}
use Rattle.p256.specs.declared.element.FieldElement.{FieldElement}
use Rattle.p256.specs.Field.{number}
use Rattle.p256.specs.Integer.{value}
use Rattle.p256.specs.Prime.{prime, radix_inverse}

below_modulus : (x m : ℕ) → 0 < m → x % m < m
below_modulus x m h = omega arith

pub number_below : (x : FieldElement) → number x < prime
unfolding number
number_below x = below_modulus (value x.words * radix_inverse) prime (omega arith)
