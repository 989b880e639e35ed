-- The integers modulo the prime of P-256.
use Rattle.std.specs.Prelude.{ℕ, ◌*◌, ◌%◌}
use Rattle.p256.specs.declared.element.FieldElement.{FieldElement}
use Rattle.p256.specs.Prime.{prime, radix_inverse}
use Rattle.p256.specs.Integer.{value}

-- the number that an element stands for, whose words are in Montgomery's form
unfoldable pub number : FieldElement → ℕ
number x = value x.words * radix_inverse % prime
