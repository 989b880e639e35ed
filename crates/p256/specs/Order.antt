-- The order of P-256 (SP 800-186, section 3.2.1.3).
use Rattle.std.specs.Prelude.{ℕ}

-- the order n of the curve: the number of its points
abbrev pub order : ℕ
order = 0xffffffff00000000ffffffffffffffffbce6faada7179e84f3b9cac2fc632551

-- the inverse of 2^256, the factor of Montgomery's form, modulo the order
abbrev pub order_radix_inverse : ℕ
order_radix_inverse = 43790243014242295660885426880012836369732278457577312309071968676491870960761
