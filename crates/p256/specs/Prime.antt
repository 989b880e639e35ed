-- The prime of P-256 (SP 800-186, section 3.2.1.3).
use Rattle.std.specs.Prelude.{ℕ, ◌+◌, ◌-◌, ◌*◌, ◌^◌}

-- the prime of the field
abbrev pub prime : ℕ
prime = 2 ^ 256 - 2 ^ 224 + 2 ^ 192 + 2 ^ 96 - 1

-- the inverse of 2^256, the factor of Montgomery's form, modulo the prime
abbrev pub radix_inverse : ℕ
radix_inverse = 115792089183396302114378112356516095823261736990586219612555396166510339686400

-- a number that is x - y modulo the prime
unfoldable pub difference : ℕ → ℕ → ℕ
difference x y = x + (prime - 1) * y
