-- Numbers of four and of eight words, least significant first, as natural numbers.
use Rattle.std.specs.Prelude.{ℕ, ◌+◌, ◌*◌, ◌^◌}
use Rattle.p256.specs.declared.integer.U256.{U256}
use Rattle.p256.specs.declared.product.U512.{U512}

-- the number that four words mean
abbrev pub value : U256 → ℕ
value x = x.w0 + 2 ^ 64 * x.w1 + 2 ^ 128 * x.w2 + 2 ^ 192 * x.w3

-- the number that eight words mean
abbrev pub wide_value : U512 → ℕ
wide_value x = value x.low + 2 ^ 256 * value x.high
