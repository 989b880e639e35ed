-- Sums of points, from products modulo the prime.
use Rattle.std.proofs.Common.{◌≡◌, ℕ, ◌+◌, ◌*◌, ◌%◌, ◌∙◌, sym}
use Rattle.std.proofs.Math.Nat.{mod-add-mod, add-mod-mod}
use Rattle.std.proofs.lemmas.Nat.{mul-mod_first, mul-mod_second}
use Rattle.p256.specs.Curve.{Triple, b, sum_of_products}
use Rattle.p256.specs.Prime.{difference, prime}
use Rattle.p256.proofs.Differences.{difference_left, difference_right}

-- the sum, with each step taken modulo the prime
unfoldable pub stepwise : ℕ → ℕ → ℕ → ℕ → ℕ → ℕ → Triple
stepwise xx yy zz xy yz xz =
    let zz3 = (3 * zz) % prime in
    let w = (3 * (difference xz ((b * zz) % prime) % prime)) % prime in
    let v = (3 * (difference (difference ((b * xz) % prime) zz3 % prime) xx % prime)) % prime in
    let u = difference ((3 * xx) % prime) zz3 % prime in
    let high = (yy + w) % prime in
    let low = difference yy w % prime in
    record {
      x = difference ((xy * high) % prime) ((yz * v) % prime) % prime;
      y = ((high * low) % prime + (u * v) % prime) % prime;
      z = ((yz * low) % prime + (xy * u) % prime) % prime;
    }

pub stepwise_same : (xx yy zz xy yz xz : ℕ) → stepwise xx yy zz xy yz xz ≡ sum_of_products xx yy zz xy yz xz
unfolding sum_of_products stepwise
stepwise_same xx yy zz xy yz xz =
    simp (difference_left, difference_right, mul-mod_first, mul-mod_second, mod-add-mod, add-mod-mod)

stepwise_modulo : (xx yy zz xy yz xz : ℕ)
    → stepwise (xx % prime) (yy % prime) (zz % prime) (xy % prime) (yz % prime) (xz % prime)
    ≡ sum_of_products xx yy zz xy yz xz
unfolding sum_of_products stepwise
stepwise_modulo xx yy zz xy yz xz =
    simp (difference_left, difference_right, mul-mod_first, mul-mod_second, mod-add-mod, add-mod-mod)

-- products may be taken modulo the prime
pub products_modulo : (xx yy zz xy yz xz : ℕ)
    → sum_of_products (xx % prime) (yy % prime) (zz % prime) (xy % prime) (yz % prime) (xz % prime)
    ≡ sum_of_products xx yy zz xy yz xz
products_modulo xx yy zz xy yz xz =
    sym (stepwise_same (xx % prime) (yy % prime) (zz % prime) (xy % prime) (yz % prime) (xz % prime))
    ∙ stepwise_modulo xx yy zz xy yz xz
