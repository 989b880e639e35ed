-- Differences modulo the prime, as natural numbers.
use Rattle.std.proofs.Common.{◌≡◌, ℕ, ◌+◌, ◌-◌, ◌*◌, ◌%◌, ◌∙◌, sym, ap, arith}
use Rattle.std.proofs.Math.Nat.{mod-add-mod, add-mod-mod}
use Rattle.std.proofs.lemmas.Nat.{mul-mod_second}
use Rattle.p256.specs.Prime.{prime, difference}
use Rattle.p256.proofs.Modulo.{same_rest}

pub difference_left : (x y : ℕ) → difference (x % prime) y % prime ≡ difference x y % prime
unfolding difference
difference_left x y = mod-add-mod x prime ((prime - 1) * y)

pub difference_right : (x y : ℕ) → difference x (y % prime) % prime ≡ difference x y % prime
unfolding difference
difference_right x y =
    sym (add-mod-mod x ((prime - 1) * (y % prime)) prime)
    ∙ ap (λ t. (x + t) % prime) (mul-mod_second (prime - 1) y prime)
    ∙ add-mod-mod x ((prime - 1) * y) prime

-- the sum's products, difference two of them
pub cross_rest : (a b c d : ℕ) → difference ((a + b) * (c + d)) (a * c + b * d) % prime ≡ (a * d + c * b) % prime
unfolding difference
cross_rest a b c d = same_rest (difference ((a + b) * (c + d)) (a * c + b * d)) (a * d + c * b) 0 (a * c + b * d) prime (omega arith)
