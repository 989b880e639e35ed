-- Remainders of sums, over plain numbers.
use Rattle.std.proofs.Common.{◌≡◌, ℕ, ◌+◌, ◌-◌, ◌*◌, ◌%◌, ◌^◌, ◌<◌, ◌≤◌, ◌∙◌, inl, inr, sym, ap, arith}
use Rattle.std.proofs.lemmas.Bool.{cases_lt}
use Rattle.std.proofs.Math.Nat.{mod-eq_of_lt, add-mul-mod_self_right}

-- r is what n leaves, where n is r and a multiple of m
pub mod_is : (n m q r : ℕ) → n ≡ r + q * m → r < m → r ≡ n % m
mod_is n m q r e h = sym (ap (λ x. x % m) e ∙ add-mul-mod_self_right r q m ∙ mod-eq_of_lt h)

pub mod_none : (n m r : ℕ) → n ≡ r → r < m → r ≡ n % m
mod_none n m r e h = mod_is n m 0 r (omega arith) h

pub mod_once : (n m r : ℕ) → n ≡ r + m → r < m → r ≡ n % m
mod_once n m r e h = mod_is n m 1 r (omega arith) h

-- two numbers that differ by multiples of m leave the same
pub same_rest : (a b p q m : ℕ) → a + p * m ≡ b + q * m → a % m ≡ b % m
same_rest a b p q m e = sym (add-mul-mod_self_right a p m) ∙ ap (λ x. x % m) e ∙ add-mul-mod_self_right b q m

-- m is subtracted once, and added again if this was once too often
pub reduced_once : (s c m r b z t q : ℕ) → c ≤ 1 → s + 2 ^ 256 * c < 2 * m → m < 2 ^ 256
    → r + m ≡ s + 2 ^ 256 * b → b ≤ 1 → r < 2 ^ 256 → z ≡ m * (b - c) → t + 2 ^ 256 * q ≡ r + z → t < 2 ^ 256 → s < 2 ^ 256
    → t ≡ (s + 2 ^ 256 * c) % m
reduced_once s c m r b z t q hc below hm er hb hr ez et ht hs = elim (cases_lt (b - c) 1) [
  | inl none ↦
      let e : b - c ≡ 0 = omega arith in
      let zero : z ≡ 0 = omega (arith, ap (λ k. m * k) e) in
      mod_once (s + 2 ^ 256 * c) m t (omega arith) (omega arith)
  | inr more ↦
      let e : b - c ≡ 1 = omega arith in
      let one : z ≡ m = omega (arith, ap (λ k. m * k) e) in
      mod_none (s + 2 ^ 256 * c) m t (omega arith) (omega arith)
]

-- m is added if b is above a
pub added_once : (a b m d w z t q : ℕ) → a < m → b < m → m < 2 ^ 256 → d + b ≡ a + 2 ^ 256 * w → w ≤ 1 → d < 2 ^ 256
    → z ≡ m * w → t + 2 ^ 256 * q ≡ d + z → t < 2 ^ 256
    → t ≡ (a + (m - b)) % m
added_once a b m d w z t q ha hb hm ed hw hd ez et ht = elim (cases_lt w 1) [
  | inl none ↦
      let e : w ≡ 0 = omega arith in
      let zero : z ≡ 0 = omega (arith, ap (λ k. m * k) e) in
      mod_once (a + (m - b)) m t (omega arith) (omega arith)
  | inr more ↦
      let e : w ≡ 1 = omega arith in
      let one : z ≡ m = omega (arith, ap (λ k. m * k) e) in
      mod_none (a + (m - b)) m t (omega arith) (omega arith)
]
