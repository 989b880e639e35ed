-- Numbers in octets.
use Rattle.std.proofs.Common.{◌≡◌, ℕ, ◌+◌, ◌*◌, ◌^◌, ◌<◌, ◌≤◌, List, [], ◌∷◌, ◌++◌, ◌∙◌, length, get_or, take, refl, ap, subst, sym, suc, arith, length-append, zero}
use Rattle.std.proofs.lemmas.List.{take_more, length-take-le, get_or-take}
use Rattle.std.proofs.lemmas.Nat.{mul-le, pow-add}
use Rattle.std.proofs.Math.Nat.{pow-le-pow_right}
use Rattle.p256.specs.Octets.{big_endian}

pub big_endian-nil : big_endian [] ≡ 0
unfolding big_endian
big_endian-nil = refl

-- one octet more at the start
pub big_endian-cons : (x : ℕ) (xs : List ℕ) → big_endian (x ∷ xs) ≡ x * 256 ^ length xs + big_endian xs
unfolding big_endian
big_endian-cons x xs = refl

-- one octet more at the end
pub big_endian-append : (xs : List ℕ) (x : ℕ) → big_endian (xs ++ x ∷ []) ≡ 256 * big_endian xs + x
unfolding big_endian
big_endian-append [] x = omega arith
big_endian-append (y ∷ ys) x =
    omega (arith, big_endian-append ys x, ap (λ k. y * 256 ^ k) (length-append ys (x ∷ [])), ap (λ k. y * k) (pow-add 256 (length ys) 1))

-- octets are below a power of 256
pub big_endian_below : (xs : List ℕ) → ((k : ℕ) → k < length xs → get_or xs k 0 < 256) → big_endian xs < 256 ^ length xs
unfolding big_endian
big_endian_below [] h = omega arith
big_endian_below (x ∷ xs) h =
    let tail : (k : ℕ) → k < length xs → get_or xs k 0 < 256 = λ k lt. h (suc k) (omega arith) in
    let rest : big_endian xs < 256 ^ length xs = big_endian_below xs tail in
    let first : x < 256 = h zero (omega arith) in
    let size : length (x ∷ xs) ≡ length xs + 1 = omega arith in
    omega (arith, ap (λ k. 256 ^ k) size, mul-le x (256 ^ length xs) 255 (256 ^ length xs) (omega arith) (omega arith), pow-add 256 (length xs) 1)

-- the first i octets, and one more
pub big_endian_more : (xs : List ℕ) (i n : ℕ) → i < length xs → n ≡ big_endian (take i xs)
    → 256 * n + get_or xs i 0 ≡ big_endian (take (i + 1) xs)
big_endian_more xs i n lt e =
    ap (λ k. 256 * k + get_or xs i 0) e
    ∙ sym (big_endian-append (take i xs) (get_or xs i 0))
    ∙ ap big_endian (sym (take_more xs i 0 lt))

-- the first i octets, of at most 32, leave room for one more
pub big_endian_room : (xs : List ℕ) (i : ℕ) → ((k : ℕ) → get_or xs k 0 < 256) → i < length xs → length xs ≤ 32
    → big_endian (take i xs) < 2 ^ 248
big_endian_room xs i h lt le =
    let size : length (take i xs) ≡ i = length-take-le i xs (omega arith) in
    let small : (k : ℕ) → k < length (take i xs) → get_or (take i xs) k 0 < 256 =
    λ k below. let inside : k < i = omega arith in subst (λ t. t < 256) (sym (get_or-take i xs k 0 inside)) (h k) in
    let few : length (take i xs) ≤ 31 = omega arith in
    let power : 256 ^ length (take i xs) ≤ 256 ^ 31 = pow-le-pow_right {n = 256} (omega arith) few in
    omega (arith, big_endian_below (take i xs) small, power)
