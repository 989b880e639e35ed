-- The bits of a number of 256 bits, taken from the top by doubling.
use Rattle.std.proofs.Common.{◌≡◌, ℕ, ◌+◌, ◌*◌, ◌/◌, ◌%◌, ◌^◌, ◌<◌, ◌≤◌, ◌∙◌, sym, ap, add-one, arith}
use Rattle.std.proofs.lemmas.Nat.{pow-add}
use Rattle.p256.specs.Curve.{Triple, with_bits, combined}

-- what is taken, and what is left, after one bit more
doubled : (x r c : ℕ) → c ≤ 1 → r < 2 ^ 256 → r + 2 ^ 256 * c ≡ 2 * (x % 2 ^ 256)
    → ((2 * x) % 2 ^ 256 ≡ r) × ((2 * x) / 2 ^ 256 ≡ 2 * (x / 2 ^ 256) + c)
doubled x r c hc hr e = omega arith

halved : (t c : ℕ) → c ≤ 1 → ((2 * t + c) / 2 ≡ t) × ((2 * t + c) % 2 ≡ c)
halved t c hc = omega arith

pub one_more : (n j r c : ℕ) → c ≤ 1 → r < 2 ^ 256 → r + 2 ^ 256 * c ≡ 2 * (n * 2 ^ j % 2 ^ 256)
    → ((n * 2 ^ (j + 1)) % 2 ^ 256 ≡ r) × ((n * 2 ^ (j + 1)) / 2 ^ 256 ≡ 2 * (n * 2 ^ j / 2 ^ 256) + c)
one_more n j r c hc hr e =
    let step : n * 2 ^ (j + 1) ≡ 2 * (n * 2 ^ j) = omega (arith, ap (λ t. n * t) (pow-add 2 j 1)) in
    rw step (doubled (n * 2 ^ j) r c hc hr e)

-- one step of a sum of two multiples
pub combined_step : (m n j c d : ℕ) (p t : Triple) → c ≤ 1 → d ≤ 1
    → (m * 2 ^ (j + 1)) / 2 ^ 256 ≡ 2 * (m * 2 ^ j / 2 ^ 256) + c
    → (n * 2 ^ (j + 1)) / 2 ^ 256 ≡ 2 * (n * 2 ^ j / 2 ^ 256) + d
    → t ≡ with_bits c d (combined j (m * 2 ^ j / 2 ^ 256) (n * 2 ^ j / 2 ^ 256) p) p
    → t ≡ combined (j + 1) (m * 2 ^ (j + 1) / 2 ^ 256) (n * 2 ^ (j + 1) / 2 ^ 256) p
unfolding combined
combined_step m n j c d p t hc hd em en et =
    let u = m * 2 ^ j / 2 ^ 256 in
    let v = n * 2 ^ j / 2 ^ 256 in
    let hu = halved u c hc in
    let hv = halved v d hd in
    et
    ∙ ap (λ a. with_bits a d (combined j u v p) p) (sym hu.1)
    ∙ ap (λ a. with_bits ((2 * u + c) % 2) a (combined j u v p) p) (sym hv.1)
    ∙ ap (λ a. with_bits ((2 * u + c) % 2) ((2 * v + d) % 2) (combined j a v p) p) (sym hu.0)
    ∙ ap (λ a. with_bits ((2 * u + c) % 2) ((2 * v + d) % 2) (combined j ((2 * u + c) / 2) a p) p) (sym hv.0)
    ∙ ap (λ a. combined a (2 * u + c) (2 * v + d) p) (sym (add-one j))
    ∙ ap (λ a. combined (j + 1) a (2 * v + d) p) (sym em)
    ∙ ap (λ a. combined (j + 1) (m * 2 ^ (j + 1) / 2 ^ 256) a p) (sym en)
