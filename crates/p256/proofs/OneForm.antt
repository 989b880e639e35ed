-- A pair of numbers has one DER form.
use Rattle.std.proofs.Common.{◌≡◌, ℕ, ◌+◌, ◌-◌, ◌*◌, ◌^◌, ◌<◌, ◌≤◌, List, [], ◌∷◌, ◌++◌, ◌∙◌, length, get_or, ap, sym, subst, arith, zero, suc, refl, inl, inr}
use Rattle.std.proofs.lemmas.Bool.{cases_lt}
use Rattle.std.proofs.lemmas.Nat.{mul-le, pow-add}
use Rattle.std.proofs.Math.Nat.{pow-le-pow_right}
use Rattle.p256.specs.Der.{IsContents, IsDer, IsElement, IsInteger, IsShortest, element}
use Rattle.p256.specs.Octets.{AreOctets, big_endian}
use Rattle.p256.proofs.BigEndian.{big_endian-cons, big_endian_below}
use Rattle.p256.proofs.Der.{after_second}

-- octets are the form of one pair at most
pub one_pair : (octets : List ℕ) (r s m n : ℕ) → IsDer octets r s → IsDer octets m n → (r ≡ m) × (s ≡ n)
one_pair octets r s m n p q =
    let parts = after_second octets p.body [] p.after_r [] r s m n p.sequence p.r_is p.s_is q in
    (parts.r_is, parts.s_is)

at_each : (x : ℕ) (xs : List ℕ) → x < 256 → AreOctets xs → (k : ℕ) → get_or (x ∷ xs) k 0 < 256
at_each x xs first rest zero = first
at_each x xs first rest (suc k) = rest k

left : (xs ys : List ℕ) → AreOctets (xs ++ ys) → AreOctets xs
left [] ys h = λ k. omega arith
left (x ∷ xs) ys h =
    let more : AreOctets xs = left xs ys (λ k. h (suc k)) in
    λ k. at_each x xs (h zero) more k

right : (xs ys : List ℕ) → AreOctets (xs ++ ys) → AreOctets ys
right [] ys h = h
right (x ∷ xs) ys h = right xs ys (λ k. h (suc k))

octets_in_element : (octets : List ℕ) (tag : ℕ) (contents rest : List ℕ) → AreOctets octets → IsElement octets tag contents rest
    → AreOctets contents × AreOctets rest
octets_in_element octets tag contents rest h e =
    let all : AreOctets (tag ∷ length contents ∷ (contents ++ rest)) = subst (λ t. AreOctets t) e h in
    let both : AreOctets (contents ++ rest) = λ k. all (suc (suc k)) in
    (left contents rest both, right contents rest both)

first_same : (x y p a b : ℕ) → a < p → b < p → x * p + a ≡ y * p + b → x ≡ y
first_same x y p a b ha hb e = elim (cases_lt x y) [
  | inl below ↦ absurd (omega (arith, mul-le (x + 1) p y p (omega arith) (omega arith)))
  | inr above ↦ elim (cases_lt y x) [
    | inl more ↦ absurd (omega (arith, mul-le (y + 1) p x p (omega arith) (omega arith)))
    | inr same ↦ omega arith
  ]
]

-- lists of octets of one length, with one number, are equal
same_octets : (xs ys : List ℕ) → AreOctets xs → AreOctets ys → length xs ≡ length ys → big_endian xs ≡ big_endian ys → xs ≡ ys
same_octets [] [] hx hy size e = refl
same_octets [] (y ∷ ys) hx hy size e = absurd (omega arith)
same_octets (x ∷ xs) [] hx hy size e = absurd (omega arith)
same_octets (x ∷ xs) (y ∷ ys) hx hy size e =
    let tails : length xs ≡ length ys = omega arith in
    let power : 256 ^ length ys ≡ 256 ^ length xs = ap (λ k. 256 ^ k) (sym tails) in
    let below_x : big_endian xs < 256 ^ length xs = big_endian_below xs (λ k _. hx (suc k)) in
    let below_y : big_endian ys < 256 ^ length xs = subst (λ t. big_endian ys < t) power (big_endian_below ys (λ k _. hy (suc k))) in
    let both : x * 256 ^ length xs + big_endian xs ≡ y * 256 ^ length xs + big_endian ys =
    sym (big_endian-cons x xs) ∙ e ∙ big_endian-cons y ys ∙ ap (λ k. y * k + big_endian ys) power in
    let first : x ≡ y = first_same x y (256 ^ length xs) (big_endian xs) (big_endian ys) below_x below_y both in
    let rest : big_endian xs ≡ big_endian ys = omega (arith, ap (λ k. k * 256 ^ length xs) first) in
    let more : xs ≡ ys = same_octets xs ys (λ k. hx (suc k)) (λ k. hy (suc k)) tails rest in
    cc (first, more)

-- a shortest form of m + 2 octets stands for a large number
at_least : (xs : List ℕ) (m : ℕ) → IsShortest xs → length xs ≡ m + 2 → 128 * 256 ^ m ≤ big_endian xs
at_least [] m h size = absurd (omega arith)
at_least (x ∷ []) m h size = absurd (omega arith)
at_least (x ∷ y ∷ xs) m h size =
    let rest : length xs ≡ m = omega arith in
    let power : 256 ^ length xs ≡ 256 ^ m = ap (λ k. 256 ^ k) rest in
    let size_y : length (y ∷ xs) ≡ m + 1 = omega arith in
    let power_y : 256 ^ length (y ∷ xs) ≡ 256 ^ m * 256 = ap (λ k. 256 ^ k) size_y ∙ pow-add 256 m 1 in
    let whole : big_endian (x ∷ y ∷ xs) ≡ x * (256 ^ m * 256) + (y * 256 ^ m + big_endian xs) =
    big_endian-cons x (y ∷ xs) ∙ ap (λ k. x * k + big_endian (y ∷ xs)) power_y
    ∙ ap (λ k. x * (256 ^ m * 256) + k) (big_endian-cons y xs ∙ ap (λ k. y * k + big_endian xs) power) in
    elim (cases_lt 0 x) [
      | inl some ↦ omega (arith, whole, mul-le 1 (256 ^ m) x (256 ^ m) some (omega arith))
      | inr none ↦
          let zero_x : x ≡ 0 = omega arith in
          let high : 128 ≤ y = h.shortest (omega arith) zero_x in
          omega (arith, whole, mul-le 128 (256 ^ m) y (256 ^ m) high (omega arith))
    ]

-- a shortest form of m + 1 octets stands for a small number
at_most : (xs : List ℕ) (m : ℕ) → AreOctets xs → IsShortest xs → length xs ≡ m + 1 → big_endian xs < 128 * 256 ^ m
at_most [] m octets h size = absurd (omega arith)
at_most (x ∷ xs) m octets h size =
    let rest : length xs ≡ m = omega arith in
    let power : 256 ^ length xs ≡ 256 ^ m = ap (λ k. 256 ^ k) rest in
    let first : x < 128 = h.positive in
    let below : big_endian xs < 256 ^ length xs = big_endian_below xs (λ k _. octets (suc k)) in
    omega (arith, big_endian-cons x xs, ap (λ k. x * k) power, mul-le x (256 ^ m) 127 (256 ^ m) (omega arith) (omega arith))

not_shorter : (xs ys : List ℕ) → AreOctets xs → IsShortest xs → IsShortest ys → big_endian xs ≡ big_endian ys
    → length ys ≤ length xs
not_shorter xs ys octets hx hy e = elim (cases_lt (length xs) (length ys)) [
  | inl below ↦
      let small = at_most xs (length xs - 1) octets hx (omega (arith, hx.size.0)) in
      let large = at_least ys (length ys - 2) hy (omega (arith, hx.size.0)) in
      let order : length xs - 1 ≤ length ys - 2 = omega (arith, hx.size.0) in
      let power : 256 ^ (length xs - 1) ≤ 256 ^ (length ys - 2) = pow-le-pow_right {n = 256} (omega arith) order in
      absurd (omega arith)
  | inr above ↦ above
]

same_contents : (xs ys : List ℕ) (n : ℕ) → AreOctets xs → AreOctets ys → IsContents xs n → IsContents ys n → xs ≡ ys
same_contents xs ys n ox oy hx hy =
    let e : big_endian xs ≡ big_endian ys = hx.1 ∙ sym hy.1 in
    let size : length xs ≡ length ys =
    omega (arith, not_shorter xs ys ox hx.0 hy.0 e, not_shorter ys xs oy hy.0 hx.0 (sym e)) in
    same_octets xs ys ox oy size e

same_integers : (a b : List ℕ) (n : ℕ) (rest : List ℕ) → AreOctets a → AreOctets b → IsInteger a n rest → IsInteger b n rest → a ≡ b
same_integers a b n rest oa ob p q =
    let in_a = octets_in_element a 2 p.contents rest oa p.element_is in
    let in_b = octets_in_element b 2 q.contents rest ob q.element_is in
    let same = same_contents p.contents q.contents n in_a.0 in_b.0 p.contents_are q.contents_are in
    p.element_is ∙ ap (λ t. element 2 t ++ rest) same ∙ sym q.element_is

-- a pair has one form at most
pub one_form : (a b : List ℕ) (r s : ℕ) → AreOctets a → AreOctets b → IsDer a r s → IsDer b r s → a ≡ b
one_form a b r s oa ob p q =
    let body_p = octets_in_element a 48 p.body [] oa p.sequence in
    let body_q = octets_in_element b 48 q.body [] ob q.sequence in
    let after_p = octets_in_element p.body 2 p.r_is.contents p.after_r body_p.0 p.r_is.element_is in
    let after_q = octets_in_element q.body 2 q.r_is.contents q.after_r body_q.0 q.r_is.element_is in
    let after = same_integers p.after_r q.after_r s [] after_p.1 after_q.1 p.s_is q.s_is in
    let body = same_integers p.body q.body r q.after_r body_p.0 body_q.0 (subst (λ t. IsInteger p.body r t) after p.r_is) q.r_is in
    p.sequence ∙ ap (λ t. element 48 t ++ []) body ∙ sym q.sequence
