-- The DER form of a signature.
use Rattle.std.proofs.Common.{◌≡◌, ◌≢◌, ℕ, ◌+◌, ◌*◌, ◌^◌, ◌≤◌, List, [], ◌∷◌, ◌++◌, ◌∙◌, length, get_or, drop, ap, sym, subst, arith, refl}
use Rattle.std.proofs.lemmas.Nat.{mul-le}
use Rattle.p256.specs.Der.{IsDer, IsElement, IsInteger}
use Rattle.p256.specs.Octets.{big_endian}
use Rattle.p256.proofs.BigEndian.{big_endian-cons}

-- 33 octets whose first is not 0 stand for 2^256 or more
pub big_endian-long : (xs : List ℕ) → length xs ≡ 33 → get_or xs 0 0 ≢ 0 → 2 ^ 256 ≤ big_endian xs
big_endian-long [] size first = absurd (omega arith)
big_endian-long (x ∷ xs) size first =
    let nonzero : 1 ≤ x = omega (arith, first) in
    let power : 256 ^ length xs ≡ 256 ^ 32 = ap (λ k. 256 ^ k) (let e : length xs ≡ 32 = omega arith in e) in
    omega (arith, big_endian-cons x xs, power, mul-le 1 (256 ^ length xs) x (256 ^ length xs) nonzero (omega arith))

-- a first octet 0 adds nothing
pub big_endian-zero : (xs : List ℕ) → 1 ≤ length xs → get_or xs 0 0 ≡ 0 → big_endian xs ≡ big_endian (drop 1 xs)
big_endian-zero [] size first = absurd (omega arith)
big_endian-zero (x ∷ xs) size first =
    big_endian-cons x xs ∙ ap (λ k. k * 256 ^ length xs + big_endian xs) first ∙ omega arith

cut : (a b c d : List ℕ) → length a ≡ length c → a ++ b ≡ c ++ d → (a ≡ c) × (b ≡ d)
cut [] b [] d size e = (refl, e)
cut [] b (y ∷ c) d size e = absurd (omega arith)
cut (x ∷ a) b [] d size e = absurd (omega arith)
cut (x ∷ a) b (y ∷ c) d size e =
    let first : x ≡ y = cc in
    let rest : a ++ b ≡ c ++ d = cc in
    let more = cut a b c d (omega arith) rest in
    ((let f : x ∷ a ≡ y ∷ c = cc (first, more.0) in f), more.1)

-- octets begin with one element of a tag at most
pub one_element : (octets : List ℕ) (tag : ℕ) (a b c d : List ℕ) → IsElement octets tag a b → IsElement octets tag c d
    → (a ≡ c) × (b ≡ d)
one_element octets tag a b c d p q =
    let e : tag ∷ length a ∷ (a ++ b) ≡ tag ∷ length c ∷ (c ++ d) = sym p ∙ q in
    cut a b c d (cc e) (cc e)

-- octets begin with one INTEGER at most
pub one_integer : (octets : List ℕ) (m n : ℕ) (b d : List ℕ) → IsInteger octets m b → IsInteger octets n d
    → (m ≡ n) × (b ≡ d)
one_integer octets m n b d p q =
    let e = one_element octets 2 p.contents b q.contents d p.element_is q.element_is in
    (sym p.contents_are.1 ∙ ap big_endian e.0 ∙ q.contents_are.1, e.1)

-- what octets are split into, if they are the form of a signature
pub record Parts (end after_s : List ℕ) (m n r s : ℕ) : Type 0 where
  pub no_end : end ≡ []
  pub no_rest : after_s ≡ []
  pub r_is : m ≡ r
  pub s_is : n ≡ s

-- octets are the form of one signature at most
pub after_first : (octets body end after_r : List ℕ) (m r s : ℕ) → IsElement octets 48 body end → IsInteger body m after_r
    → (d : IsDer octets r s) → (end ≡ []) × (m ≡ r) × (after_r ≡ d.after_r)
after_first octets body end after_r m r s p q d =
    let whole = one_element octets 48 body end d.body [] p d.sequence in
    let first = one_integer d.body m r after_r d.after_r (subst (λ t. IsInteger t m after_r) whole.0 q) d.r_is in
    (whole.1, first.0, first.1)

pub after_second : (octets body end after_r after_s : List ℕ) (m n r s : ℕ) → IsElement octets 48 body end
    → IsInteger body m after_r → IsInteger after_r n after_s → IsDer octets r s → Parts end after_s m n r s
after_second octets body end after_r after_s m n r s p q t d =
    let first = after_first octets body end after_r m r s p q d in
    let second = one_integer d.after_r n s after_s [] (subst (λ u. IsInteger u n after_s) first.2 t) d.s_is in
    record { no_end = first.0; no_rest = second.1; r_is = first.1; s_is = second.0 }
