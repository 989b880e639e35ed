-- NonNegativeIntegers: `nni_at` reads exactly the valid encodings, and `shortest_nni` is the
-- shortest encoding.
use Rattle.std.proofs.Common.{◌≡◌, ℕ, ◌^◌, ◌<◌, ◌≤◌, ◌⊎◌, Bool, true, false, cond, eqb, List, [], ◌∷◌, length, get_or, Result, Ok, Err, refl, sym, ap, ◌∙◌, arith, inl, inr}
use Rattle.std.specs.Prelude.{IfOk, IfErr}
use Rattle.std.specs.Int.{Width, w16, w32, w64, byte_len, from_be_bytes, to_be_bytes}
use Rattle.std.proofs.lemmas.Bool.{cases_lt, lt-ltb, le-ltb, eqb-true}
use Rattle.ndn_tlv.specs.declared.fault.TlvFault.{TlvFault}
use Rattle.ndn_tlv.specs.declared.fault.TlvFault.TheVariants.{BadInteger}
use Rattle.ndn_tlv.specs.Number.{IsNni, shortest_nni}
use Rattle.ndn_tlv.specs.Reading.{nni_at}
use Rattle.ndn_tlv.proofs.Numbers.{IsBytes, IsWide, wide16, wide32, wide64}

abbrev pub integer : ℕ → Result ℕ TlvFault
integer n = Ok n

integer_is : (n m : ℕ) → integer n ≡ integer m → n ≡ m
integer_is n m e = cc

-- if `cond b x y` equals `z`, either `b` is true and `x` equals `z`, or `b` is false and `y` equals
-- `z`
split : {A : Type 0} (b : Bool) (x y z : A) → cond b x y ≡ z → ((b ≡ true) × (x ≡ z)) ⊎ ((b ≡ false) × (y ≡ z))
split true x y z e = inl (refl, e)
split false x y z e = inr (refl, e)

one_octet : (bytes : List ℕ) → length bytes ≡ 1 → bytes ≡ get_or bytes 0 0 ∷ []
one_octet [] e = absurd (omega arith)
one_octet (b ∷ []) e = refl
one_octet (b ∷ c ∷ bytes) e = absurd (omega arith)

wide_is : (w : Width) (limit : ℕ) (wide : IsWide w limit) (bytes : List ℕ) (n : ℕ) → IsBytes bytes → length bytes ≡ byte_len w → from_be_bytes w bytes ≡ n → (n < limit) × (bytes ≡ to_be_bytes w n)
wide_is w limit wide bytes n fits len e = (rw (← e) (wide.below bytes fits), rw (← e) (sym (wide.back bytes len fits)))

abbrev last : List ℕ → Result ℕ TlvFault
last bytes = cond (eqb (length bytes) 8) (integer (from_be_bytes w64 bytes)) (Err BadInteger)

abbrev from_four : List ℕ → Result ℕ TlvFault
from_four bytes = cond (eqb (length bytes) 4) (integer (from_be_bytes w32 bytes)) (last bytes)

abbrev from_two : List ℕ → Result ℕ TlvFault
from_two bytes = cond (eqb (length bytes) 2) (integer (from_be_bytes w16 bytes)) (from_four bytes)

nni_at-is : (bytes : List ℕ) → nni_at bytes ≡ cond (eqb (length bytes) 1) (integer (get_or bytes 0 0)) (from_two bytes)
unfolding nni_at
nni_at-is bytes = refl

-- if `nni_at` returns a number, the octets encode this number as a NonNegativeInteger
pub nni_found : (bytes : List ℕ) (n : ℕ) → IsBytes bytes → nni_at bytes ≡ Ok n → IsNni bytes n
nni_found bytes n fits e =
    elim (split (eqb (length bytes) 1) (integer (get_or bytes 0 0)) (from_two bytes) (integer n) (sym (nni_at-is bytes) ∙ e)) [
      | inl a ↦
          let is = integer_is (get_or bytes 0 0) n a.1 in
          inl (omega (arith, is, fits 0), one_octet bytes (eqb-true _ _ a.0) ∙ ap (λ (k : ℕ). k ∷ []) is)
      | inr a ↦ elim (split (eqb (length bytes) 2) (integer (from_be_bytes w16 bytes)) (from_four bytes) (integer n) a.1) [
        | inl b ↦ inr (inl (wide_is w16 (2 ^ 16) wide16 bytes n fits (eqb-true _ _ b.0) (integer_is (from_be_bytes w16 bytes) n b.1)))
        | inr b ↦ elim (split (eqb (length bytes) 4) (integer (from_be_bytes w32 bytes)) (last bytes) (integer n) b.1) [
          | inl d ↦ inr (inr (inl (wide_is w32 (2 ^ 32) wide32 bytes n fits (eqb-true _ _ d.0) (integer_is (from_be_bytes w32 bytes) n d.1))))
          | inr d ↦ elim (split (eqb (length bytes) 8) (integer (from_be_bytes w64 bytes)) (Err BadInteger) (integer n) d.1) [
            | inl g ↦ inr (inr (inr (wide_is w64 (2 ^ 64) wide64 bytes n fits (eqb-true _ _ g.0) (integer_is (from_be_bytes w64 bytes) n g.1))))
            | inr g ↦ absurd cc
          ]
        ]
      ]
    ]

nni_at-two : (n : ℕ) → nni_at (to_be_bytes w16 n) ≡ Ok (from_be_bytes w16 (to_be_bytes w16 n))
unfolding nni_at
nni_at-two n = refl

nni_at-four : (n : ℕ) → nni_at (to_be_bytes w32 n) ≡ Ok (from_be_bytes w32 (to_be_bytes w32 n))
unfolding nni_at
nni_at-four n = refl

nni_at-eight : (n : ℕ) → nni_at (to_be_bytes w64 n) ≡ Ok (from_be_bytes w64 (to_be_bytes w64 n))
unfolding nni_at
nni_at-eight n = refl

nni_at-one : (n : ℕ) → nni_at (n ∷ []) ≡ Ok n
unfolding nni_at
nni_at-one n = refl

-- `nni_at` reads each NonNegativeInteger encoding as the encoded number
pub nni_again : (bytes : List ℕ) (n : ℕ) → IsNni bytes n → nni_at bytes ≡ Ok n
nni_again bytes n (inl p) = ap nni_at p.1 ∙ nni_at-one n
nni_again bytes n (inr (inl p)) = ap nni_at p.1 ∙ nni_at-two n ∙ ap integer (wide16.again n p.0)
nni_again bytes n (inr (inr (inl p))) = ap nni_at p.1 ∙ nni_at-four n ∙ ap integer (wide32.again n p.0)
nni_again bytes n (inr (inr (inr p))) = ap nni_at p.1 ∙ nni_at-eight n ∙ ap integer (wide64.again n p.0)

-- octets encode at most one number as a NonNegativeInteger
pub nni_alone : (bytes : List ℕ) (n m : ℕ) → IsNni bytes n → IsNni bytes m → n ≡ m
nni_alone bytes n m p q = integer_is n m (sym (nni_again bytes n p) ∙ nni_again bytes m q)

-- ---- the shortest encoding of a NonNegativeInteger

shortest_one : (n : ℕ) → n < 2 ^ 8 → shortest_nni n ≡ n ∷ []
unfolding shortest_nni
shortest_one n h = rw (lt-ltb n (2 ^ 8) h) refl

shortest_two : (n : ℕ) → 2 ^ 8 ≤ n → n < 2 ^ 16 → shortest_nni n ≡ to_be_bytes w16 n
unfolding shortest_nni
shortest_two n low high = rw (le-ltb n (2 ^ 8) low, lt-ltb n (2 ^ 16) high) refl

shortest_four : (n : ℕ) → 2 ^ 16 ≤ n → n < 2 ^ 32 → shortest_nni n ≡ to_be_bytes w32 n
unfolding shortest_nni
shortest_four n low high = rw (le-ltb n (2 ^ 8) (omega arith), le-ltb n (2 ^ 16) low, lt-ltb n (2 ^ 32) high) refl

shortest_eight : (n : ℕ) → 2 ^ 32 ≤ n → shortest_nni n ≡ to_be_bytes w64 n
unfolding shortest_nni
shortest_eight n low = rw (le-ltb n (2 ^ 8) (omega arith), le-ltb n (2 ^ 16) (omega arith), le-ltb n (2 ^ 32) low) refl

-- the shortest encoding of a number below 2^64 is a NonNegativeInteger encoding of this number
pub nni_of_shortest : (n : ℕ) → n < 2 ^ 64 → IsNni (shortest_nni n) n
nni_of_shortest n h =
    elim (cases_lt n (2 ^ 8)) [
      | inl a ↦ inl (a, shortest_one n a)
      | inr a ↦ elim (cases_lt n (2 ^ 16)) [
        | inl b ↦ inr (inl (b, shortest_two n a b))
        | inr b ↦ elim (cases_lt n (2 ^ 32)) [
          | inl c ↦ inr (inr (inl (c, shortest_four n b c)))
          | inr c ↦ inr (inr (inr (h, shortest_eight n c)))
        ]
      ]
    ]

pub length-shortest_one : (n : ℕ) → n < 2 ^ 8 → length (shortest_nni n) ≡ 1
length-shortest_one n h = ap length (shortest_one n h)

pub length-shortest_two : (n : ℕ) → n < 2 ^ 16 → length (shortest_nni n) ≤ 2
length-shortest_two n h =
    elim (cases_lt n (2 ^ 8)) [
      | inl lt ↦ omega (arith, length-shortest_one n lt)
      | inr le ↦ rw (shortest_two n le h) (omega arith)
    ]

pub length-shortest_four : (n : ℕ) → n < 2 ^ 32 → length (shortest_nni n) ≤ 4
length-shortest_four n h =
    elim (cases_lt n (2 ^ 16)) [
      | inl lt ↦ omega (arith, length-shortest_two n lt)
      | inr le ↦ rw (shortest_four n le h) (omega arith)
    ]

pub length-shortest_eight : (n : ℕ) → length (shortest_nni n) ≤ 8
length-shortest_eight n =
    elim (cases_lt n (2 ^ 32)) [
      | inl lt ↦ omega (arith, length-shortest_four n lt)
      | inr le ↦ rw (shortest_eight n le) (omega arith)
    ]

pub shortest_is_least : (n : ℕ) (text : List ℕ) → IsNni text n → length (shortest_nni n) ≤ length text
shortest_is_least n text (inl p) = omega (arith, length-shortest_one n p.0, ap length p.1)
shortest_is_least n text (inr (inl p)) = omega (arith, length-shortest_two n p.0, ap length p.1)
shortest_is_least n text (inr (inr (inl p))) = omega (arith, length-shortest_four n p.0, ap length p.1)
shortest_is_least n text (inr (inr (inr p))) = omega (arith, length-shortest_eight n, ap length p.1)

-- `nni_at` reads the shortest encoding of a number below 2^64 as this number
pub shortest_again : (n : ℕ) → n < 2 ^ 64 → nni_at (shortest_nni n) ≡ Ok n
shortest_again n h = nni_again (shortest_nni n) n (nni_of_shortest n h)

-- ---- functions that return the result of `nni_at`

pub nni_of-found : (bytes : List ℕ) (r : Result ℕ TlvFault) → IsBytes bytes → r ≡ nni_at bytes → IfOk r (IsNni bytes)
nni_of-found bytes (Ok n) fits e = nni_found bytes n fits (sym e)
nni_of-found bytes (Err f) fits e = tt

pub nni_of-fault : (bytes : List ℕ) (r : Result ℕ TlvFault) → r ≡ nni_at bytes → IfErr r (λ f. f ≡ BadInteger)
nni_of-fault bytes (Ok n) e = tt
nni_of-fault bytes (Err f) e =
    elim (split (eqb (length bytes) 1) (integer (get_or bytes 0 0)) (from_two bytes) (Err f) (sym (nni_at-is bytes) ∙ sym e)) [
      | inl a ↦ let no = a.1 in absurd cc
      | inr a ↦ elim (split (eqb (length bytes) 2) (integer (from_be_bytes w16 bytes)) (from_four bytes) (Err f) a.1) [
        | inl b ↦ let no = b.1 in absurd cc
        | inr b ↦ elim (split (eqb (length bytes) 4) (integer (from_be_bytes w32 bytes)) (last bytes) (Err f) b.1) [
          | inl d ↦ let no = d.1 in absurd cc
          | inr d ↦ elim (split (eqb (length bytes) 8) (integer (from_be_bytes w64 bytes)) (Err BadInteger) (Err f) d.1) [
            | inl g ↦ let no = g.1 in absurd cc
            | inr g ↦ let is = g.1 in cc
          ]
        ]
      ]
    ]
