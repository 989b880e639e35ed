-- The shortest encodings of numbers.
use Rattle.std.proofs.Common.{◌≡◌, ◌≢◌, ℕ, ◌^◌, ◌<◌, List, Ok, Err, length, refl, sym, ap, subst, ◌∙◌, arith, inl, inr}
use Rattle.std.proofs.lemmas.Bool.{cases_lt, lt-ltb, le-ltb}
use Rattle.ndn_tlv.specs.declared.fault.TlvFault.{TlvFault}
use Rattle.ndn_tlv.specs.Number.{IsNni, shortest_nni}
use Rattle.ndn_tlv.specs.Reading.{nni_at}
use Rattle.ndn_tlv.proofs.Integers.{length-shortest_one, length-shortest_two, length-shortest_four, nni_of_shortest, nni_alone, shortest_again}

-- an encoding of a number is the shortest one if it has the length of the shortest one
pub is_shortest : (value : List ℕ) (n : ℕ) → IsNni value n → length (shortest_nni n) ≡ length value → value ≡ shortest_nni n
unfolding shortest_nni
is_shortest value n (inl p) same = rw (p.1, lt-ltb n (2 ^ 8) p.0) refl
is_shortest value n (inr (inl p)) same =
    elim (cases_lt n (2 ^ 8)) [
      | inl lt ↦ absurd (omega (arith, same, length-shortest_one n lt, ap length p.1))
      | inr le ↦ rw (p.1, le-ltb n (2 ^ 8) le, lt-ltb n (2 ^ 16) p.0) refl
    ]
is_shortest value n (inr (inr (inl p))) same =
    elim (cases_lt n (2 ^ 16)) [
      | inl lt ↦ absurd (omega (arith, same, length-shortest_two n lt, ap length p.1))
      | inr le ↦ rw (p.1, le-ltb n (2 ^ 8) (omega arith), le-ltb n (2 ^ 16) le, lt-ltb n (2 ^ 32) p.0) refl
    ]
is_shortest value n (inr (inr (inr p))) same =
    elim (cases_lt n (2 ^ 32)) [
      | inl lt ↦ absurd (omega (arith, same, length-shortest_four n lt, ap length p.1))
      | inr le ↦ rw (p.1, le-ltb n (2 ^ 8) (omega arith), le-ltb n (2 ^ 16) (omega arith), le-ltb n (2 ^ 32) le) refl
    ]

-- no two numbers have one shortest encoding
pub shortest_apart : (n m : ℕ) → n < 2 ^ 64 → m < 2 ^ 64 → shortest_nni n ≡ shortest_nni m → n ≡ m
shortest_apart n m n_lt m_lt same =
    nni_alone (shortest_nni m) n m (subst (λ (t : List ℕ). IsNni t n) same (nni_of_shortest n n_lt)) (nni_of_shortest m m_lt)

-- octets that do not encode a number are not the shortest encoding of a number
pub no_number : (value : List ℕ) (why : TlvFault) (n : ℕ) → Err why ≡ nni_at value → n < 2 ^ 64 → value ≢ shortest_nni n
no_number value why n is lt same =
    let ok : nni_at value ≡ Ok n = ap nni_at same ∙ shortest_again n lt in
    cc

-- octets that encode a number, but have another length than its shortest encoding, are not the
-- shortest encoding of any number
pub not_shortest : (value : List ℕ) (m n : ℕ) → Ok m ≡ nni_at value → length (shortest_nni m) ≢ length value → n < 2 ^ 64 → value ≢ shortest_nni n
not_shortest value m n is apart lt same =
    let ok : nni_at value ≡ Ok n = ap nni_at same ∙ shortest_again n lt in
    let one : m ≡ n = cc in
    apart (ap (λ (k : ℕ). length (shortest_nni k)) one ∙ ap length (sym same))

pub nni_fits : (value : List ℕ) (n : ℕ) → IsNni value n → n < 2 ^ 64
nni_fits value n (inl p) = omega (arith, p.0)
nni_fits value n (inr (inl p)) = omega (arith, p.0)
nni_fits value n (inr (inr (inl p))) = omega (arith, p.0)
nni_fits value n (inr (inr (inr p))) = p.0

-- octets that are the shortest encoding of a number encode this number
pub nni_of_same : (value : List ℕ) (n : ℕ) → n < 2 ^ 64 → value ≡ shortest_nni n → IsNni value n
nni_of_same value n lt same = subst (λ (t : List ℕ). IsNni t n) (sym same) (nni_of_shortest n lt)
