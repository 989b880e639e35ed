-- Which octets are the shortest NonNegativeInteger encoding of the number that they encode.
use Rattle.std.proofs.Common.{◌≡◌, ◌≢◌, ℕ, ◌^◌, ◌<◌, ◌≤◌, cond, eqb, leb, List, Some, Result, Ok, Err, length, refl, sym, ap, ◌∙◌, arith, inl, inr}
use Rattle.std.specs.Bool.{then_some}
use Rattle.std.specs.Prelude.{IfOk}
use Rattle.std.specs.Result.{result_ok}
use Rattle.std.specs.Str.{bytes_eq}
use Rattle.std.proofs.lemmas.Bool.{cases_lt, lt-ltb, le-ltb, le-leb, lt-leb, false_from_ne_true}
use Rattle.std.proofs.lemmas.Slice.Eq.{bytes_eq-Decides}
use Rattle.ndn_tlv.specs.declared.fault.TlvFault.{TlvFault}
use Rattle.ndn_tlv.specs.Number.{IsNni, shortest_nni}
use Rattle.ndn_tlv.specs.Reading.{nni_at}
use Rattle.ndn_tlv.proofs.Integers.{length-shortest_one, length-shortest_two, length-shortest_four}
use Rattle.ndn_names.specs.TypeName.{shortest_number}

-- the least number whose shortest encoding has `len` octets, if `len` is 1, 2, 4 or 8
abbrev pub least_of : ℕ → ℕ
least_of len = cond (eqb len 1) 0 (cond (eqb len 2) (2 ^ 8) (cond (eqb len 4) (2 ^ 16) (2 ^ 32)))

-- if `value` encodes the number n, and n is at least `least_of (length value)`, then `value` is the
-- shortest encoding of n
shortest_from : (value : List ℕ) (n : ℕ) → IsNni value n → least_of (length value) ≤ n → shortest_nni n ≡ value
unfolding shortest_nni
shortest_from value n (inl p) le = rw (p.1, lt-ltb n (2 ^ 8) p.0) refl
shortest_from value n (inr (inl p)) le =
    let low : 2 ^ 8 ≤ n = rw p.1 at le in
    rw (p.1, le-ltb n (2 ^ 8) low, lt-ltb n (2 ^ 16) p.0) refl
shortest_from value n (inr (inr (inl p))) le =
    let low : 2 ^ 16 ≤ n = rw p.1 at le in
    rw (p.1, le-ltb n (2 ^ 8) (omega arith), le-ltb n (2 ^ 16) low, lt-ltb n (2 ^ 32) p.0) refl
shortest_from value n (inr (inr (inr p))) le =
    let low : 2 ^ 32 ≤ n = rw p.1 at le in
    rw (p.1, le-ltb n (2 ^ 8) (omega arith), le-ltb n (2 ^ 16) (omega arith), le-ltb n (2 ^ 32) low) refl

not_shortest : (value : List ℕ) (n : ℕ) → IsNni value n → n < least_of (length value) → shortest_nni n ≢ value
not_shortest value n (inl p) lt e = let no : n < 0 = rw p.1 at lt in absurd (omega arith)
not_shortest value n (inr (inl p)) lt e =
    let small : n < 2 ^ 8 = rw p.1 at lt in
    omega (arith, length-shortest_one n small, ap length e, ap length p.1)
not_shortest value n (inr (inr (inl p))) lt e =
    let small : n < 2 ^ 16 = rw p.1 at lt in
    omega (arith, length-shortest_two n small, ap length e, ap length p.1)
not_shortest value n (inr (inr (inr p))) lt e =
    let small : n < 2 ^ 32 = rw p.1 at lt in
    omega (arith, length-shortest_four n small, ap length e, ap length p.1)

-- if `value` encodes the number n, then `value` is the shortest encoding of n exactly if n is at
-- least `least_of (length value)`
tested : (value : List ℕ) (n : ℕ) → nni_at value ≡ Ok n → IsNni value n → then_some (leb (least_of (length value)) n) n ≡ shortest_number value
tested value n is nni =
    elim (cases_lt n (least_of (length value))) [
      | inl lt ↦ rw (is, lt-leb (least_of (length value)) n lt, false_from_ne_true (bytes_eq (shortest_nni n) value) (λ e. not_shortest value n nni lt ((bytes_eq-Decides _ _).0 e))) refl
      | inr le ↦ rw (is, le-leb (least_of (length value)) n le, (bytes_eq-Decides (shortest_nni n) value).1 (shortest_from value n nni le)) refl
    ]

-- Let reading `value` give the number n. If n is at least `least_of (length value)`, then
-- `shortest_number value` is n. If n is less, `shortest_number value` is `None`.
pub shortest_number-is : (value : List ℕ) (r : Result ℕ TlvFault) (n least : ℕ) → r ≡ nni_at value → IfOk r (IsNni value) → Some n ≡ result_ok r → least ≡ least_of (length value)
    → then_some (leb least n) n ≡ shortest_number value
shortest_number-is value (Ok m) n least e nni is l =
    let same : m ≡ n = cc in
    rw l (tested value n (sym e ∙ ap Ok same) (rw same at nni))
shortest_number-is value (Err f) n least e nni is l = absurd cc
