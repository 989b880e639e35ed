-- Which texts are refused as the hexadecimal digits of 4 octets.
use Rattle.std.proofs.Common.{◌≡◌, ℕ, ◌*◌, ◌%◌, List, length, Result, Ok, Err, MatchResult, sym, ◌∙◌, arith, inl, inr}
use Rattle.std.proofs.lemmas.Bool.{cases_eq}
use Rattle.std.proofs.lemmas.Result.{MatchResult-at_ok}
use Rattle.hex.specs.declared.error.FromHexError.{FromHexError}
use Rattle.hex.specs.Hex.{decode_of, decode_sized}
use Rattle.hex.proofs.HexLemmas.{decode_of-odd, decode_of-even, decode_pairs-ok, decode_sized-twice}
use Rattle.ndn_jobs.specs.Value.{IsNonce}

-- a text that decodes has two digits for each octet
twice : (text octets : List ℕ) → decode_of text ≡ Ok octets → length text ≡ 2 * length octets
twice text octets e = elim (cases_eq (length text % 2) 1) [
  | inl odd ↦ let both : Ok octets ≡ Err _ = sym e ∙ decode_of-odd text odd in absurd cc
  | inr even ↦ (decode_pairs-ok 0 text octets (sym (decode_of-even text (omega arith)) ∙ e)).1
]

abbrev ok : Result Unit FromHexError
ok = Ok tt

pub no_nonce : (text out : List ℕ) (result : Result Unit FromHexError) (why : FromHexError) → result ≡ Err why
    → MatchResult (decode_sized text 4) (λ octets. (result ≡ ok) × (out ≡ octets)) (λ cause. result ≡ Err cause)
    → (octets : List ℕ) → IsNonce text octets → ⊥
no_nonce text out result why e h octets n =
    let sized : decode_sized text 4 ≡ Ok octets = decode_sized-twice text 4 (twice text octets n.0 ∙ omega arith) ∙ n.0 in
    let read = MatchResult-at_ok _ _ octets sized h in
    let both : Err why ≡ ok = sym e ∙ read.0 in
    absurd cc
