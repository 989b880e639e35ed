-- The octets that a component's text encodes are counted before this text is decoded.
use Rattle.std.proofs.Common.{◌≡◌, ℕ, suc, ◌+◌, ◌*◌, ◌<◌, ◌≤◌, Bool, true, false, length, get_or, drop, take, arith, List, [], ◌∷◌, ◌++◌, Result, Ok, Err, refl, sym, ap, ◌∙◌, length-append, inl, inr, eq-eqb}
use Rattle.std.specs.Prelude.{◌&&◌, ◌==◌}
use Rattle.std.proofs.lemmas.Bool.{cases_eq, ne_eqb}
use Rattle.std.proofs.lemmas.List.{append-nil, drop_all}
use Rattle.std.proofs.lemmas.List.Folds.{list_all-append}
use Rattle.ndn_tlv.specs.Element.{Field}
use Rattle.ndn_tlv.specs.Number.{shortest_nni}
use Rattle.ndn_names.specs.declared.fault.NameFault.{NameFault}
use Rattle.ndn_names.specs.Uri.{is_periods}
use Rattle.ndn_names.specs.Reading.{component_of}
use Rattle.ndn_names.specs.UriReading.{before, pair_in, hex_in, octets_in, unpadded, plain_in, number_in, numbered_in, digest_in}
use Rattle.ndn_names.proofs.Names.{bind_ok}
use Rattle.ndn_names.proofs.Octets.{HasPut, after_these, put_nothing, put_one, put_pair}

-- the text before `rest` encodes `count` octets, and `has_periods_only` tells whether all of these
-- octets are periods
abbrev pub HasCounted : ℕ → Bool → List ℕ → List ℕ → Type 0
HasCounted count has_periods_only text rest =
    (items : List ℕ) × HasPut octets_in [] items text rest × (count ≡ length items) × (has_periods_only ≡ is_periods items)
    × (count + length rest ≤ length text)

pub counted_nothing : (text : List ℕ) → HasCounted 0 true text text
counted_nothing text = ([], put_nothing octets_in [] [] text refl, refl, refl, omega arith)

periods_more : (items : List ℕ) (octet : ℕ) → is_periods (items ++ octet ∷ []) ≡ (is_periods items && (octet == 46))
periods_more items octet = list_all-append (λ o. o == 46) items (octet ∷ []) ∙ ap (λ (b : Bool). is_periods items && b) (one (octet == 46))
  where
    one : (b : Bool) → (b && true) ≡ b
    one true = refl
    one false = refl

pub counted_one : (count : ℕ) (has_periods_only : Bool) (text rest after : List ℕ) (octet : ℕ) → HasCounted count has_periods_only text rest → octets_in rest ≡ before octet (octets_in after)
    → length after < length rest → HasCounted (count + 1) (has_periods_only && (octet == 46)) text after
counted_one count has_periods_only text rest after octet h e shorter = (
  h.0 ++ octet ∷ [],
  put_one octets_in [] h.0 text rest after octet h.1 e,
  omega (arith, length-append h.0 (octet ∷ []), h.2),
  ap (λ (b : Bool). b && (octet == 46)) h.3 ∙ sym (periods_more h.0 octet),
  omega (arith, h.4),
)

all_read : (reading : List ℕ → Result (List ℕ) NameFault) (items text rest : List ℕ) → HasPut reading [] items text rest → reading rest ≡ Ok [] → reading text ≡ Ok items
all_read reading items text rest h e = h.2 ∙ ap (after_these h.0) e ∙ ap (λ (t : List ℕ). Ok t) (append-nil h.0 ∙ sym h.1)

pub counted_all : (count : ℕ) (has_periods_only : Bool) (text rest : List ℕ) → HasCounted count has_periods_only text rest → rest ≡ []
    → (octets : List ℕ) × (octets_in text ≡ Ok octets) × (count ≡ length octets) × (has_periods_only ≡ is_periods octets)
counted_all count has_periods_only text rest h e = (h.0, all_read octets_in h.0 text rest h.1 (ap octets_in e), h.2, h.3)

-- the first i pairs of hexadecimal digits in the text read as i octets
abbrev pub HasPaired : ℕ → List ℕ → Type 0
HasPaired i text = (items : List ℕ) × HasPut hex_in [] items text (drop (2 * i) text) × (length items ≡ i)

pub paired_nothing : (text : List ℕ) → HasPaired 0 text
paired_nothing text = ([], put_nothing hex_in [] [] text refl, refl)

pub paired_one : (i octet : ℕ) (text : List ℕ) → 2 * i + 1 < length text → HasPaired i text → pair_in (get_or text (2 * i) 0) (get_or text (2 * i + 1) 0) ≡ Ok octet → HasPaired (i + 1) text
paired_one i octet text lt h e = (h.0 ++ octet ∷ [], put_pair h.0 text i octet lt h.1 e, omega (arith, length-append h.0 (octet ∷ []), h.2))

-- `read` succeeds with a component that has the type `kind` and a value of `len` octets, and
-- `value` succeeds with the value of this component
abbrev pub HasRead : Result Field NameFault → ℕ → ℕ → Result (List ℕ) NameFault → Type 0
HasRead read kind len value =
    (field : Field) × (read ≡ Ok field) × ((kind ≡ field.0) × (len ≡ length field.1) × (value ≡ Ok field.1))

pub digest_said : (kind : ℕ) (text : List ℕ) (i : ℕ) → length text ≡ 64 → i ≡ 32 → HasPaired i text → HasRead (digest_in kind text) kind 32 (hex_in text)
digest_said kind text i long done h =
    let none : drop (2 * i) text ≡ [] = drop_all (2 * i) text (omega arith) in
    let read = all_read hex_in h.0 text (drop (2 * i) text) h.1 (ap hex_in none) in
    ((kind, h.0), rw (eq-eqb (length text) 64 long, read) refl, (refl, sym (h.2 ∙ done), read))

pub number_said : (kind n len : ℕ) (text : List ℕ) → number_in text ≡ Ok n → len ≡ length (shortest_nni n) → HasRead (numbered_in kind text) kind len (Ok (shortest_nni n))
number_said kind n len text e is = ((kind, shortest_nni n), rw e refl, (refl, is, refl))

pub plain_said : (kind found len : ℕ) (text octets : List ℕ) (value : Result (List ℕ) NameFault) → octets_in text ≡ Ok octets → unpadded octets ≡ Ok (take len octets) → len ≡ length (take len octets)
    → component_of (kind, take len octets) ≡ Ok (found, take len octets) → value ≡ Ok (take len octets) → HasRead (plain_in kind text) found len value
plain_said kind found len text octets value read cut is component e = ((found, take len octets), rw (read, cut, component) refl, (refl, is, e))

-- if `before octet r` returns octets, `r` succeeds, and these octets are `octet` followed by the
-- result of `r`
pub before_found : (octet : ℕ) (r : Result (List ℕ) NameFault) (octets : List ℕ) → before octet r ≡ Ok octets → (rest : List ℕ) × (r ≡ Ok rest) × (octets ≡ octet ∷ rest)
before_found octet (Ok rest) octets e = (rest, refl, cc)
before_found octet (Err fault) octets e = absurd cc

abbrev pub IsWithin : List ℕ → List ℕ → Type 0
IsWithin text octets = (length octets ≤ length text) × (length octets ≡ length text → octets ≡ text)

plain_within : (octet : ℕ) (text octets rest : List ℕ) → octets ≡ octet ∷ rest → IsWithin text rest → IsWithin (octet ∷ text) octets
plain_within octet text octets rest e h =
    let long : length octets ≡ suc (length rest) = ap length e in
    (omega (arith, h.0), λ same. e ∙ ap (λ (t : List ℕ). octet ∷ t) (h.1 (omega arith)))

escape_within : (b c octet : ℕ) (text octets rest : List ℕ) → octets ≡ octet ∷ rest → IsWithin text rest → IsWithin (37 ∷ b ∷ c ∷ text) octets
escape_within b c octet text octets rest e h =
    let long : length octets ≡ suc (length rest) = ap length e in
    (omega (arith, h.0), λ same. absurd (omega (arith, h.0)))

pub read_within : (text octets : List ℕ) → octets_in text ≡ Ok octets → IsWithin text octets
read_within [] octets e = let none : octets ≡ [] = cc in (omega (arith, ap length none), λ same. none)
read_within (a ∷ []) octets e =
    elim (cases_eq a 37) [
      | inl sign ↦ let no = rw (eq-eqb a 37 sign) at e in absurd cc
      | inr other ↦ plain_within a [] octets [] (let read = rw (ne_eqb a 37 other) at e in cc) (omega arith, λ same. refl)
    ]
read_within (a ∷ b ∷ []) octets e =
    elim (cases_eq a 37) [
      | inl sign ↦ let no = rw (eq-eqb a 37 sign) at e in absurd cc
      | inr other ↦
          let p = before_found a (octets_in (b ∷ [])) octets (rw (ne_eqb a 37 other) at e) in
          plain_within a (b ∷ []) octets p.0 p.2 (read_within (b ∷ []) p.0 p.1)
    ]
read_within (a ∷ b ∷ c ∷ text) octets e =
    elim (cases_eq a 37) [
      | inl sign ↦
          let p = bind_ok (pair_in b c) (λ o. before o (octets_in text)) octets (rw (eq-eqb a 37 sign) at e) in
          let q = before_found p.0 (octets_in text) octets p.2 in
          rw sign (escape_within b c p.0 text octets q.0 q.2 (read_within text q.0 q.1))
      | inr other ↦
          let p = before_found a (octets_in (b ∷ c ∷ text)) octets (rw (ne_eqb a 37 other) at e) in
          plain_within a (b ∷ c ∷ text) octets p.0 p.2 (read_within (b ∷ c ∷ text) p.0 p.1)
    ]
