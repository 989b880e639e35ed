-- Reading the octets of a value one after the other.
use Rattle.std.proofs.Common.{◌≡◌, ℕ, ◌+◌, ◌*◌, ◌<◌, length, get_or, drop, arith, List, [], ◌∷◌, ◌++◌, Result, Ok, Err, refl, sym, ap, ◌∙◌, append_assoc}
use Rattle.std.proofs.lemmas.List.{append-nil, drop_more}
use Rattle.ndn_tlv.specs.Reading.{◌>>=◌}
use Rattle.ndn_names.specs.declared.fault.NameFault.{NameFault}
use Rattle.ndn_names.specs.UriReading.{before, pair_in, hex_in}

-- the octets `front` followed by the octets `others`, or the fault of `others`
abbrev pub after_these : List ℕ → Result (List ℕ) NameFault → Result (List ℕ) NameFault
after_these front others = do
  octets ← others
  Ok (front ++ octets)

-- `now` is `old` followed by some octets, and `text` reads as these octets, followed by what `rest`
-- reads as
abbrev pub HasPut : (List ℕ → Result (List ℕ) NameFault) → List ℕ → List ℕ → List ℕ → List ℕ → Type 0
HasPut reading old now text rest = (front : List ℕ) × (now ≡ old ++ front) × (reading text ≡ after_these front (reading rest))

pub put_nothing : (reading : List ℕ → Result (List ℕ) NameFault) (old now text : List ℕ) → now ≡ old → HasPut reading old now text text
put_nothing reading old now text e = ([], e ∙ sym (append-nil old), sym (nothing (reading text)))
  where
    nothing : (r : Result (List ℕ) NameFault) → after_these [] r ≡ r
    nothing (Ok octets) = refl
    nothing (Err fault) = refl

pub put_one : (reading : List ℕ → Result (List ℕ) NameFault) (old now text rest after : List ℕ) (octet : ℕ) → HasPut reading old now text rest → reading rest ≡ before octet (reading after)
    → HasPut reading old (now ++ octet ∷ []) text after
put_one reading old now text rest after octet h e =
    (h.0 ++ octet ∷ [], ap (λ (t : List ℕ). t ++ octet ∷ []) h.1 ∙ append_assoc old h.0 (octet ∷ []), h.2 ∙ ap (after_these h.0) e ∙ moved h.0 (reading after))
  where
    moved : (front : List ℕ) (r : Result (List ℕ) NameFault) → after_these front (before octet r) ≡ after_these (front ++ octet ∷ []) r
    moved front (Ok octets) = ap (λ (t : List ℕ). Ok t) (sym (append_assoc front (octet ∷ []) octets))
    moved front (Err fault) = refl

-- The text from the i-th pair of digits on is the two digits of this pair, followed by the text
-- from the next pair on. Pairs are counted from 0.
pair_at : (text : List ℕ) (i : ℕ) → 2 * i + 1 < length text → drop (2 * i) text ≡ get_or text (2 * i) 0 ∷ get_or text (2 * i + 1) 0 ∷ drop (2 * (i + 1)) text
pair_at text i lt =
    let next : 2 * i + 1 + 1 ≡ 2 * (i + 1) = omega arith in
    drop_more text (2 * i) 0 (omega arith)
    ∙ ap (λ (t : List ℕ). get_or text (2 * i) 0 ∷ t) (drop_more text (2 * i + 1) 0 lt ∙ ap (λ (k : ℕ). get_or text (2 * i + 1) 0 ∷ drop k text) next)

pub put_pair : (now text : List ℕ) (i octet : ℕ) → 2 * i + 1 < length text → HasPut hex_in [] now text (drop (2 * i) text) → pair_in (get_or text (2 * i) 0) (get_or text (2 * i + 1) 0) ≡ Ok octet
    → HasPut hex_in [] (now ++ octet ∷ []) text (drop (2 * (i + 1)) text)
put_pair now text i octet lt h e =
    put_one hex_in [] now text (drop (2 * i) text) (drop (2 * (i + 1)) text) octet h
    (ap hex_in (pair_at text i lt) ∙ ap (λ (r : Result ℕ NameFault). r >>= λ o. before o (hex_in (drop (2 * (i + 1)) text))) e)
