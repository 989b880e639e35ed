-- The search along a name for the last in-record of a face. The last in-record is the one with the
-- latest deadline and, if several have this deadline, the one under the greatest key.
use Rattle.std.proofs.Common.{◌≡◌, ◌≤◌, ◌<◌, ℕ, zero, suc, true, false, List, [], ◌∷◌, ◌++◌, length, take, drop, refl, sym, ap, ◌∙◌, arith}
use Rattle.std.specs.Prelude.{Option, None, Some}
use Rattle.std.specs.FinMap.{get}
use Rattle.std.proofs.Math.Seq.{take-length, drop-length}
use Rattle.ndn_tlv.specs.Element.{Field}
use Rattle.name_trie.specs.Taken.{taken, taken_along}
use Rattle.pit_fib.specs.Kept.{Row, Rows}
use Rattle.pit_fib.specs.Last.{last_above, last_along, last_in_row, last_seen}
use Rattle.pit_fib.specs.Records.{InRecord}

-- a name with more than n components is the concatenation of its first n components, its component
-- at index n, and its components from index n + 1 on
parts : (n : ℕ) (name : List Field) → n < length name → (c : Field) × (drop n name ≡ c ∷ drop (suc n) name) × (take n name ++ c ∷ [] ≡ take (suc n) name)
parts n [] less = absurd (omega arith)
parts zero (c ∷ name) less = (c, refl, refl)
parts (suc n) (x ∷ name) less = let rest = parts n name (omega arith) in (rest.0, rest.1, ap (λ l. x ∷ l) rest.2)

seen_row : (face : ℕ) (last : Option InRecord) (row : Option Row) → taken (last_seen false) (face, last) row ≡ (face, last_in_row false face last row)
seen_row face last None = refl
seen_row face last (Some row) = refl

seen_own : (face : ℕ) (last : Option InRecord) (row : Option Row) → taken (last_seen true) (face, last) row ≡ (face, last_in_row true face last row)
seen_own face last None = refl
seen_own face last (Some row) = refl

module _ (rows : Rows) (face : ℕ) (name : List Field) where
  -- a walk that starts at index `n` with the in-record that `last_above` returns for `n` finds the
  -- same in-record as a walk along the whole name
  walked : (n : ℕ) → n ≤ length name
      → taken_along (last_seen true) (last_seen false) (face, last_above rows face name n) (get rows) (take n name) (drop n name)
      ≡ taken_along (last_seen true) (last_seen false) (face, None) (get rows) [] name
  walked zero le = refl
  walked (suc n) le =
      let p = parts n name (omega (arith, le)) in
      let s : ℕ × Option InRecord = (face, last_above rows face name n) in
      ap (λ s. taken_along (last_seen true) (last_seen false) s (get rows) (take (suc n) name) (drop (suc n) name))
      (sym (seen_row face (last_above rows face name n) (get rows (take n name))))
      ∙ ap (λ front. taken_along (last_seen true) (last_seen false) (taken (last_seen false) s (get rows (take n name))) (get rows) front (drop (suc n) name)) (sym p.2)
      ∙ ap (λ rest. taken_along (last_seen true) (last_seen false) s (get rows) (take n name) rest) (sym p.1)
      ∙ walked n (omega (arith, le))

  pub along_is : taken_along (last_seen true) (last_seen false) (face, None) (get rows) [] name ≡ (face, last_along rows face name)
  along_is =
      let s : ℕ × Option InRecord = (face, last_above rows face name (length name)) in
      sym (walked (length name) (omega arith))
      ∙ ap (λ front. taken_along (last_seen true) (last_seen false) s (get rows) front (drop (length name) name)) (take-length name)
      ∙ ap (λ rest. taken_along (last_seen true) (last_seen false) s (get rows) name rest) (drop-length name)
      ∙ seen_own face (last_above rows face name (length name)) (get rows name)
