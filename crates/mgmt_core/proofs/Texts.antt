-- Indexes of lists, segments of texts, and concatenations of texts.
use Rattle.std.proofs.Common.{◌≡◌, ℕ, suc, zero, ◌+◌, ◌<◌, ◌≤◌, List, [], ◌∷◌, ◌++◌, length, take, drop, refl, sym, ap, ◌∙◌, append_assoc, append-nil, add-one, arith, inl, inr}
use Rattle.std.specs.Prelude.{flat_map, slice_get, unwrap_or, Some, None, ◌-◌, ◌*◌, ◌/◌, min}
use Rattle.std.proofs.lemmas.List.{take_all}
use Rattle.std.proofs.lemmas.Bool.{cases_lt}
use Rattle.mgmt_core.specs.Writing.{segment_at}

-- a list has an item at each index that is less than the length of the list
pub never_absent : {X : Type 0} (xs : List X) (at : ℕ) → at < length xs → slice_get xs at ≡ None → Unit {0} → at < at
never_absent [] at lt is u = omega arith
never_absent (x ∷ xs) zero lt is u = absurd cc
never_absent (x ∷ xs) (suc at) lt is u = let le = never_absent xs at (omega arith) is u in omega (arith, le)

pub take_min : (n : ℕ) (xs : List ℕ) → take (min (length xs) n) xs ≡ take n xs
take_min n xs =
    elim (cases_lt n (length xs)) [
      | inl lt ↦ let e : min (length xs) n ≡ n = omega arith in rw e refl
      | inr le ↦ let e : min (length xs) n ≡ length xs = omega arith in rw e (take_all (length xs) xs (omega arith) ∙ sym (take_all n xs le))
    ]

pub segment_is : (text : List ℕ) (k last : ℕ) (rest : List ℕ) → last ≡ (length text - 1) / 4096 → k ≤ last → rest ≡ drop (k * 4096) text
    → Some (take (min (length rest) 4096) rest, last) ≡ segment_at text k
segment_is text k last rest at_last le is =
    ap (λ (t : List ℕ). Some (t, last)) (take_min 4096 rest ∙ ap (take 4096) is)
    ∙ grind (arith, at_last, le)

-- the concatenated texts of the first `at + 1` items are the concatenated texts of the first `at`
-- items, followed by the text of the item `x` at index `at`
pub texts_and_one : {X : Type 0} (text_of : X → List ℕ) (xs : List X) (at : ℕ) (x : X) → slice_get xs at ≡ Some x
    → flat_map text_of (take at xs) ++ text_of x ≡ flat_map text_of (take (at + 1) xs)
texts_and_one text_of [] at x is = absurd cc
texts_and_one text_of (y ∷ ys) zero x is =
    ap text_of (sym (ap (λ o. unwrap_or o y) is)) ∙ sym (append-nil (text_of y))
texts_and_one text_of (y ∷ ys) (suc at) x is =
    rw add-one (append_assoc (text_of y) (flat_map text_of (take at ys)) (text_of x) ∙ ap (λ t. text_of y ++ t) (texts_and_one text_of ys at x is ∙ ap (λ n. flat_map text_of (take n ys)) (add-one at)))
