-- One segment of a text, the only part that is stored while the text is written.
use Rattle.std.proofs.Common.{◌≡◌, ℕ, zero, suc, ◌+◌, ◌-◌, ◌≤◌, List, [], ◌∷◌, ◌++◌, length, take, drop, length-append, refl, sym, ap, ◌∙◌, append_assoc, append-nil, arith, inl, inr}
use Rattle.std.proofs.Math.Seq.{take-append-add}
use Rattle.std.proofs.lemmas.Bool.{cases_lt}
use Rattle.std.proofs.lemmas.List.{length-take}
use Rattle.std.specs.Prelude.{flat_map, min}
use Rattle.ndn_tlv.specs.Element.{Field}
use Rattle.ndn_names.specs.Name.{octets_of}
use Rattle.name_trie.specs.Shown.{shown_each}
use Rattle.mgmt_core.specs.Windows.{Kept, kept_of, with_more}
use Rattle.mgmt_core.proofs.Texts.{take_min}

drop_past : (n : ℕ) (xs : List ℕ) → length xs ≤ n → drop n xs ≡ []
drop_past zero [] le = refl
drop_past (suc n) [] le = refl
drop_past zero (x ∷ xs) le = absurd (omega (arith, le))
drop_past (suc n) (x ∷ xs) le = drop_past n xs (omega (arith, le))

drop_both : (n : ℕ) (xs ys : List ℕ) → drop n (xs ++ ys) ≡ drop n xs ++ drop (n - length xs) ys
drop_both n [] ys = (let same : n - 0 ≡ n = omega arith in sym (ap (λ m. drop m ys) same)) ∙ ap (λ (l : List ℕ). l ++ drop (n - 0) ys) (sym (drop_past n [] (omega arith)))
drop_both zero (x ∷ xs) ys = let none : 0 - length (x ∷ xs) ≡ 0 = omega arith in sym (ap (λ m. (x ∷ xs) ++ drop m ys) none)
drop_both (suc n) (x ∷ xs) ys = let less : n - length xs ≡ suc n - length (x ∷ xs) = omega arith in drop_both n xs ys ∙ ap (λ m. drop n xs ++ drop m ys) less

take_begun : (n : ℕ) (xs ys : List ℕ) → take n (take n xs ++ ys) ≡ take n (xs ++ ys)
take_begun zero xs ys = refl
take_begun (suc n) [] ys = refl
take_begun (suc n) (x ∷ xs) ys = ap (λ l. x ∷ l) (take_begun n xs ys)

-- before any octet is written, the length is 0 and the segment is empty
pub nothing_kept : (from : ℕ) → ◌≡◌ {A = Kept} (record { from = from; len = 0; segment = [] }) (kept_of from [])
nothing_kept from = λ i. record { from = from; len = 0; segment = ap (take 4096) (sym (drop_past from [] (omega arith))) i }

-- ---- the octets that one call appends

drop_min : (n : ℕ) (xs : List ℕ) → drop (min n (length xs)) xs ≡ drop n xs
drop_min n xs =
    elim (cases_lt n (length xs)) [
      | inl lt ↦ let e : min n (length xs) ≡ n = omega arith in rw e refl
      | inr le ↦ let e : min n (length xs) ≡ length xs = omega arith in rw e (drop_past (length xs) xs (omega arith) ∙ sym (drop_past n xs le))
    ]

pub segment_more : (segment more rest : List ℕ) (before : ℕ) → rest ≡ drop (min before (length more)) more → take 4096 (segment ++ rest) ≡ take 4096 (segment ++ drop before more)
segment_more segment more rest before is = ap (λ l. take 4096 (segment ++ l)) (is ∙ drop_min before more)

pub no_longer : (xs : List ℕ) → length (take 4096 xs) ≤ 4096
no_longer xs = omega (arith, length-take 4096 xs)

pub up_to : (segment more : List ℕ) → length segment ≤ 4096 → segment ++ take (min (length more) (4096 - length segment)) more ≡ take 4096 (segment ++ more)
up_to segment more le =
    let room = 4096 - length segment in
    let all : 4096 ≡ length segment + room = omega (arith, le) in
    ap (λ l. segment ++ l) (take_min room more) ∙ sym (ap (λ n. take n (segment ++ more)) all ∙ take-append-add segment more room)

-- ---- the segment of a text that is written in parts

kept_more : (from : ℕ) (text more : List ℕ) → with_more (kept_of from text) more ≡ kept_of from (text ++ more)
kept_more from text more =
    let segment : take 4096 (take 4096 (drop from text) ++ drop (from - length text) more) ≡ take 4096 (drop from (text ++ more)) =
    take_begun 4096 (drop from text) (drop (from - length text) more) ∙ ap (take 4096) (sym (drop_both from text more)) in
    λ i. record { from = from; len = sym (length-append text more) i; segment = segment i }

module _ {X : Type 0} (entry : List ℕ → X → List ℕ) (from : ℕ) where
  written : (text : List ℕ) (es : List (List Field × X))
      → shown_each (λ k name x. with_more k (entry name x)) (kept_of from text) es ≡ kept_of from (text ++ flat_map (λ e. entry (octets_of e.0) e.1) es)
  written text [] = ap (kept_of from) (sym (append-nil text))
  written text (e ∷ es) =
      let one = entry (octets_of e.0) e.1 in
      ap (λ k. shown_each (λ k name x. with_more k (entry name x)) k es) (kept_more from text one)
      ∙ written (text ++ one) es
      ∙ ap (kept_of from) (append_assoc text one (flat_map (λ (e : List Field × X). entry (octets_of e.0) e.1) es))

  -- writing all entries one by one gives the same state as writing the concatenated texts of all
  -- entries at once
  pub all_written : (es : List (List Field × X)) → shown_each (λ k name x. with_more k (entry name x)) (kept_of from []) es ≡ kept_of from (flat_map (λ e. entry (octets_of e.0) e.1) es)
  all_written es = written [] es

-- appending all entries one by one appends the concatenated texts of all entries
pub text_written : {X : Type 0} (entry : List ℕ → X → List ℕ) (text : List ℕ) (es : List (List Field × X))
    → shown_each (λ t name x. t ++ entry name x) text es ≡ text ++ flat_map (λ e. entry (octets_of e.0) e.1) es
text_written entry text [] = sym (append-nil text)
text_written {X} entry text (e ∷ es) =
    let one = entry (octets_of e.0) e.1 in
    text_written entry (text ++ one) es
    ∙ append_assoc text one (flat_map (λ (e : List Field × X). entry (octets_of e.0) e.1) es)
