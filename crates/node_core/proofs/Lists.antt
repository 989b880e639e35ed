-- Texts that are split at an octet.
use Rattle.std.proofs.Common.{◌≡◌, ℕ, zero, suc, ◌+◌, ◌-◌, ◌<◌, List, [], ◌∷◌, ◌++◌, length, get_or, take, drop, refl, sym, ap, ◌∙◌, arith, append_assoc, add-one, length-drop}
use Rattle.std.proofs.Math.Seq.{drop-cons}
use Rattle.std.proofs.lemmas.List.{take-append-drop, take_all}
use Rattle.std.proofs.Common.{◌==◌, Bool, true, false, not, eq-eqb}
use Rattle.std.specs.List.{list_all}
use Rattle.std.proofs.lemmas.Bool.{and_parts, eqb-true}
use Rattle.std.proofs.Common.{eqb}
use Rattle.std.specs.Cmp.Lexicographic.{pointwise}
use Rattle.std.proofs.lemmas.Slice.Eq.{slice_eq-Decides}
use Rattle.std.proofs.lemmas.Bool.Decides.{Decides-eqb}
use Rattle.node_core.specs.Script.Line.{Lacks}

-- if the octet is at no index of a text, the text lacks the octet
pub Lacks-from_places : (octet : ℕ) (text : List ℕ) → ((k : ℕ) → k < length text → get_or text k 0 ≡ octet → ⊥) → Lacks octet text
Lacks-from_places octet [] h = tt
Lacks-from_places octet (o ∷ text) h =
    (h 0 (omega arith), Lacks-from_places octet text (λ k lt e. h (suc k) (omega arith) e))

pub Lacks-take : (octet : ℕ) (text : List ℕ) (n : ℕ) → ((k : ℕ) → k < n → get_or text k 0 ≡ octet → ⊥) → n < length text → Lacks octet (take n text)
Lacks-take octet text zero h lt = tt
Lacks-take octet [] (suc n) h lt = tt
Lacks-take octet (o ∷ text) (suc n) h lt =
    (h 0 (omega arith), Lacks-take octet text n (λ k below e. h (suc k) (omega arith) e) (omega arith))

-- a text is the octets before an index, the octet at the index, and the octets after the index
pub split_at_place : (text : List ℕ) (i at : ℕ) → i < length text → get_or text i 0 ≡ at → text ≡ take i text ++ (at ∷ drop (i + 1) text)
split_at_place text i at lt e =
    sym (take-append-drop i text) ∙ ap (λ (d : List ℕ). take i text ++ d) (drop-cons text i 0 lt ∙ ap (λ (o : ℕ). o ∷ drop (suc i) text) e ∙ rw add-one refl)

pub Lacks-no_cut : (octet : ℕ) (a b : List ℕ) → Lacks octet (a ++ (octet ∷ b)) → ⊥
Lacks-no_cut octet [] b h = h.0 refl
Lacks-no_cut octet (o ∷ a) b h = Lacks-no_cut octet a b h.1

pub Lacks-append : (octet : ℕ) (a b : List ℕ) → Lacks octet a → Lacks octet b → Lacks octet (a ++ b)
Lacks-append octet [] b ha hb = hb
Lacks-append octet (o ∷ a) b ha hb = (ha.0, Lacks-append octet a b ha.1 hb)

pub record SameCut (a b c d : List ℕ) : Type 0 where
  pub front : a ≡ c
  pub back : b ≡ d

-- a text can be split in only one way at its first octet that equals `octet`
pub cut_once : (octet : ℕ) (a b c d : List ℕ) → Lacks octet a → Lacks octet c → a ++ (octet ∷ b) ≡ c ++ (octet ∷ d) → SameCut a b c d
cut_once octet [] b [] d ha hc e = record { front = refl; back = cc }
cut_once octet [] b (o ∷ c) d ha hc e = absurd (hc.0 cc)
cut_once octet (o ∷ a) b [] d ha hc e = absurd (ha.0 cc)
cut_once octet (o ∷ a) b (p ∷ c) d ha hc e =
    let same : SameCut a b c d = cut_once octet a b c d ha.1 hc.1 cc in
    let first : o ≡ p = cc in
    record { front = cc (first, same.front); back = same.back }

-- the octets of `text` after the first `i` octets equal the result of the slice `&text[i..]`
pub take_rest : (i : ℕ) (text : List ℕ) → drop i text ≡ take (length text - i) (drop i text)
take_rest i text = sym (take_all (length text - i) (drop i text) (simp length-drop (omega arith)))

pub get_or-empty : (text : List ℕ) → length text ≡ 0 → get_or text 0 0 ≡ 0
get_or-empty [] h = refl
get_or-empty (o ∷ text) h = absurd (omega arith)

-- two splits of a text into three parts are equal: `a` equals `d`, `b` equals `e`, and `c` equals
-- `f`
pub record SameCuts (a b c d e f : List ℕ) : Type 0 where
  pub first : a ≡ d
  pub second : b ≡ e
  pub third : c ≡ f

pub cut_twice_once : (octet : ℕ) (a b c d e f : List ℕ) → Lacks octet a → Lacks octet b → Lacks octet d → Lacks octet e
    → a ++ (octet ∷ (b ++ (octet ∷ c))) ≡ d ++ (octet ∷ (e ++ (octet ∷ f))) → SameCuts a b c d e f
cut_twice_once octet a b c d e f la lb ld le h =
    let one = cut_once octet a _ d _ la ld h in
    let two = cut_once octet b c e f lb le one.back in
    record { first = one.front; second = two.front; third = two.back }

-- whether the text lacks the octet, as a Boolean test for literal texts
abbrev lacks : ℕ → List ℕ → Bool
lacks octet text = list_all (λ o. not (o == octet)) text

differ : (o p : ℕ) → not (o == p) ≡ true → o ≡ p → ⊥
differ o p h e = let t : (o == p) ≡ true = eq-eqb o p e in cc (h, t)

pub Lacks-from_test : (octet : ℕ) (text : List ℕ) → lacks octet text ≡ true → Lacks octet text
Lacks-from_test octet [] h = tt
Lacks-from_test octet (o ∷ text) h =
    let parts = and_parts (not (o == octet)) (lacks octet text) h in
    (λ e. differ o octet parts.0 e, Lacks-from_test octet text parts.1)

pub empty_list : (text : List ℕ) → (length text == 0) ≡ true → text ≡ []
empty_list [] h = refl
empty_list (o ∷ text) h = absurd (omega (arith, eqb-true (length (o ∷ text)) 0 h))

pub full_list : (text : List ℕ) → (length text == 0) ≡ false → 0 < length text
full_list [] h = cc h
full_list (o ∷ text) h = omega arith

-- two texts are different if their octet-by-octet comparison is false
pub differ_bytes : (xs ys : List ℕ) (r : Bool) → r ≡ pointwise eqb xs ys → r ≡ false → xs ≡ ys → ⊥
differ_bytes xs ys r h apart e = let same = (slice_eq-Decides Decides-eqb xs ys r h).1 e in cc (apart, same)

-- if `whole` is `front` followed by `rest`, the first `n` octets of `rest` can be moved from `rest`
-- to the end of `front`
pub front_longer : (whole front rest : List ℕ) (n : ℕ) → whole ≡ front ++ rest → whole ≡ (front ++ take n rest) ++ take (length rest - n) (drop n rest)
front_longer whole front rest n e =
    e ∙ ap (λ (d : List ℕ). front ++ d) (sym (take-append-drop n rest) ∙ ap (λ (d : List ℕ). take n rest ++ d) (take_rest n rest)) ∙ sym (append_assoc front (take n rest) (take (length rest - n) (drop n rest)))
