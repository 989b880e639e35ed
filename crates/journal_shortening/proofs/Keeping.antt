-- The lines that were appended so far, and the lines that the remaining flags keep.
use Rattle.std.proofs.Common.{◌≡◌, ℕ, suc, ◌+◌, ◌<◌, Bool, false, List, [], ◌∷◌, ◌++◌, length, get_or, drop, refl, sym, ap, ◌∙◌, subst, inl, inr, append_assoc, add-one}
use Rattle.std.proofs.Math.Seq.{drop-cons, drop-length}
use Rattle.std.proofs.lemmas.List.{append-nil}
use Rattle.node_core.specs.Script.Line.{Lacks}
use Rattle.journal_shortening.specs.Needed.{KeepsLines, kept_line}

-- The loop invariant. Let `more` be those lines of the remaining text `rest` that are kept by the
-- flags at index `i` and later. Then `text` followed by `more` is `old` followed by all lines of
-- the journal that the flags keep.
abbrev pub SoFar : List Bool → List ℕ → List ℕ → ℕ → List ℕ → List ℕ → Type 0
SoFar flags journal old i rest text =
    (more : List ℕ) → KeepsLines (drop i flags) rest more
    → (lines : List ℕ) × KeepsLines flags journal lines × (text ++ more ≡ old ++ lines)

-- `text` is `old` followed by all lines of the journal that the flags keep
abbrev pub Done : List Bool → List ℕ → List ℕ → List ℕ → Type 0
Done flags journal old text =
    (lines : List ℕ) × KeepsLines flags journal lines × (text ≡ old ++ lines)

pub so_far_none : (flags : List Bool) (journal old : List ℕ) → SoFar flags journal old 0 journal old
so_far_none flags journal old more h = (more, h, refl)

-- if the loop invariant holds, and the next line is appended when its flag is true and left out
-- when its flag is false, then the loop invariant still holds
pub so_far_line : (flags : List Bool) (journal old : List ℕ) (i : ℕ) (rest text line after new : List ℕ) (flag : Bool)
    → SoFar flags journal old i rest text → i < length flags → get_or flags i false ≡ flag
    → rest ≡ line ++ (10 ∷ after) → Lacks 10 line → new ≡ text ++ kept_line flag line
    → SoFar flags journal old (i + 1) after new
so_far_line flags journal old i rest text line after new flag s lt f r lacks n more h =
    let below : KeepsLines (drop (suc i) flags) after more = subst (λ (k : ℕ). KeepsLines (drop k flags) after more) (add-one i) h in
    let cons : drop i flags ≡ flag ∷ drop (suc i) flags = drop-cons flags i false lt ∙ ap (λ (b : Bool). b ∷ drop (suc i) flags) f in
    let here : KeepsLines (flag ∷ drop (suc i) flags) rest (kept_line flag line ++ more) =
    inr (line, after, more, lacks, r ∙ sym (append_assoc line (10 ∷ []) after), below, refl) in
    let all = s (kept_line flag line ++ more) (subst (λ (fs : List Bool). KeepsLines fs rest (kept_line flag line ++ more)) (sym cons) here) in
    (all.0, all.1, ap (λ (t : List ℕ). t ++ more) n ∙ append_assoc text (kept_line flag line) more ∙ all.2)

-- if the loop invariant holds, and `rest` has no whole line, then `Done` is true
pub done_early : (flags : List Bool) (journal old : List ℕ) (i : ℕ) (rest text : List ℕ)
    → SoFar flags journal old i rest text → i < length flags → Lacks 10 rest
    → Done flags journal old text
done_early flags journal old i rest text s lt lacks =
    let cons = drop-cons flags i false lt in
    let here : KeepsLines (get_or flags i false ∷ drop (suc i) flags) rest [] = inl (lacks, refl) in
    let all = s [] (subst (λ (fs : List Bool). KeepsLines fs rest []) (sym cons) here) in
    (all.0, all.1, sym (append-nil text) ∙ all.2)

-- if the loop invariant holds, and no flag remains, then `Done` is true
pub done : (flags : List Bool) (journal old : List ℕ) (i : ℕ) (rest text : List ℕ)
    → SoFar flags journal old i rest text → i ≡ length flags → Done flags journal old text
done flags journal old i rest text s e =
    let none : drop i flags ≡ [] = ap (λ (k : ℕ). drop k flags) e ∙ drop-length flags in
    let all = s [] (subst (λ (fs : List Bool). KeepsLines fs rest []) (sym none) refl) in
    (all.0, all.1, sym (append-nil text) ∙ all.2)
