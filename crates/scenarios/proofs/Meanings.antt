-- Lines with one word, and with several words.
use Rattle.std.proofs.Common.{◌≡◌, ◌≢◌, ℕ, List, [], ◌∷◌, ◌++◌, sym, ap, ◌∙◌, append_assoc, append-nil, arith}
use Rattle.scenarios.specs.declared.words.Word.{Word}
use Rattle.node_core.specs.Script.Line.{Lacks}
use Rattle.scenarios.specs.Words.{meaning_of, spelled_from, spelled}

passes_on : (words : List Word) (front line : List ℕ) (o : ℕ) → o ≢ 32
    → spelled_from words front (o ∷ line) ≡ spelled_from words (front ++ (o ∷ [])) line
passes_on words front line o other = grind (arith, other)

-- the octets of a word join those that precede the line
spelled_from-word : (words : List Word) (front word line : List ℕ) → Lacks 32 word
    → spelled_from words front (word ++ line) ≡ spelled_from words (front ++ word) line
spelled_from-word words front [] line lacks = ap (λ f. spelled_from words f line) (sym (append-nil front))
spelled_from-word words front (o ∷ word) line lacks =
    passes_on words front (word ++ line) o lacks.0
    ∙ spelled_from-word words (front ++ (o ∷ [])) word line lacks.1
    ∙ ap (λ f. spelled_from words f line) (append_assoc front (o ∷ []) word)

-- a line with a space: its first word, and then its other words
pub spelled-space : (words : List Word) (word line : List ℕ) → Lacks 32 word
    → spelled words (word ++ (32 ∷ line)) ≡ meaning_of words word ++ (32 ∷ spelled words line)
spelled-space words word line lacks = spelled_from-word words [] word (32 ∷ line) lacks

-- a line without a space is one word
pub spelled-word : (words : List Word) (word : List ℕ) → Lacks 32 word → spelled words word ≡ meaning_of words word
spelled-word words word lacks =
    ap (spelled words) (sym (append-nil word)) ∙ spelled_from-word words [] word [] lacks

-- after one more word of the rest of a line
pub spells_on : (words : List Word) (text rest name after grown pushed wanted : List ℕ)
    → text ++ spelled words rest ≡ wanted → rest ≡ name ++ (32 ∷ after) → Lacks 32 name
    → grown ≡ text ++ meaning_of words name → pushed ≡ grown ++ (32 ∷ []) → pushed ++ spelled words after ≡ wanted
spells_on words text rest name after grown pushed wanted so_far cut lacks grows pushes =
    let s = spelled words after in
    let m = meaning_of words name in
    ap (λ p. p ++ s) pushes ∙ ap (λ g. (g ++ (32 ∷ [])) ++ s) grows ∙ append_assoc (text ++ m) (32 ∷ []) s
    ∙ append_assoc text m (32 ∷ s) ∙ ap (λ x. text ++ x) (sym (spelled-space words name after lacks))
    ∙ ap (λ r. text ++ spelled words r) (sym cut) ∙ so_far

-- after the last word of a line
pub spells_last : (words : List Word) (text rest grown wanted : List ℕ)
    → text ++ spelled words rest ≡ wanted → Lacks 32 rest → grown ≡ text ++ meaning_of words rest → grown ≡ wanted
spells_last words text rest grown wanted so_far lacks grows =
    grows ∙ ap (λ x. text ++ x) (sym (spelled-word words rest lacks)) ∙ so_far
