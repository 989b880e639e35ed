-- Two texts, and the first lines in which they differ.
use Rattle.std.specs.Prelude.{◌≡◌, ◌≢◌, ◌⊎◌, ℕ, List, [], ◌∷◌, ◌++◌}
use Rattle.node_core.specs.Script.Line.{Lacks}

-- `line` is the first line of the text `line ++ rest`: it ends with the text's first LF, or it is
-- the whole text, which has no LF and may be empty
abbrev pub IsFirstLine : List ℕ → List ℕ → Type 0
IsFirstLine line rest =
    ((front : List ℕ) × Lacks 10 front × (line ≡ front ++ (10 ∷ [])))
    ⊎ (Lacks 10 line × (rest ≡ []))

-- the text is empty or ends with an LF
abbrev pub IsWhole : List ℕ → Type 0
IsWhole text = (text ≡ []) ⊎ ((front : List ℕ) × (text ≡ front ++ (10 ∷ [])))

-- after whole lines that both texts begin with, the next line of the one text is `a`, and that of
-- the other is `b`, which is another line; the line of a text that has ended is empty
abbrev pub Differ : List ℕ → List ℕ → List ℕ → List ℕ → Type 0
Differ left right a b =
    (same after behind : List ℕ) × IsWhole same
    × (left ≡ same ++ (a ++ after)) × (right ≡ same ++ (b ++ behind))
    × IsFirstLine a after × IsFirstLine b behind × (a ≢ b)
