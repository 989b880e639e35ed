-- The last rules and keys in the text of a journal.
use Rattle.std.specs.Prelude.{◌≡◌, ◌⊎◌, ℕ, List, [], ◌∷◌, ◌++◌, codes}
use Rattle.std.specs.List.{AllByRecursion}
use Rattle.node_core.specs.Script.{AreLines, joined}
use Rattle.node_core.specs.Script.Line.{Lacks}
use Rattle.node_core.specs.Script.Writing.{hex_word}

-- The line is the word `rules`, a time (a text without spaces) and the text `files`, with single
-- spaces between these parts. In a line that spells an event, `files` encodes the octets of the
-- rule file and of the key file in hexadecimal.
abbrev pub IsRulesLine : List ℕ → List ℕ → Type 0
IsRulesLine line files =
    (time : List ℕ) × Lacks 32 time × (line ≡ codes "rules" ++ (32 ∷ (time ++ (32 ∷ files))))

-- none of the lines is a line of new rules (`IsRulesLine`)
abbrev pub HaveNoRules : List (List ℕ) → Type 0
HaveNoRules lines = AllByRecursion (λ line. (files : List ℕ) → IsRulesLine line files → ⊥) lines

-- there is a line of new rules, and the last line of new rules has the text `files` after its time
abbrev pub HaveLastRules : List (List ℕ) → List ℕ → Type 0
HaveLastRules [] files = ⊥
HaveLastRules (line ∷ lines) files =
    (IsRulesLine line files × HaveNoRules lines) ⊎ HaveLastRules lines files

-- The text has a line of new rules, and the last line of new rules has the text `files` after its
-- time. Octets after the last LF of the text are ignored.
abbrev pub HasLastFiles : List ℕ → List ℕ → Type 0
HasLastFiles text files =
    (lines : List (List ℕ)) × (cut : List ℕ) × AreLines lines × Lacks 10 cut
    × (text ≡ joined lines ++ cut) × HaveLastRules lines files

-- the text has no line of new rules that ends with an LF
abbrev pub HasNoFiles : List ℕ → Type 0
HasNoFiles text =
    (lines : List (List ℕ)) × (cut : List ℕ) × AreLines lines × Lacks 10 cut
    × (text ≡ joined lines ++ cut) × HaveNoRules lines

-- the text after the time in a line of new rules: the octets of the rule file in hexadecimal, a
-- space, and the octets of the key file in hexadecimal
abbrev pub files_text : List ℕ → List ℕ → List ℕ
files_text rules keys = hex_word rules ++ (32 ∷ hex_word keys)
