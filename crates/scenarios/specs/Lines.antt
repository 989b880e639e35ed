-- The lines of a scenario: lines of its script, and lines of expected answers.
use Rattle.std.specs.Prelude.{ℕ, List, [], ◌∷◌, ◌++◌, Bool, false, ◌==◌, ◌||◌, ◌&&◌, nat_le, if◌then◌else◌}
use Rattle.scenarios.specs.declared.words.Word.{Word}
use Rattle.scenarios.specs.Words.{spelled}

-- whether a line is the line of an answer: it begins with a digit, with `>` or with `!`
abbrev pub is_answer : List ℕ → Bool
is_answer [] = false
is_answer (o ∷ line) = (nat_le 48 o && nat_le o 57) || ((o == 62) || (o == 33))

-- what a line of a scenario adds to the expected answers: itself, spelled out, with its LF, if it
-- is the line of an answer, and else nothing
abbrev pub answer_part : List Word → List ℕ → List ℕ
answer_part words line = if is_answer line then spelled words line ++ (10 ∷ []) else []

-- what a line of a scenario adds to the script
abbrev pub script_part : List Word → List ℕ → List ℕ
script_part words line = if is_answer line then [] else spelled words line ++ (10 ∷ [])
