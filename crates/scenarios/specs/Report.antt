-- The report on scenarios.
use Rattle.std.specs.Prelude.{◌≡◌, ◌⊎◌, ◌↔◌, ℕ, ◌+◌, List, [], ◌∷◌, ◌++◌, Bool, IsTrue, codes, length, take, slice_index, ◌-◌, ◌==◌, if◌then◌else◌}
use Rattle.std.specs.Fmt.{decimal}
use Rattle.scenarios.specs.declared.scenario.Scenario.{Scenario}
use Rattle.scenarios.specs.Differ.{Differ}
use Rattle.scenarios.specs.Outcome.{AreAnswersTo}

-- the line without its LF
abbrev pub without_lf : List ℕ → List ℕ
without_lf line =
    if slice_index line (length line - 1) == 10 then take (length line - 1) line else line

-- a line of answers as a report shows it; the empty line stands for the end of the answers
abbrev pub shown : List ℕ → List ℕ
shown [] = codes "nothing"
shown (o ∷ line) = codes "`" ++ (without_lf (o ∷ line) ++ codes "`")

abbrev pub passed_line : List ℕ → List ℕ
passed_line name = name ++ codes ": passed\n"

abbrev pub difference_line : List ℕ → List ℕ → List ℕ → List ℕ
difference_line name a b =
    name ++ codes ": expected " ++ shown a ++ codes ", found " ++ shown b ++ codes "\n"

-- The line says that the scenario passed exactly if the answers found are the expected ones.
-- Otherwise it has the first line of the expected answers that differs, and the line that was found
-- in its place.
abbrev pub IsReport : List ℕ → List ℕ → List ℕ → List ℕ → Type 0
IsReport name expected found line =
    ((expected ≡ found) × (line ≡ passed_line name))
    ⊎ ((a b : List ℕ) × Differ expected found a b × (line ≡ difference_line name a b))

-- the line reports on the answers of a new node to the scenario's script; `passed` tells whether
-- these answers are the expected ones
pub record Reported (scenario : Scenario) (line : List ℕ) (passed : Bool) : Type 0 where
  pub found : List ℕ
  pub answers : AreAnswersTo scenario found
  pub is_report : IsReport scenario.name.items scenario.answers.items found line
  pub passes : IsTrue passed ↔ (scenario.answers.items ≡ found)

-- the text consists of the lines of these scenarios, in order; this many of them passed, and this
-- many differ
abbrev pub AreReported : List Scenario → List ℕ → ℕ → ℕ → Type 0
AreReported [] text passed differ = (text ≡ []) × (passed ≡ 0) × (differ ≡ 0)
AreReported (scenario ∷ scenarios) text passed differ =
    (line rest : List ℕ) × (is_passed : Bool) × (others more : ℕ)
    × Reported scenario line is_passed × (text ≡ line ++ rest)
    × AreReported scenarios rest others more
    × (passed ≡ (if is_passed then 1 else 0) + others)
    × (differ ≡ (if is_passed then 0 else 1) + more)

-- the last line of a report
abbrev pub counts_line : ℕ → ℕ → List ℕ
counts_line passed differ =
    decimal passed ++ (codes " passed, " ++ (decimal differ ++ codes " differ\n"))
