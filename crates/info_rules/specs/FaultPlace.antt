-- The line of the fault of a text that is not in the grammar `TreeGrammar`.
use Rattle.std.specs.Prelude.{◌≡◌, ◌⊎◌, ◌≤◌, ◌+◌, ℕ, List, [], ◌∷◌, ◌++◌}
use Rattle.info_rules.specs.Tree.{PlainEntry}
use Rattle.info_rules.specs.Words.{tokens_in, end_line}
use Rattle.info_rules.specs.TreeGrammar.{IsTree}

-- the text consists of `n` lines, and each line ends with an LF
abbrev pub AreLines : ℕ → List ℕ → Type 0
AreLines n text =
    (end_line text ≡ n + 1) × ((text ≡ []) ⊎ ((inner : List ℕ) × (text ≡ inner ++ 10 ∷ [])))

-- the text is a prefix of some text, of any length, that spells entries
abbrev pub BeginsSome : List ℕ → Type 0
BeginsSome text =
    (rest : List ℕ) × (entries : List PlainEntry) × IsTree (tokens_in (text ++ rest)) entries

-- The text has a line with the number `line`. The text before this line is a prefix of some text,
-- of any length, that spells entries. If the line ends with an LF, the text up to and including
-- this LF is not a prefix of any text that spells entries.
pub record StandsAt (text : List ℕ) (line : ℕ) : Type 0 where
  pub first : 1 ≤ line
  pub last : line ≤ end_line text
  pub before : (n : ℕ) (front rest : List ℕ) → line ≡ n + 1 → text ≡ front ++ rest
      → AreLines n front → BeginsSome front
  pub behind : (front rest : List ℕ) → text ≡ front ++ rest → AreLines line front
      → BeginsSome front → ⊥
