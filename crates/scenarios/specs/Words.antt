-- The words of scenarios, which stand for octets.
use Rattle.std.specs.Prelude.{ℕ, List, [], ◌∷◌, ◌++◌, ◌==◌, if◌then◌else◌, nat_eq}
use Rattle.std.specs.Cmp.Lexicographic.{pointwise}
use Rattle.scenarios.specs.declared.words.Word.{Word}

-- the digits of the first word with this name, or the name itself if no word has it
abbrev pub meaning_of : List Word → List ℕ → List ℕ
meaning_of [] name = name
meaning_of (word ∷ words) name =
    if pointwise nat_eq word.name.items name then word.digits.items else meaning_of words name

-- the line in which each word that has a meaning is replaced by its digits; words are separated by
-- single spaces, and `front` has the octets of the first word that precede the line
abbrev pub spelled_from : List Word → List ℕ → List ℕ → List ℕ
spelled_from words front [] = meaning_of words front
spelled_from words front (o ∷ line) =
    if o == 32 then meaning_of words front ++ (32 ∷ spelled_from words [] line)
    else spelled_from words (front ++ (o ∷ [])) line

abbrev pub spelled : List Word → List ℕ → List ℕ
spelled words line = spelled_from words [] line
