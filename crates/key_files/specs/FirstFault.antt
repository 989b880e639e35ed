-- The fault of a key file, which is the fault of its first faulty line.
use Rattle.std.specs.Prelude.{◌≡◌, ℕ, ◌+◌, ◌≤◌, List, ◌∷◌, ◌++◌, length, false}
use Rattle.key_files.specs.declared.fault.KeyFault.{KeyFault}
use Rattle.key_files.specs.declared.fault.KeyFault.TheVariants.{BadLine, BadKey, TwiceNamed, TooMany, Memory}
use Rattle.key_files.specs.declared.key.Key.{Key}
use Rattle.key_files.specs.KeyFile.{NamedKey, AreApart, AreKeysOf, IsAmong, IsKeyForm, IsKeyLine, IsUsable, is_skipped, lines_of}

-- `line` is line n, which is not skipped. The lines before line n have no fault, and contain the
-- keys `keys`.
pub record IsReached
    (lines : List (List ℕ)) (n : ℕ) (line : List ℕ) (keys : List NamedKey) : Type 0 where
  pub before : List (List ℕ)
  pub after : List (List ℕ)
  pub whole : lines ≡ before ++ line ∷ after
  pub number : n ≡ length before + 1
  pub kept : is_skipped line ≡ false
  pub are : AreKeysOf before keys
  pub apart : AreApart keys
  pub few : length keys ≤ 256

-- line n is the first faulty line, and does not have the form of a key's line
abbrev pub HasBadLine : List (List ℕ) → ℕ → Type 0
HasBadLine lines n =
    (line : List ℕ) × (keys : List NamedKey) × IsReached lines n line keys
    × ((key : NamedKey) → IsKeyForm line key → ⊥)

-- line n is the first faulty line, and its public key is no point of the curve, or its secret is
-- one
abbrev pub HasBadKey : List (List ℕ) → ℕ → Type 0
HasBadKey lines n =
    (line : List ℕ) × (keys : List NamedKey) × IsReached lines n line keys
    × ((key : NamedKey) × IsKeyForm line key × (¬ IsUsable key.1))

-- line n is the first faulty line, and its key has the name of an earlier key
abbrev pub HasNameTwice : List (List ℕ) → ℕ → Type 0
HasNameTwice lines n =
    (line : List ℕ) × (keys : List NamedKey) × IsReached lines n line keys
    × ((key : NamedKey) × IsKeyLine line key × ((other : Key) × IsAmong (key.0, other) keys))

-- the first faulty line has a key with a new name, and 256 keys come before this key
abbrev pub HasTooMany : List (List ℕ) → Type 0
HasTooMany lines =
    (n : ℕ) × (line : List ℕ) × (keys : List NamedKey) × IsReached lines n line keys
    × (length keys ≡ 256)
    × ((key : NamedKey) × IsKeyLine line key
    × ((other : Key) → IsAmong (key.0, other) keys → ⊥))

abbrev pub FaultIn : List (List ℕ) → KeyFault → Type 0
FaultIn lines (BadLine n) = HasBadLine lines n
FaultIn lines (BadKey n) = HasBadKey lines n
FaultIn lines (TwiceNamed n) = HasNameTwice lines n
FaultIn lines TooMany = HasTooMany lines
FaultIn lines Memory = ⊥

-- `fault` is the fault of the first faulty line of the text; `Memory` is never the fault of a text
abbrev pub FirstFault : List ℕ → KeyFault → Type 0
FirstFault text fault = FaultIn (lines_of text) fault
