-- Lines that cannot control a terminal: printable ASCII with a line feed at the end.
use Rattle.std.specs.Prelude.{◌≡◌, ℕ, List, [], ◌∷◌, ◌++◌, drop, length, flat_map, Bool, true, nat_le, ◌&&◌, codes, if◌then◌else◌}
use Rattle.std.specs.List.{list_all}
use Rattle.ndn_names.specs.Uri.{hexadecimal}
use Rattle.ndn_log.specs.Time.{IsTimeText}

-- whether the octet is printable ASCII, from the space to the tilde
abbrev pub is_printable : ℕ → Bool
is_printable octet = nat_le 32 octet && nat_le octet 126

-- the octet itself if it is printable, otherwise a percent sign and two hexadecimal digits
abbrev pub shown : ℕ → List ℕ
shown octet = if is_printable octet then octet ∷ [] else codes "%" ++ hexadecimal true octet

abbrev pub shown_text : List ℕ → List ℕ
shown_text text = flat_map shown text

abbrev pub line_of : List ℕ → List ℕ
line_of text = shown_text text ++ codes "\n"

-- all octets but the last are printable ASCII, and the last is the line feed
abbrev pub IsOneLine : List ℕ → Type 0
IsOneLine line =
    (front : List ℕ) × (line ≡ front ++ codes "\n") × (list_all is_printable front ≡ true)

-- `new` is `old` with one line appended. The line has the time that is `moment` milliseconds after
-- the start of 1970, and the text `words`. Octets that are not printable ASCII are escaped.
pub record IsLogged (old new : List ℕ) (moment : ℕ) (words : List ℕ) : Type 0 where
  pub time : List ℕ
  pub is_time : IsTimeText moment time
  pub appended : new ≡ old ++ line_of (time ++ (codes " " ++ words))

-- `new` is `old` with one line appended for each of the texts, in order. Each line has the time
-- that is `moment` milliseconds after the start of 1970.
abbrev pub AreLogged : List ℕ → List ℕ → ℕ → List (List ℕ) → Type 0
AreLogged old new moment [] = new ≡ old
AreLogged old new moment (words ∷ more) =
    (middle : List ℕ) × IsLogged old middle moment words
    × IsOneLine (drop (length old) middle) × AreLogged middle new moment more
