-- Key files: the keys in a text, with one key per line.
use Rattle.std.specs.Prelude.{◌≡◌, ◌≢◌, ℕ, ◌≤◌, ◌⊎◌, List, [], ◌∷◌, ◌++◌, length, Bool, true, false, ⊤, ◌==◌, if◌then◌else◌, codes}
use Rattle.std.specs.List.{AllByRecursion}
use Rattle.ndn_tlv.specs.Element.{Field}
use Rattle.ndn_names.specs.ReadsAs.{ReadsAs, IsHex}
use Rattle.key_files.specs.declared.key.Key.{Key}
use Rattle.key_files.specs.declared.key.Key.TheVariants as keys
use Rattle.key_files.specs.PublicKey.{IsPublicKey}

-- a key with its name
abbrev pub NamedKey : Type 0
NamedKey = List Field × Key

-- the octets of a key
abbrev pub octets_in : Key → List ℕ
octets_in (keys.Hmac octets) = octets
octets_in (keys.Ecdsa octets) = octets

-- the word after the name of a public key
abbrev pub ecdsa_word : List ℕ
ecdsa_word = codes "ecdsa-p256"

-- the lines with the octet `o` added at the front of the first line, or a line of `o` alone if
-- there are no lines
abbrev pub in_front : ℕ → List (List ℕ) → List (List ℕ)
in_front o [] = (o ∷ []) ∷ []
in_front o (line ∷ lines) = (o ∷ line) ∷ lines

-- the lines of a text, separated by LF
unfoldable pub lines_of : List ℕ → List (List ℕ)
lines_of [] = [] ∷ []
lines_of (o ∷ text) = if o == 10 then [] ∷ lines_of text else in_front o (lines_of text)

-- a line is skipped if it is empty or begins with a semicolon
abbrev pub is_skipped : List ℕ → Bool
is_skipped [] = true
is_skipped (o ∷ line) = o == 59

-- What comes before the last space of a key's line: the URI of the key's name, and for a public key
-- also a space and the word `ecdsa-p256`. So a URI does not end with a space and this word.
abbrev pub IsFront : List ℕ → List ℕ → Key → Type 0
IsFront front uri (keys.Hmac octets) =
    (front ≡ uri) × ((other : List ℕ) → front ≢ other ++ 32 ∷ ecdsa_word)
IsFront front uri (keys.Ecdsa octets) = front ≡ uri ++ 32 ∷ ecdsa_word

-- The form of a key's line: the URI of a nonempty name, for a public key a space and the word
-- `ecdsa-p256`, then a space, and 1 to 256 octets in hexadecimal digits of either case.
pub record IsKeyForm (line : List ℕ) (key : NamedKey) : Type 0 where
  pub front : List ℕ
  pub uri : List ℕ
  pub digits : List ℕ
  pub parts : line ≡ front ++ 32 ∷ digits
  pub front_is : IsFront front uri key.1
  pub name : ReadsAs uri key.0
  pub named : key.0 ≢ []
  pub octets : IsHex digits (octets_in key.1)
  pub some : 1 ≤ length (octets_in key.1)
  pub few : length (octets_in key.1) ≤ 256

-- The octets of a public key are a point of the curve. Other octets are a secret: whoever knows a
-- public key could else sign with it, where the word `ecdsa-p256` was forgotten.
abbrev pub IsUsable : Key → Type 0
IsUsable (keys.Hmac octets) = ¬ IsPublicKey octets
IsUsable (keys.Ecdsa octets) = IsPublicKey octets

-- the line of a key
abbrev pub IsKeyLine : List ℕ → NamedKey → Type 0
IsKeyLine line key = IsKeyForm line key × IsUsable key.1

-- `keys` are the keys of the lines that are not skipped, in the order of the lines
abbrev pub AreKeysOf : List (List ℕ) → List NamedKey → Type 0
AreKeysOf [] keys = keys ≡ []
AreKeysOf (line ∷ lines) keys =
    ((is_skipped line ≡ true) × AreKeysOf lines keys)
    ⊎ ((is_skipped line ≡ false)
    × ((key : NamedKey) × (others : List NamedKey) × (keys ≡ key ∷ others) × IsKeyLine line key
    × AreKeysOf lines others))

-- no two keys have the same name
abbrev pub AreApart : List NamedKey → Type 0
AreApart [] = ⊤
AreApart (key ∷ keys) = AllByRecursion (λ other. other.0 ≢ key.0) keys × AreApart keys

-- the text is a key file with these keys: at most 256, with different names
abbrev pub KeysOf : List ℕ → List NamedKey → Type 0
KeysOf text keys = AreKeysOf (lines_of text) keys × AreApart keys × (length keys ≤ 256)

-- the key is in the list
abbrev pub IsAmong : NamedKey → List NamedKey → Type 0
IsAmong key [] = ⊥
IsAmong key (other ∷ keys) = (other ≡ key) ⊎ IsAmong key keys
