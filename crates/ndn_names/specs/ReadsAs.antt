-- Which texts read as which names (NDN Packet Format 0.3, "NDN URI Scheme").
use Rattle.std.specs.Prelude.{◌≡◌, ◌≢◌, ℕ, ◌+◌, ◌*◌, ◌<◌, ◌≤◌, ◌^◌, ◌⊎◌, List, [], ◌∷◌, ◌++◌, length, codes, decimal, Some, ⊤}
use Rattle.std.specs.List.{AllByRecursion}
use Rattle.std.specs.Char.{digit_value}
use Rattle.std.specs.Str.Parse.{IsNumeral, digits_value}
use Rattle.ndn_tlv.specs.Element.{Field}
use Rattle.ndn_tlv.specs.Number.{shortest_nni}
use Rattle.ndn_names.specs.declared.component_type.TheConstants.{GENERIC, PARAMETERS_SHA256_DIGEST}
use Rattle.ndn_names.specs.Name.{IsName}
use Rattle.ndn_names.specs.TypeName.{type_name_of}
use Rattle.ndn_names.specs.Uri.{padded, path_of}

-- `high` and `low` are hexadecimal digits of either case, and encode `octet`
abbrev pub IsHexPair : ℕ → ℕ → ℕ → Type 0
IsHexPair high low octet =
    (digit_value high < 16) × (digit_value low < 16)
    × (octet ≡ 16 * digit_value high + digit_value low)

-- the text consists of two hexadecimal digits for each of the octets, in order
abbrev pub IsHex : List ℕ → List ℕ → Type 0
IsHex text [] = text ≡ []
IsHex text (o ∷ octets) =
    (high low : ℕ) × (rest : List ℕ) × (text ≡ high ∷ low ∷ rest) × IsHexPair high low o
    × IsHex rest octets

-- The text of an octet is a percent sign and two hexadecimal digits. An octet other than a percent
-- sign or a slash may also be its own text.
abbrev pub IsOctetText : List ℕ → ℕ → Type 0
IsOctetText text octet =
    ((text ≡ octet ∷ []) × (octet ≢ 37) × (octet ≢ 47))
    ⊎ ((high low : ℕ) × (text ≡ 37 ∷ high ∷ low ∷ []) × IsHexPair high low octet)

abbrev pub StandsFor : List ℕ → List ℕ → Type 0
StandsFor text [] = text ≡ []
StandsFor text (o ∷ octets) =
    (front rest : List ℕ) × (text ≡ front ++ rest) × IsOctetText front o × StandsFor rest octets

-- If the value is empty or consists of periods only, the text encodes the value followed by three
-- periods. Otherwise the text encodes the value.
abbrev pub IsValueText : List ℕ → List ℕ → Type 0
IsValueText text value = StandsFor text (padded value)

-- `c` is a GenericNameComponent; the piece contains no equals sign, and is the text of the value of
-- `c`
abbrev pub IsGeneric : List ℕ → Field → Type 0
IsGeneric piece c = AllByRecursion (λ o. o ≢ 61) piece × (c.0 ≡ GENERIC) × IsValueText piece c.1

-- the piece is the type number of `c`, an equals sign, and the text of the value of `c`; the type
-- number is from 1 to 65535 and has no leading zeros
abbrev pub IsTyped : List ℕ → Field → Type 0
IsTyped piece c =
    (text : List ℕ) × (piece ≡ decimal c.0 ++ 61 ∷ text) × (1 ≤ c.0) × (c.0 < 65536)
    × IsValueText text c.1

-- the piece is the type name of a digest, an equals sign, and 64 hexadecimal digits that encode the
-- value of `c`
abbrev pub IsDigest : List ℕ → Field → Type 0
IsDigest piece c =
    (type_name text : List ℕ) × (piece ≡ type_name ++ 61 ∷ text)
    × (type_name_of c.0 ≡ Some type_name) × (c.0 ≤ PARAMETERS_SHA256_DIGEST)
    × (length text ≡ 64) × IsHex text c.1

-- The piece has three parts: the type name of a type whose values are numbers; an equals sign; a
-- number below 2^64 in decimal digits. The value of `c` is the shortest NonNegativeInteger encoding
-- of this number.
abbrev pub IsNumbered : List ℕ → Field → Type 0
IsNumbered piece c =
    (type_name text : List ℕ) × (piece ≡ type_name ++ 61 ∷ text)
    × (type_name_of c.0 ≡ Some type_name) × (PARAMETERS_SHA256_DIGEST < c.0)
    × IsNumeral 10 text × (digits_value 10 text < 2 ^ 64)
    × (c.1 ≡ shortest_nni (digits_value 10 text))

abbrev pub ReadsComponent : List ℕ → Field → Type 0
ReadsComponent piece c =
    IsGeneric piece c ⊎ (IsTyped piece c ⊎ (IsDigest piece c ⊎ IsNumbered piece c))

abbrev pub ReadsEach : List (List ℕ) → List Field → Type 0
ReadsEach [] [] = ⊤
ReadsEach [] (c ∷ cs) = ⊥
ReadsEach (piece ∷ pieces) [] = ⊥
ReadsEach (piece ∷ pieces) (c ∷ cs) = ReadsComponent piece c × ReadsEach pieces cs

-- The text is a path with a slash before the piece of each component, or a single slash if there is
-- no component. The components form a valid name. The scheme `ndn:` may come before the path, and
-- one more slash may come after the path. A piece that reads as a component is never empty and
-- never contains a slash, so the text can be split in only one way.
abbrev pub ReadsAs : List ℕ → List Field → Type 0
ReadsAs text cs =
    (start end : List ℕ) × (pieces : List (List ℕ)) × (text ≡ start ++ (path_of pieces ++ end))
    × ((start ≡ []) ⊎ (start ≡ codes "ndn:")) × ((end ≡ []) ⊎ (end ≡ codes "/"))
    × ReadsEach pieces cs × IsName cs
