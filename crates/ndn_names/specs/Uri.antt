-- The URI text of a name (NDN Packet Format 0.3, "NDN URI Scheme").
use Rattle.std.specs.Prelude.{ℕ, ◌<◌, ◌/◌, ◌%◌, Bool, true, false, List, [], ◌∷◌, ◌++◌, map, flat_map, Option, Some, None, codes, decimal, nat_le, ◌==◌, ◌||◌, if◌then◌else◌}
use Rattle.std.specs.List.{list_all, AllByRecursion}
use Rattle.std.specs.Char.{is_ascii_alphanumeric}
use Rattle.std.specs.Fmt.{digit_glyph}
use Rattle.ndn_tlv.specs.Element.{Field}
use Rattle.ndn_names.specs.declared.component_type.TheConstants.{GENERIC, PARAMETERS_SHA256_DIGEST}
use Rattle.ndn_names.specs.TypeName.{type_name_of, shortest_number}

-- the octets that need no escape: letters, digits, hyphen, period, underscore, tilde
abbrev pub is_unreserved : ℕ → Bool
is_unreserved o = is_ascii_alphanumeric o || (o == 45 || (o == 46 || (o == 95 || o == 126)))

-- the two hexadecimal digits of an octet, in upper or lower case
abbrev pub hexadecimal : Bool → ℕ → List ℕ
hexadecimal is_upper o = digit_glyph is_upper (o / 16) ∷ digit_glyph is_upper (o % 16) ∷ []

abbrev pub escaped : ℕ → List ℕ
escaped o = if is_unreserved o then o ∷ [] else codes "%" ++ hexadecimal true o

-- the value consists of periods only, or is empty
abbrev pub is_periods : List ℕ → Bool
is_periods value = list_all (λ o. o == 46) value

-- the value, with three periods added if it is empty or consists of periods only
abbrev pub padded : List ℕ → List ℕ
padded value = if is_periods value then value ++ codes "..." else value

abbrev pub value_text : List ℕ → List ℕ
value_text value = flat_map escaped (padded value)

-- The text of a component, written without a type name. For a GenericNameComponent, the result is
-- the text of the value. For any other component, the result is the type number, an equals sign and
-- the text of the value.
abbrev pub plain_text : Field → List ℕ
plain_text c =
    if c.0 == GENERIC then value_text c.1 else decimal c.0 ++ (codes "=" ++ value_text c.1)

-- The text of a component of a type whose values are numbers: the type name, an equals sign and the
-- number. If the value is not the shortest encoding of a number (`None`), the text is `plain_text`.
abbrev pub number_text : List ℕ → Field → Option ℕ → List ℕ
number_text type_name c (Some n) = type_name ++ (codes "=" ++ decimal n)
number_text type_name c None = plain_text c

-- The text of a component, given the type name of its type. The text is `plain_text` if the type
-- has no type name. The value of a digest, which has type 1 or 2, is written in hexadecimal digits.
abbrev pub text_by_type_name : Field → Option (List ℕ) → List ℕ
text_by_type_name c None = plain_text c
text_by_type_name c (Some type_name) =
    if nat_le c.0 PARAMETERS_SHA256_DIGEST
    then type_name ++ (codes "=" ++ flat_map (hexadecimal false) c.1)
    else number_text type_name c (shortest_number c.1)

abbrev pub component_text : Field → List ℕ
component_text c = text_by_type_name c (type_name_of c.0)

-- a slash before each piece, or a single slash if there is no piece
abbrev pub path_of : List (List ℕ) → List ℕ
path_of [] = codes "/"
path_of (piece ∷ pieces) = flat_map (λ p. codes "/" ++ p) (piece ∷ pieces)

-- every octet of the components' values is below 256
abbrev pub AreOctets : List Field → Type 0
AreOctets cs = AllByRecursion (λ c. AllByRecursion (λ o. o < 256) c.1) cs

-- the URI text of the name with these components, without the scheme
abbrev pub uri_of : List Field → List ℕ
uri_of cs = path_of (map component_text cs)
