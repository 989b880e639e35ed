-- The fields of a head (RFC 9112 section 5, "Field Syntax"): a name, a colon, and a value, with
-- spaces and tabs around the value.
use Rattle.std.specs.Prelude.{ℕ, ◌+◌, ◌-◌, List, length, take, drop, map, codes, Bool, ◌==◌, ◌||◌, ◌&&◌, not, nat_lt}
use Rattle.std.specs.List.{position_or_len, suffix_len, list_all, list_any}
use Rattle.std.specs.Str.{bytes_eq}
use Rattle.std.specs.Char.{to_ascii_lowercase, is_ascii_alphanumeric}

abbrev pub is_colon : ℕ → Bool
is_colon octet = octet == 58

-- a space or a tab
abbrev pub is_space : ℕ → Bool
is_space octet = octet == 32 || octet == 9

abbrev pub is_text : ℕ → Bool
is_text octet = not (is_space octet)

-- the octet may be in the name of a field (RFC 9110 section 5.6.2, "Tokens")
abbrev pub is_token : ℕ → Bool
is_token octet =
    is_ascii_alphanumeric octet || list_any (λ other. other == octet) (codes "!#$%&'*+-.^_`|~")

abbrev pub colon_in : List ℕ → ℕ
colon_in line = position_or_len is_colon line

abbrev pub name_of : List ℕ → List ℕ
name_of line = take (colon_in line) line

-- the line begins with a name and a colon
abbrev pub is_named : List ℕ → Bool
is_named line =
    nat_lt 0 (colon_in line) && nat_lt (colon_in line) (length line)
    && list_all is_token (name_of line)

-- the name is Origin, in upper or lower case
abbrev pub is_origin_field : List ℕ → Bool
is_origin_field line =
    bytes_eq (map to_ascii_lowercase (name_of line)) (codes "origin")

-- without spaces and tabs at the end
abbrev pub without_end : List ℕ → List ℕ
without_end octets = take (length octets - suffix_len is_space octets) octets

-- without spaces and tabs at the start and the end
abbrev pub trimmed : List ℕ → List ℕ
trimmed octets = without_end (drop (position_or_len is_text octets) octets)

-- the octets after the colon, without the spaces and tabs around them
abbrev pub value_of : List ℕ → List ℕ
value_of line = trimmed (drop (colon_in line + 1) line)

-- the octets are one of these texts
abbrev pub is_listed : List (List ℕ) → List ℕ → Bool
is_listed listed octets = list_any (λ text. bytes_eq text octets) listed
