-- The form of an origin (RFC 6454 section 6.2, "ASCII Serialization of an Origin").
use Rattle.std.specs.Prelude.{ℕ, List, [], ◌∷◌, length, codes, Bool, false, ◌==◌, ◌||◌, ◌&&◌, nat_le, nat_lt}
use Rattle.std.specs.List.{after_first, before_first, list_all, list_any, position_or_len}
use Rattle.websocket_requests.specs.Field.{is_colon}

-- a letter in lower case
abbrev pub is_small : ℕ → Bool
is_small octet = nat_le 97 octet && nat_le octet 122

abbrev pub is_digit : ℕ → Bool
is_digit octet = nat_le 48 octet && nat_le octet 57

-- the octet may be in a scheme in lower case (RFC 3986 section 3.1, "Scheme")
abbrev pub is_in_scheme : ℕ → Bool
is_in_scheme octet =
    is_small octet || is_digit octet || list_any (λ other. other == octet) (codes "+-.")

-- the octet may be in a host in lower case, or in the port after it
abbrev pub is_in_host : ℕ → Bool
is_in_host octet =
    is_small octet || is_digit octet || list_any (λ other. other == octet) (codes "-._:[]")

abbrev pub is_scheme : List ℕ → Bool
is_scheme [] = false
is_scheme (first ∷ others) = is_small first && list_all is_in_scheme others

abbrev pub is_host : List ℕ → Bool
is_host octets = nat_lt 0 (length octets) && list_all is_in_host octets

-- //, and then a host, also with a port
abbrev pub is_place : List ℕ → Bool
is_place [] = false
is_place (first ∷ []) = false
is_place (first ∷ (second ∷ host)) = first == 47 && second == 47 && is_host host

-- a scheme, a colon, //, and a host, also with a port
abbrev pub is_origin : List ℕ → Bool
is_origin text =
    is_scheme (before_first is_colon text) && is_place (after_first is_colon text)
    && nat_lt (position_or_len is_colon text) (length text)
