-- Reading a name's text from left to right, up to the first fault (NDN Packet Format 0.3, "NDN URI
-- Scheme").
use Rattle.std.specs.Prelude.{◌≡◌, ◌⊎◌, ℕ, ◌+◌, ◌-◌, ◌*◌, ◌^◌, List, [], ◌∷◌, length, take, drop, Option, Some, None, ◌++◌, Bool, Result, Ok, Err, codes, decimal, bytes_eq, nat_lt, nat_le, ◌==◌, ◌&&◌, ◌||◌, not, if◌then◌else◌}
use Rattle.std.specs.List.{list_any}
use Rattle.std.specs.Char.{digit_value}
use Rattle.std.specs.Str.{all_ascii_digits}
use Rattle.std.specs.Str.Parse.{digits_value}
use Rattle.ndn_tlv.specs.Element.{Field}
use Rattle.ndn_tlv.specs.Number.{shortest_nni}
use Rattle.ndn_tlv.specs.Reading.{◌>>=◌}
use Rattle.ndn_names.specs.declared.fault.NameFault.{NameFault}
use Rattle.ndn_names.specs.declared.fault.NameFault.TheVariants.{TooManyComponents, BadUri, Memory}
use Rattle.ndn_names.specs.declared.component_type.TheConstants.{GENERIC, PARAMETERS_SHA256_DIGEST}
use Rattle.ndn_names.specs.Reading.{component_of}
use Rattle.ndn_names.specs.TypeName.{kind_of}
use Rattle.ndn_names.specs.Uri.{is_periods}

-- the octet that the hexadecimal digits `high` and `low` encode, or the fault `BadUri` if `high` or
-- `low` is not a hexadecimal digit
abbrev pub pair_in : ℕ → ℕ → Result ℕ NameFault
pair_in high low =
    if nat_lt (digit_value high) 16 && nat_lt (digit_value low) 16
    then Ok (16 * digit_value high + digit_value low) else Err BadUri

-- the octet `o` followed by the octets `others`, or the fault of `others`
abbrev pub before : ℕ → Result (List ℕ) NameFault → Result (List ℕ) NameFault
before o others = do
  octets ← others
  Ok (o ∷ octets)

-- the octets that hexadecimal digits encode, or the fault `BadUri` if the text does not consist of
-- pairs of hexadecimal digits
abbrev pub hex_in : List ℕ → Result (List ℕ) NameFault
hex_in [] = Ok []
hex_in (high ∷ []) = Err BadUri
hex_in (high ∷ low ∷ text) = do
  o ← pair_in high low
  before o (hex_in text)

-- the octets that a text with percent escapes encodes, or the fault `BadUri` if a percent sign is
-- not followed by two hexadecimal digits
abbrev pub octets_in : List ℕ → Result (List ℕ) NameFault
octets_in [] = Ok []
octets_in (a ∷ []) = if a == 37 then Err BadUri else Ok (a ∷ [])
octets_in (a ∷ b ∷ []) = if a == 37 then Err BadUri else before a (octets_in (b ∷ []))
octets_in (a ∷ b ∷ c ∷ text) =
    if a == 37 then (do
      o ← pair_in b c
      before o (octets_in text))
    else before a (octets_in (b ∷ c ∷ text))

-- The value whose text encodes `octets`. If all octets are periods, the result is `octets` without
-- three of the periods, or the fault `BadUri` if there are fewer than three octets. If not all
-- octets are periods, the result is `octets`.
abbrev pub unpadded : List ℕ → Result (List ℕ) NameFault
unpadded octets =
    if not (is_periods octets) then Ok octets else (
    if nat_lt (length octets) 3 then Err BadUri else Ok (take (length octets - 3) octets))

-- the component of type `kind` with the value that the text encodes, or a fault if the text or the
-- component is not valid
abbrev pub plain_in : ℕ → List ℕ → Result Field NameFault
plain_in kind text = do
  octets ← octets_in text
  value ← unpadded octets
  component_of (kind, value)

-- the number below 2^64 that a text represents in decimal digits, without a sign; the result is the
-- fault `BadUri` if the text represents no such number
abbrev pub number_in : List ℕ → Result ℕ NameFault
number_in text =
    if all_ascii_digits text && (nat_lt 0 (length text) && nat_lt (digits_value 10 text) (2 ^ 64))
    then Ok (digits_value 10 text) else Err BadUri

-- the type number from 1 to 65535 that a text represents in decimal digits, without leading zeros;
-- the result is the fault `BadUri` if the text represents no such type number
abbrev pub type_in : List ℕ → Result ℕ NameFault
type_in type_name = do
  kind ← number_in type_name
  if (kind == 0) || (nat_lt 65535 kind || not (bytes_eq type_name (decimal kind))) then Err BadUri
      else Ok kind

abbrev pub digest_in : ℕ → List ℕ → Result Field NameFault
digest_in kind text = if length text == 64 then (do
  octets ← hex_in text
  Ok (kind, octets)) else Err BadUri

abbrev pub numbered_in : ℕ → List ℕ → Result Field NameFault
numbered_in kind text = do
  n ← number_in text
  Ok (kind, shortest_nni n)

-- The component whose text consists of `type_name`, an equals sign and `text`. If there is no such
-- component, the result is a fault. `Some kind` means that `type_name` is the name of the component
-- type `kind`. `None` means that no type has this name.
abbrev pub typed_in : List ℕ → List ℕ → Option ℕ → Result Field NameFault
typed_in type_name text (Some kind) =
    if nat_le kind PARAMETERS_SHA256_DIGEST then digest_in kind text else numbered_in kind text
typed_in type_name text None = do
  kind ← type_in type_name
  plain_in kind text

-- the octets before and after the first octet that is `c`, or `None` if no octet is `c`
abbrev pub cut_at : ℕ → List ℕ → Option (List ℕ × List ℕ)
cut_at c [] = None
cut_at c (o ∷ text) = if o == c then Some ([], text) else (more o (cut_at c text))
  where
    more : ℕ → Option (List ℕ × List ℕ) → Option (List ℕ × List ℕ)
    more o None = None
    more o (Some parts) = Some (o ∷ parts.0, parts.1)

abbrev pub component_by_cut : List ℕ → Option (List ℕ × List ℕ) → Result Field NameFault
component_by_cut piece None = plain_in GENERIC piece
component_by_cut piece (Some parts) = typed_in parts.0 parts.1 (kind_of parts.0)

-- the component that a piece of a URI reads as, or a fault
unfoldable pub component_in : List ℕ → Result Field NameFault
component_in piece = component_by_cut piece (cut_at 61 piece)

-- the component that a text reads as, or a fault, which is `BadUri` if the text contains a slash
abbrev pub piece_in : List ℕ → Result Field NameFault
piece_in text = if list_any (λ o. o == 47) text then Err BadUri else component_in text

-- The components that the pieces read as. n other components of the name come before these
-- components. If there is a fault, the result is the first fault.
abbrev pub components_in : ℕ → List (List ℕ) → Result (List Field) NameFault
components_in n [] = Ok []
components_in n (piece ∷ pieces) = do
  c ← if nat_lt n 64 then component_in piece else Err TooManyComponents
  cs ← components_in (n + 1) pieces
  Ok (c ∷ cs)

-- the pieces with the octet `o` added at the front of the first piece, or a piece of `o` alone if
-- there are no pieces
abbrev pub at_front : ℕ → List (List ℕ) → List (List ℕ)
at_front o [] = (o ∷ []) ∷ []
at_front o (piece ∷ pieces) = (o ∷ piece) ∷ pieces

-- the pieces of a text between its slashes; after a slash at the end there is no piece
abbrev pub pieces_of : List ℕ → List (List ℕ)
pieces_of [] = []
pieces_of (o ∷ text) = if o == 47 then [] ∷ pieces_of text else at_front o (pieces_of text)

-- the text without the scheme `ndn:` if the text begins with this scheme, otherwise the whole text
abbrev pub without_scheme : List ℕ → List ℕ
without_scheme text = if bytes_eq (take 4 text) (codes "ndn:") then drop 4 text else text

-- The name of a URI, or the first fault. `text` is the part of the URI after the first slash of the
-- path. If `text` is itself a single slash, the name is empty.
abbrev pub name_after_slash : List ℕ → Result (List Field) NameFault
name_after_slash text = components_in 0 (if bytes_eq text (codes "/") then [] else pieces_of text)

abbrev pub name_in_path : List ℕ → Result (List Field) NameFault
name_in_path [] = Err BadUri
name_in_path (o ∷ text) = if o == 47 then name_after_slash text else Err BadUri

-- the name that a URI reads as, or the first fault
unfoldable pub name_in : List ℕ → Result (List Field) NameFault
name_in text = name_in_path (without_scheme text)

-- either `fault` is the fault that `read` returns, or `fault` is `Memory` and `read` succeeds
abbrev pub IsFaultBeforeMemory : {A : Type 0} → Result A NameFault → NameFault → Type 0
IsFaultBeforeMemory {A} read fault =
    (read ≡ Err fault) ⊎ ((fault ≡ Memory) × ((x : A) × (read ≡ Ok x)))

-- `fault` is the fault that `read` returns, or `Memory`
abbrev pub IsFaultOf : {A : Type 0} → Result A NameFault → NameFault → Type 0
IsFaultOf read fault = (read ≡ Err fault) ⊎ (fault ≡ Memory)

-- `read` has succeeded with some `x`, and `new` is `old` followed by the octets of `x`
abbrev pub Adds : {A : Type 0} → (A → List ℕ) → Result A NameFault → List ℕ → List ℕ → Type 0
Adds {A} octets_of read old new = (x : A) × (read ≡ Ok x) × (new ≡ old ++ octets_of x)

-- `read` succeeds, and `count` is a pair: the number of octets that `read` returns, and whether all
-- of these octets are periods
abbrev pub AreCounted : Result (List ℕ) NameFault → ℕ × Bool → Type 0
AreCounted read count =
    (octets : List ℕ) × (read ≡ Ok octets) × (count.0 ≡ length octets)
    × (count.1 ≡ is_periods octets)

-- The value whose text encodes `octets` consists of the first `len` octets of `octets`. If all of
-- `octets` are periods, the value lacks three of them. Otherwise the value is all of `octets`.
abbrev pub AreLeft : List ℕ → ℕ → Type 0
AreLeft octets len = (unpadded octets ≡ Ok (take len octets)) × (len ≡ length (take len octets))
