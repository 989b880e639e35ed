-- Reading from left to right, up to the first fault (NDN Packet Format 0.3, "Type-Length-Value
-- (TLV) Encoding").
use Rattle.std.specs.Prelude.{◌≡◌, ◌≢◌, ℕ, zero, suc, ◌<◌, ◌≤◌, ◌^◌, ◌⊎◌, List, [], ◌∷◌, ◌++◌, length, take, drop, Result, Ok, Err, nat_lt, ◌==◌, slice_index, if◌then◌else◌}
use Rattle.std.specs.List.{flat_map, AllByRecursion}
use Rattle.std.specs.Int.{Width, w16, w32, w64, byte_len, from_be_bytes}
use Rattle.ndn_tlv.specs.declared.fault.TlvFault.{TlvFault}
use Rattle.ndn_tlv.specs.declared.fault.TlvFault.TheVariants.{Truncated, NotShortest, TypeZero, TypeTooLarge, BadInteger}
use Rattle.ndn_tlv.specs.Number.{IsForm, Spells}
use Rattle.ndn_tlv.specs.Element.{Field, IsField, element}

infixl 10 ◌>>=◌
abbrev pub ◌>>=◌ : {A B F : Type 0} → Result A F → (A → Result B F) → Result B F
(Ok x) >>= f = f x
(Err e) >>= f = Err e

-- The number of width `w` at the front of `bytes`, and the octets after the number. An octet 253,
-- 254 or 255 comes before `bytes`. The result is the fault `Truncated` if octets of the number are
-- missing, and `NotShortest` if the number is below `least`.
abbrev pub long_number_at : Width → ℕ → List ℕ → Result (ℕ × List ℕ) TlvFault
long_number_at w least bytes =
    if nat_lt (length bytes) (byte_len w) then Err Truncated else (
    if nat_lt (from_be_bytes w (take (byte_len w) bytes)) least then Err NotShortest else
    Ok (from_be_bytes w (take (byte_len w) bytes), drop (byte_len w) bytes))

-- the VAR-NUMBER at the front of the octets, and the octets after it; or a fault, which is
-- `Truncated` or `NotShortest`
unfoldable pub number_at : List ℕ → Result (ℕ × List ℕ) TlvFault
number_at [] = Err Truncated
number_at (b ∷ bytes) =
    if nat_lt b 253 then Ok (b, bytes) else (
    if b == 253 then long_number_at w16 253 bytes else (
    if b == 254 then long_number_at w32 (2 ^ 16) bytes else
    long_number_at w64 (2 ^ 32) bytes))

-- the number that a value encodes as a NonNegativeInteger, or the fault `BadInteger` if the value
-- does not have 1, 2, 4 or 8 octets
unfoldable pub nni_at : List ℕ → Result ℕ TlvFault
nni_at value =
    if length value == 1 then Ok (slice_index value 0) else (
    if length value == 2 then Ok (from_be_bytes w16 value) else (
    if length value == 4 then Ok (from_be_bytes w32 value) else (
    if length value == 8 then Ok (from_be_bytes w64 value) else
    Err BadInteger)))

-- The TLV-TYPE at the front of the octets, and the octets after it. The result is the fault of
-- `number_at` if no number can be read, `TypeZero` for the number 0, and `TypeTooLarge` for a
-- number from 2^32 on.
abbrev pub type_at : List ℕ → Result (ℕ × List ℕ) TlvFault
type_at bytes = do
  kind ← number_at bytes
  if kind.0 == 0 then Err TypeZero
      else (if nat_lt kind.0 (2 ^ 32) then Ok kind else Err TypeTooLarge)

-- the element at the front of the octets, and the octets after it, or a fault: the fault of its
-- type, the fault of its length, or `Truncated` if octets of its value are missing
unfoldable pub element_at : List ℕ → Result (Field × List ℕ) TlvFault
element_at bytes = do
  kind ← type_at bytes
  len ← number_at kind.1
  if nat_lt (length len.1) len.0 then Err Truncated
      else Ok ((kind.0, take len.0 len.1), drop len.0 len.1)

abbrev pub on_result : {A F C : Type 0} → (A → C) → (F → C) → Result A F → C
on_result f g (Ok x) = f x
on_result f g (Err e) = g e

-- The elements of a text, in order, up to the end of the text or to the first fault. A fault is the
-- last item of the list. The list has at most n items; later elements are left out.
unfoldable pub elements_within : ℕ → List ℕ → List (Result Field TlvFault)
elements_within zero bytes = []
elements_within (suc n) [] = []
elements_within (suc n) (b ∷ bytes) =
    on_result (λ x. Ok x.0 ∷ elements_within n x.1) (λ f. Err f ∷ []) (element_at (b ∷ bytes))

-- The elements of a text, in order, up to the end of the text or to the first fault. A fault is the
-- last item of the list.
unfoldable pub elements_of : List ℕ → List (Result Field TlvFault)
elements_of bytes = elements_within (length bytes) bytes

-- the octets, followed by one or more missing octets, are an encoding of some number
abbrev pub IsCutNumber : List ℕ → Type 0
IsCutNumber bytes = (missing : List ℕ) × (n : ℕ) × (missing ≢ []) × IsForm (bytes ++ missing) n

-- the octets begin with a number that is not in its shortest form
abbrev pub BeginsTooLong : List ℕ → Type 0
BeginsTooLong bytes =
    (text rest : List ℕ) × (n : ℕ) × (bytes ≡ text ++ rest) × IsForm text n × (Spells text n → ⊥)

-- the fault is the reason why no number can be read at the front of the octets
abbrev pub NumberFault : List ℕ → TlvFault → Type 0
NumberFault bytes Truncated = IsCutNumber bytes
NumberFault bytes NotShortest = BeginsTooLong bytes
NumberFault bytes TypeZero = ⊥
NumberFault bytes TypeTooLarge = ⊥
NumberFault bytes BadInteger = ⊥

-- the octets begin with a valid TLV-TYPE in its shortest encoding, and the octets after this type
-- have the property `P`
abbrev pub AfterType : List ℕ → (List ℕ → Type 0) → Type 0
AfterType bytes P =
    (text rest : List ℕ) × (kind : ℕ) × (bytes ≡ text ++ rest) × Spells text kind × (1 ≤ kind)
    × (kind < 2 ^ 32) × P rest

-- the octets begin with the shortest encoding of the length of a value, and fewer octets than this
-- length follow
abbrev pub IsCutValue : List ℕ → Type 0
IsCutValue bytes =
    (text rest : List ℕ) × (n : ℕ) × (bytes ≡ text ++ rest) × Spells text n × (length rest < n)

-- the fault is the reason why no element can be read at the front of the octets
abbrev pub ElementFault : List ℕ → TlvFault → Type 0
ElementFault bytes Truncated =
    IsCutNumber bytes ⊎ (AfterType bytes IsCutNumber ⊎ AfterType bytes IsCutValue)
ElementFault bytes NotShortest = BeginsTooLong bytes ⊎ AfterType bytes BeginsTooLong
ElementFault bytes TypeZero = (rest : List ℕ) × (bytes ≡ 0 ∷ rest)
ElementFault bytes TypeTooLarge =
    (text rest : List ℕ) × (kind : ℕ) × (bytes ≡ text ++ rest) × Spells text kind × (2 ^ 32 ≤ kind)
ElementFault bytes BadInteger = ⊥

-- The text consists of the valid elements `fields` and at least one more octet. `fault` is the
-- reason why no element can be read after `fields`.
abbrev pub EndsInFault : List ℕ → List Field → TlvFault → Type 0
EndsInFault text fields fault =
    (rest : List ℕ) × (text ≡ flat_map element fields ++ rest) × AllByRecursion IsField fields
    × (rest ≢ []) × ElementFault rest fault
