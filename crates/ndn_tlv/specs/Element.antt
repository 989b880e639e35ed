-- Elements (NDN Packet Format 0.3, "Type-Length-Value (TLV) Encoding").
use Rattle.std.specs.Prelude.{◌≡◌, ℕ, ◌<◌, ◌≤◌, ◌^◌, List, ◌++◌, length}
use Rattle.std.specs.List.{flat_map, AllByRecursion}
use Rattle.ndn_tlv.specs.Number.{spelling}

-- an element as plain data: its TLV-TYPE and its TLV-VALUE
abbrev pub Field : Type 0
Field = ℕ × List ℕ

-- the element `f` is valid: its type is from 1 to 2^32 - 1, and the length of its value is below
-- 2^64
abbrev pub IsField : Field → Type 0
IsField f = (1 ≤ f.0) × (f.0 < 2 ^ 32) × (length f.1 < 2 ^ 64)

-- the octets of an element: its type and the length of its value, each as a shortest VAR-NUMBER,
-- and then its value
abbrev pub element : Field → List ℕ
element f = spelling f.0 ++ (spelling (length f.1) ++ f.1)

-- the octets `text` are exactly one valid element, with the type `kind` and the value `value`
abbrev pub IsElement : List ℕ → ℕ → List ℕ → Type 0
IsElement text kind value = IsField (kind, value) × (text ≡ element (kind, value))

-- each of the elements `fields` is valid, and the octets `text` are the concatenation of these
-- elements
abbrev pub IsElements : List ℕ → List Field → Type 0
IsElements text fields = AllByRecursion IsField fields × (text ≡ flat_map element fields)
