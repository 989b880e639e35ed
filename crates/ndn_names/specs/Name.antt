-- Names (NDN Packet Format 0.3, "Name").
use Rattle.std.specs.Prelude.{◌≡◌, ℕ, ◌<◌, ◌≤◌, List, ◌++◌, length}
use Rattle.std.specs.List.{flat_map, filter_map, AllByRecursion, AllByRecursion-prop}
use Rattle.std.specs.Coded.{×_prop, →_prop, le_prop, Coded-set, coded_ℕ, coded_list}
use Rattle.std.specs.Result.{result_ok}
use Rattle.ndn_tlv.specs.Element.{Field, IsField, element, IsElements}
use Rattle.ndn_tlv.specs.Reading.{elements_of}
use Rattle.ndn_names.specs.declared.component_type.TheConstants.{PARAMETERS_SHA256_DIGEST}

-- A valid component has a type from 1 to 65535. A component of type 1 or 2 is a digest, and its
-- value has 32 octets.
abbrev pub IsComponent : Field → Type 0
IsComponent c = (1 ≤ c.0) × (c.0 < 65536) × (c.0 ≤ PARAMETERS_SHA256_DIGEST → length c.1 ≡ 32)

-- a name has at most 64 components, and all of them are valid
abbrev pub IsName : List Field → Type 0
IsName cs = (length cs ≤ 64) × AllByRecursion IsComponent cs

-- the TLV-VALUE of a Name: the octets of its components, in order
abbrev pub octets_of : List Field → List ℕ
octets_of cs = flat_map element cs

-- the octets are the TLV-VALUE of the name with these components
abbrev pub IsNameValue : List ℕ → List Field → Type 0
IsNameValue value cs = IsElements value cs × IsName cs

-- `a` is a prefix of `b`, or equal to `b`
abbrev pub IsPrefix : List Field → List Field → Type 0
IsPrefix a b = (rest : List Field) × (b ≡ a ++ rest)

-- the elements at the front of the octets, before the first element that cannot be read
unfoldable pub components_of : List ℕ → List Field
components_of value = filter_map result_ok (elements_of value)

-- the octets are the TLV-VALUE of some name
abbrev pub IsNameOctets : List ℕ → Type 0
IsNameOctets value = IsNameValue value (components_of value)

-- any two proofs of `IsField f` are equal
IsField-prop : (f : Field) → IsProp (IsField f)
IsField-prop f p q = λ i. (le_prop p.0 q.0 i, le_prop p.1 q.1 i, le_prop p.2 q.2 i)

IsComponent-prop : (c : Field) → IsProp (IsComponent c)
IsComponent-prop c p q =
    λ i. (
      le_prop p.0 q.0 i,
      le_prop p.1 q.1 i,
      →_prop (Coded-set coded_ℕ (length c.1) 32) p.2 q.2 i,
    )

pub IsNameOctets-prop : (value : List ℕ) → IsProp (IsNameOctets value)
IsNameOctets-prop value =
    let cs = components_of value in
    ×_prop
    (×_prop (AllByRecursion-prop IsField IsField-prop cs)
    (Coded-set (coded_list coded_ℕ) value (octets_of cs)))
    (×_prop le_prop (AllByRecursion-prop IsComponent IsComponent-prop cs))
