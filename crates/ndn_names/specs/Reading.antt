-- Reading a name from left to right, up to the first fault (NDN Packet Format 0.3, "Name").
use Rattle.std.specs.Prelude.{◌≡◌, ◌≢◌, ◌⊎◌, ℕ, ◌+◌, List, [], ◌∷◌, length, Option, None, Some, Result, Ok, Err, nat_lt, nat_le, ◌==◌, ◌&&◌, ◌||◌, not, if◌then◌else◌}
use Rattle.ndn_tlv.specs.declared.fault.TlvFault.{TlvFault}
use Rattle.ndn_tlv.specs.Element.{Field}
use Rattle.ndn_tlv.specs.Reading.{elements_of, on_result, ◌>>=◌}
use Rattle.ndn_names.specs.declared.component_type.TheConstants.{PARAMETERS_SHA256_DIGEST}
use Rattle.ndn_names.specs.declared.fault.NameFault.{NameFault}
use Rattle.ndn_names.specs.declared.fault.NameFault.TheVariants.{BadComponent, BadDigestLength, TooManyComponents, Memory}

-- The element `c` if it is a valid component, otherwise a fault. The fault is `BadComponent` if the
-- type of `c` is not from 1 to 65535, and `BadDigestLength` if `c` is a digest whose value does not
-- have 32 octets.
abbrev pub component_of : Field → Result Field NameFault
component_of c =
    if (c.0 == 0) || nat_lt 65535 c.0 then Err BadComponent else (
    if nat_le c.0 PARAMETERS_SHA256_DIGEST && not (length c.1 == 32) then Err BadDigestLength
    else Ok c)

-- the element if it is a valid component, otherwise the fault that `component_of` returns; an
-- element that cannot be read has the fault `BadComponent`
abbrev pub component_at : Result Field TlvFault → Result Field NameFault
component_at (Err fault) = Err BadComponent
component_at (Ok c) = component_of c

-- the octets begin with the component `c`, and the elements after `c` are those of `rest`
abbrev pub IsFirst : List ℕ → Field → List ℕ → Type 0
IsFirst octets c rest =
    (elements_of octets ≡ Ok c ∷ elements_of rest) × (component_of c ≡ Ok c)

-- if the octets are not empty, no component can be read at their front, and `fault` is the reason
abbrev pub IsNoFirst : List ℕ → NameFault → Type 0
IsNoFirst octets fault =
    octets ≢ [] → (at : Result Field TlvFault) × (others : List (Result Field TlvFault))
    × (elements_of octets ≡ at ∷ others) × (component_at at ≡ Err fault)

-- either `fault` is the fault in `found`, or `fault` is `Memory` and `found` is the component `c`
abbrev pub IsFaultOrMemory : Result Field NameFault → Field → NameFault → Type 0
IsFaultOrMemory found c fault = (found ≡ Err fault) ⊎ ((fault ≡ Memory) × (found ≡ Ok c))

-- the component that follows n other components, or its fault; if n is 64 or more, the fault is
-- `TooManyComponents`
abbrev pub component_after : ℕ → Result Field TlvFault → Result Field NameFault
component_after n e = if nat_lt n 64 then component_at e else Err TooManyComponents

-- The list of elements, read as components of a name. n other components of this name come before
-- these components. If there is a fault, the result is the first fault.
abbrev pub components_after : ℕ → List (Result Field TlvFault) → Result (List Field) NameFault
components_after n [] = Ok []
components_after n (e ∷ es) = do
  c ← component_after n e
  cs ← components_after (n + 1) es
  Ok (c ∷ cs)

-- the components of a name's TLV-VALUE, or the first fault
unfoldable pub name_at : List ℕ → Result (List Field) NameFault
name_at value = components_after 0 (elements_of value)

-- the name with the TLV-VALUE `value`, or `None` if reading this value returns a fault
abbrev pub name_of : List ℕ → Option (List Field)
name_of value = on_result (λ cs. Some cs) (λ _. None) (name_at value)
