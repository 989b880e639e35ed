-- Finding fields by their types. `first_of` returns the value of the first field of a type, even if
-- later fields have the same type. `first_of` ignores the first element that cannot be read, and
-- everything after this element (NFD Management, "Control Command").
use Rattle.std.specs.Prelude.{ℕ, List, [], ◌∷◌, Option, None, Some, Result, Ok, Err, ◌==◌, if◌then◌else◌}
use Rattle.ndn_tlv.specs.declared.fault.TlvFault.{TlvFault}
use Rattle.ndn_tlv.specs.Element.{Field}

abbrev pub Elements : Type 0
Elements = List (Result Field TlvFault)

-- the value of the first element of type `kind`, or `None` if there is no such element before the
-- first fault
abbrev pub first_of : ℕ → Elements → Option (List ℕ)
first_of kind [] = None
first_of kind (Err fault ∷ es) = None
first_of kind (Ok e ∷ es) = if e.0 == kind then Some e.1 else first_of kind es

-- if the list has exactly one item, and this item is an element of type `kind`, the value of this
-- element; otherwise `None`
abbrev pub single : ℕ → Elements → Option (List ℕ)
single kind [] = None
single kind (Err fault ∷ es) = None
single kind (Ok e ∷ []) = if e.0 == kind then Some e.1 else None
single kind (Ok e ∷ (f ∷ es)) = None
