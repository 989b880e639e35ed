-- Successive elements, as an iterator returns them.
use Rattle.std.specs.Prelude.{ℕ, List, Result, Ok, Err}
use Rattle.ndn_tlv.specs.declared.element.Element.{Element}
use Rattle.ndn_tlv.specs.declared.elements.Elements.{Elements}
use Rattle.ndn_tlv.specs.declared.fault.TlvFault.{TlvFault}
use Rattle.ndn_tlv.specs.Element.{Field}
use Rattle.ndn_tlv.specs.Reading.{elements_of}

-- an element as plain data
abbrev pub field : Element → Field
field e = (e.kind, e.value.now)

-- an element or a fault as plain data
abbrev pub field_or_fault : Result Element TlvFault → Result Field TlvFault
field_or_fault (Ok e) = Ok (field e)
field_or_fault (Err f) = Err f

-- the octets that an iterator still has to read
abbrev pub octets_left : Elements → List ℕ
octets_left s = s.rest.now

-- the elements that an iterator has not returned yet, up to the end of the octets or to the first
-- fault; a fault is the last item of the list
abbrev pub elements_left : Elements → List (Result Field TlvFault)
elements_left s = elements_of (octets_left s)
