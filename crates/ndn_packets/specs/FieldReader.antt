-- The fields that a `FieldReader` has not returned yet.
use Rattle.std.specs.Prelude.{◌≡◌, ◌≢◌, [], ◌∷◌, ℕ, Bool, List, Result, Ok, Err, Option, None, Some, IsSome}
use Rattle.ndn_tlv.specs.Element.{Field}
use Rattle.ndn_tlv.specs.Reading.{element_at, elements_of}
use Rattle.ndn_packets.specs.declared.fault.PacketFault.{PacketFault}
use Rattle.ndn_packets.specs.declared.field_reader.FieldReader.{FieldReader}
use Rattle.ndn_packets.specs.declared.schema.Rules.{Rules}
use Rattle.ndn_packets.specs.declared.schema.Rules.TheVariants as rules
use Rattle.ndn_tlv.specs.declared.element.Element.{Element}
use Rattle.ndn_packets.specs.Fields.{is_even_high, is_ignored_in_meta_info, is_ignored_in_signature_info}
use Rattle.ndn_packets.specs.Reading.{schema_after, fields_from}
use Rattle.ndn_packets.specs.Covered.{from_first}
use Rattle.ndn_packets.specs.declared.types.TheConstants.{NAME}

abbrev pub ignored_by : Rules → ℕ → Bool
ignored_by rules.Packet = is_even_high
ignored_by rules.MetaInfo = is_ignored_in_meta_info
ignored_by rules.SignatureInfo = is_ignored_in_signature_info

abbrev pub fields_left : FieldReader → List (Result Field PacketFault)
fields_left f = fields_from (ignored_by f.rules) f.schema.now (elements_of f.rest.now)

-- What a step of the reader from the state `before` to the state `after` returns: the next field,
-- if a field is left; `None`, if nothing is left; or a fault, if this fault is the only item that
-- is left.
abbrev pub IsNextField : FieldReader → FieldReader → Result (Option Element) PacketFault → Type 0
IsNextField before after (Ok None) = fields_left before ≡ []
IsNextField before after (Ok (Some e)) =
    fields_left before ≡ Ok (e.kind, e.value.now) ∷ fields_left after
IsNextField before after (Err fault) = fields_left before ≡ Err fault ∷ []

-- The reader just returned the field `e`. `after.here` is the input from the start of `e` on.
-- `after.schema` lists the types after the type of `e`. If a field of type `kind` could come next
-- when the reader was in the state `before`, then `before.rest` and `after.here` have the same
-- octets from the first element of type `kind` on.
pub record StandsHere (before after : FieldReader) (e : Element) : Type 0 where
  pub here : Ok ((e.kind, e.value.now), after.rest.now) ≡ element_at after.here.now
  pub schema : schema_after e.kind before.schema.now ≡ Some after.schema.now
  pub place : (kind : ℕ) → IsSome (schema_after kind before.schema.now)
      → from_first kind before.rest.now ≡ from_first kind after.here.now

-- For every type other than Name, `octets` and `rest` have the same octets from the first element
-- of this type on. Readers use this relation if `octets` begins with a Name and `rest` is the
-- octets after this Name.
abbrev pub OthersAfter : List ℕ → List ℕ → Type 0
OthersAfter octets rest = (kind : ℕ) → kind ≢ NAME → from_first kind octets ≡ from_first kind rest
