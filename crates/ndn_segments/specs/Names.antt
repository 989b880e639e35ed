-- The names of segments, and the number of the last segment (NDN Naming Conventions, revision 3,
-- "Versioning" and "Segmentation"; NDN Packet Format 0.3, "MetaInfo").
use Rattle.std.specs.Prelude.{ℕ, ◌≤◌, List, [], ◌∷◌, ◌++◌, length, Option, option_and_then, ⊤}
use Rattle.ndn_tlv.specs.Number.{shortest_nni}
use Rattle.ndn_tlv.specs.Element.{Field}
use Rattle.ndn_tlv.specs.Reading.{elements_of}
use Rattle.ndn_tlv.specs.Fields.{first_of, single}
use Rattle.ndn_names.specs.declared.component_type.TheConstants.{SEGMENT, VERSION}
use Rattle.ndn_names.specs.declared.fault.NameFault.{NameFault}
use Rattle.ndn_names.specs.declared.fault.NameFault.TheVariants.{BadComponent, BadDigestLength, TooManyComponents, BadUri, Memory}
use Rattle.ndn_packets.specs.declared.types.TheConstants.{DATA, META_INFO, FINAL_BLOCK_ID}

-- the name of one version of a file: the name of the file, and a VersionNameComponent
abbrev pub version_name : List Field → ℕ → List Field
version_name name version = name ++ (VERSION, shortest_nni version) ∷ []

-- the name of a segment: the name of one version of a file, and a SegmentNameComponent
abbrev pub segment_name : List Field → ℕ → List Field
segment_name stem number = stem ++ (SEGMENT, shortest_nni number) ∷ []

-- The value of the SegmentNameComponent that is the FinalBlockId in the MetaInfo of a Data. `None`
-- if the octets are not a Data, or the Data has no MetaInfo or no FinalBlockId, or its FinalBlockId
-- is not exactly one SegmentNameComponent.
abbrev pub final_value : List ℕ → Option (List ℕ)
final_value whole =
    option_and_then (λ last. single SEGMENT (elements_of last))
    (option_and_then (λ meta. first_of FINAL_BLOCK_ID (elements_of meta))
    (option_and_then (λ fields. first_of META_INFO (elements_of fields))
    (single DATA (elements_of whole))))

-- why a component cannot be appended to a name: `TooManyComponents` if the name has 64 components,
-- otherwise only `Memory`
abbrev pub IsTooLong : List Field → NameFault → Type 0
IsTooLong name TooManyComponents = 64 ≤ length name
IsTooLong name BadComponent = ⊥
IsTooLong name BadDigestLength = ⊥
IsTooLong name BadUri = ⊥
IsTooLong name Memory = ⊤
