-- The segment number of a Data, and the number of the last segment (NDN Packet Format 0.3, "Data
-- Packet", "MetaInfo"; NDN Naming Conventions, "Segment").
use Rattle.std.specs.Prelude.{ℕ, ◌-◌, List, [], ◌++◌, length, codes, Option, None, Some, ◌==◌, if◌then◌else◌, slice_get, option_and_then}
use Rattle.std.specs.Result.{result_ok}
use Rattle.std.specs.Fmt.{decimal}
use Rattle.ndn_tlv.specs.Element.{Field}
use Rattle.ndn_tlv.specs.Reading.{elements_of, nni_at}
use Rattle.ndn_names.specs.declared.component_type.TheConstants.{SEGMENT}
use Rattle.ndn_packets.specs.declared.types.TheConstants.{DATA, META_INFO, FINAL_BLOCK_ID}
use Rattle.ndn_tlv.specs.Fields.{first_of, single}
use Rattle.ndn_explain.specs.Show.{named_line}

abbrev pub number_in : List ℕ → Option ℕ
number_in value = result_ok (nni_at value)

-- the number in a segment component; None for any other component, for no component, and for a
-- malformed number
abbrev pub number_of : Option Field → Option ℕ
number_of None = None
number_of (Some c) = if c.0 == SEGMENT then number_in c.1 else None

-- the number in the last component of a name, or None if the last component is not a segment
-- component with a number
abbrev pub segment_of : List Field → Option ℕ
segment_of name = number_of (slice_get name (length name - 1))

-- the number of the last segment, from the component in the FinalBlockId of the MetaInfo of a Data;
-- None if there is no such number
abbrev pub last_segment : List ℕ → Option ℕ
last_segment whole =
    option_and_then (λ component. number_in component)
    (option_and_then (λ last. single SEGMENT (elements_of last))
    (option_and_then (λ meta. first_of FINAL_BLOCK_ID (elements_of meta))
    (option_and_then (λ fields. first_of META_INFO (elements_of fields))
    (single DATA (elements_of whole)))))

abbrev pub segment_line : Option ℕ → Option ℕ → List ℕ
segment_line (Some segment) (Some last) =
    named_line (codes "segment") (decimal segment ++ (codes " last " ++ decimal last))
segment_line segment last = []

-- the line of a Data with this name and these octets; no line if the Data is not a segment or
-- does not give the number of the last segment
abbrev pub segment_lines : List Field → List ℕ → List ℕ
segment_lines name whole = segment_line (segment_of name) (last_segment whole)
