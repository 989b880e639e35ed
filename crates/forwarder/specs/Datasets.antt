-- The lists of routes and strategies as Data (NFD Management, "Status Dataset").
use Rattle.std.specs.Prelude.{ℕ, List, [], ◌∷◌, ◌++◌, Option, None, Some, Bool, true, ◌==◌, if◌then◌else◌}
use Rattle.ndn_tlv.specs.Element.{Field}
use Rattle.ndn_tlv.specs.Number.{shortest_nni}
use Rattle.ndn_names.specs.declared.component_type.TheConstants.{SEGMENT, VERSION}
use Rattle.ndn_packets.specs.declared.signature.Sign.TheVariants as sign
use Rattle.ndn_packets.specs.Writing.{meta_fields, meta_of, signed_data}
use Rattle.mgmt_core.specs.Writing.{fib_text, segment_at, strategy_text}
use Rattle.forwarder.specs.Event.{Token, sent_back}
use Rattle.forwarder.specs.Policy.{Policy}
use Rattle.forwarder.specs.Request.{ListKind, RouteList, StrategyList, ListAsked, list_name}
use Rattle.forwarder.specs.Verdict.{Answer, NoSegment, dropped, passed}

abbrev pub dataset_text : Policy → ListKind → List ℕ
dataset_text p RouteList = fib_text p.now p.routes
dataset_text p StrategyList = strategy_text p.choices

-- the name of a segment: the name of the list, the version of the list, and the number of the
-- segment
abbrev pub segment_name : ListKind → ℕ → ℕ → List Field
segment_name kind version segment =
    list_name kind ++ (VERSION, shortest_nni version) ∷ (SEGMENT, shortest_nni segment) ∷ []

-- the FreshnessPeriod of a segment, in milliseconds
abbrev pub LIST_FRESHNESS : ℕ
LIST_FRESHNESS = 1000

-- the octets of a Data with this name and content, signed with DigestSha256; the FinalBlockId of
-- the Data contains the number `last` of the last segment
abbrev pub segment_data : List Field → List ℕ → ℕ → List ℕ
segment_data name content last =
    signed_data sign.Digest name (meta_of (meta_fields (Some LIST_FRESHNESS) (Some last)))
    (Some content)

abbrev pub segment_answer : ℕ → Token → List Field → Option (List ℕ × ℕ) → Answer
segment_answer face token name None = dropped NoSegment
segment_answer face token name (Some part) =
    passed (sent_back face token (segment_data name part.0 part.1) ∷ [])

-- true if no version is requested or the requested version is the current version of the lists, and
-- false otherwise
abbrev pub is_present : Policy → Option ℕ → Bool
is_present p None = true
is_present p (Some version) = version == p.table_number

-- The answer to an Interest for a segment. If the Interest requests the current version or no
-- version, and the current list has this segment, the segment is sent. Otherwise the Interest is
-- dropped.
abbrev pub list_answer : Policy → ℕ → Token → ListAsked → Answer
list_answer p face token asked =
    if is_present p asked.version
    then segment_answer face token (segment_name asked.kind p.table_number asked.segment)
    (segment_at (dataset_text p asked.kind) asked.segment)
    else dropped NoSegment

-- the answer that sends the octets of a segment back; for None, a drop with the reason NoSegment
abbrev pub answered_with : ℕ → Token → Option (List ℕ) → Answer
answered_with face token None = dropped NoSegment
answered_with face token (Some octets) = passed (sent_back face token octets ∷ [])
