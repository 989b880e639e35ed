-- Reading a frame from left to right, up to the first fault (NDNLPv2, "Packet Format",
-- "Fragmentation", "Network Nack", "PIT Token").
use Rattle.std.specs.Prelude.{ℕ, List, [], ◌∷◌, length, Option, None, Some, Result, Ok, Err, Bool, true, false, is_some, nat_lt, nat_le, ◌==◌, ◌&&◌, ◌||◌, not, if◌then◌else◌}
use Rattle.ndn_tlv.specs.declared.fault.TlvFault.{TlvFault}
use Rattle.ndn_tlv.specs.Element.{Field}
use Rattle.ndn_tlv.specs.Reading.{◌>>=◌, on_result, element_at, elements_of}
use Rattle.ndn_packets.specs.declared.fault.PacketFault.{PacketFault}
use Rattle.ndn_packets.specs.declared.fault.PacketFault.TheVariants.{Tlv, BadField, Fragmented, LpField, TooLong}
use Rattle.ndn_packets.specs.Packet.{PlainInterest, PlainData, PlainFrame, PlainFramed, framed_with, AnInterest, AData, ANack, Idle}
use Rattle.ndn_packets.specs.Link.{is_ignored_header, nack_schema}
use Rattle.ndn_packets.specs.Fields.{is_even_high}
use Rattle.ndn_packets.specs.Reading.{fields_from, read_fields, is_nil, nni_value_at, interest_at, data_at}
use Rattle.ndn_packets.specs.declared.types.TheConstants.{DATA, FRAGMENT, FRAG_COUNT, FRAG_INDEX, INTEREST, LINK_PACKET, NACK, PIT_TOKEN, SEQUENCE}

-- ---- packets

-- the element, if a text is exactly one element; the fault is `BadField` if octets follow the first
-- element, and `Tlv` if the first element cannot be read
abbrev pub only_element : List ℕ → Result Field PacketFault
only_element text =
    on_result (λ x. if is_nil x.1 then Ok x.0 else Err BadField) (λ f. Err (Tlv f))
    (element_at text)

-- `interest_of` reads an Interest, and `data_of` reads a Data. The octets `text` are one element
-- with the TLV-VALUE `value`. If `text` has more than 8,800 octets, the fault is `TooLong`.
abbrev pub interest_of : List ℕ → List ℕ → Result PlainInterest PacketFault
interest_of text value = if nat_lt 8800 (length text) then Err TooLong else interest_at value

abbrev pub data_of : List ℕ → List ℕ → Result PlainData PacketFault
data_of text value = if nat_lt 8800 (length text) then Err TooLong else data_at value

-- The packet in the octets `text`, or the fault of these octets. The octets `text` are exactly the
-- element `outer`. An element that is neither an Interest nor a Data has the fault `BadField`.
abbrev pub packet_of : List ℕ → Field → Result PlainFrame PacketFault
packet_of text outer =
    if outer.0 == INTEREST then (interest_of text outer.1 >>= λ i. Ok (AnInterest text i)) else (
    if outer.0 == DATA then (data_of text outer.1 >>= λ d. Ok (AData text d)) else
    Err BadField)

-- The Nack with this reason for the Interest in the octets `text`, or a fault. The octets `text`
-- are exactly the element `outer`. An element other than an Interest has the fault `BadField`.
abbrev pub nacked_of : ℕ → List ℕ → Field → Result PlainFrame PacketFault
nacked_of reason text outer =
    if outer.0 == INTEREST then (interest_of text outer.1 >>= λ i. Ok (ANack reason text i))
    else Err BadField

-- ---- link packets

-- the reason in a NackReason field; this reason replaces the earlier reason `reason`; the fault is
-- `BadField` if the value of the field is not a number
abbrev pub take_nack_field : ℕ → Field → Result ℕ PacketFault
take_nack_field reason f = nni_value_at f.1

unfoldable pub nack_at : List ℕ → Result ℕ PacketFault
nack_at value =
    read_fields take_nack_field 0 (fields_from is_even_high nack_schema (elements_of value))

-- the state of a reader of header fields: which header fields have been read, the PIT token, and
-- the reason of a Nack
pub record LinkSoFar : Type 0 where
  pub sequence : Bool
  pub frag_index : Bool
  pub frag_count : Bool
  pub token : Option (List ℕ)
  pub nack : Option ℕ

abbrev pub no_headers_yet : LinkSoFar
no_headers_yet = record {
  sequence = false;
  frag_index = false;
  frag_count = false;
  token = None;
  nack = None;
}

abbrev pub is_token : List ℕ → Bool
is_token value = nat_le 1 (length value) && nat_le (length value) 32

-- whether a header field is refused: a known field may come only once, a PIT token must have 1 to
-- 32 octets, and `is_ignored_header` must be true of the type of an unknown field
abbrev pub is_refused_header : LinkSoFar → Field → Bool
is_refused_header s h =
    if h.0 == SEQUENCE then s.sequence else (
    if h.0 == FRAG_INDEX then s.frag_index else (
    if h.0 == FRAG_COUNT then s.frag_count else (
    if h.0 == PIT_TOKEN then (is_some s.token || not (is_token h.1)) else (
    if h.0 == NACK then is_some s.nack else
    not (is_ignored_header h.0)))))

-- the state `s` if the value is a number that is at most `limit`; the fault is `BadField` if the
-- value is not a number, and `Fragmented` if the number is greater than `limit`
abbrev pub at_most : ℕ → List ℕ → LinkSoFar → Result LinkSoFar PacketFault
at_most limit value s = nni_value_at value >>= λ n. if nat_lt limit n then Err Fragmented else Ok s

-- adding the header field `h`, which is not refused, to the state `s` gives the new state, or the
-- fault in the value of `h`
abbrev pub with_header : LinkSoFar → Field → Result LinkSoFar PacketFault
with_header s h =
    if h.0 == SEQUENCE then Ok (record s { sequence = true }) else (
    if h.0 == FRAG_INDEX then at_most 0 h.1 (record s { frag_index = true }) else (
    if h.0 == FRAG_COUNT then at_most 1 h.1 (record s { frag_count = true }) else (
    if h.0 == PIT_TOKEN then Ok (record s { token = Some h.1 }) else (
    if h.0 == NACK then (nack_at h.1 >>= λ reason. Ok (record s { nack = Some reason })) else
    Ok s))))

abbrev pub take_header : LinkSoFar → Field → Result LinkSoFar PacketFault
take_header s h = if is_refused_header s h then Err LpField else with_header s h

-- the packet in a Fragment, or the fault of the Fragment; if the link packet has a Nack, this
-- packet must be an Interest
abbrev pub fragment_at : Option ℕ → List ℕ → Result PlainFrame PacketFault
fragment_at None text = only_element text >>= packet_of text
fragment_at (Some reason) text = only_element text >>= nacked_of reason text

-- the content `framed` of a link packet, or a fault if an element follows the Fragment: `Tlv` if
-- this element cannot be read, otherwise `LpField`
abbrev pub last_of : PlainFramed → List (Result Field TlvFault) → Result PlainFramed PacketFault
last_of framed [] = Ok framed
last_of framed (Err f ∷ elements) = Err (Tlv f)
last_of framed (Ok e ∷ elements) = Err LpField

-- the content of a link packet without a Fragment; if the link packet has a Nack, the fault is
-- `BadField`
abbrev pub no_fragment : Option (List ℕ) → Option ℕ → Result PlainFramed PacketFault
no_fragment token None = Ok (framed_with token Idle)
no_fragment token (Some reason) = Err BadField

-- The content of a link packet, or the first fault of the link packet. `s` is the state after the
-- header fields that have been read. The list argument has the elements that have not been read
-- yet.
abbrev pub link_from : LinkSoFar → List (Result Field TlvFault) → Result PlainFramed PacketFault
link_from s [] = no_fragment s.token s.nack
link_from s (Err f ∷ elements) = Err (Tlv f)
link_from s (Ok e ∷ elements) =
    if e.0 == FRAGMENT
    then (fragment_at s.nack e.1 >>= λ frame. last_of (framed_with s.token frame) elements)
    else (take_header s e >>= λ t. link_from t elements)

unfoldable pub link_at : List ℕ → Result PlainFramed PacketFault
link_at value = link_from no_headers_yet (elements_of value)

-- ---- frames

-- the frame in the octets `text`, or the first fault of these octets; `text` is exactly the element
-- `outer`
abbrev pub outer_of : List ℕ → Field → Result PlainFramed PacketFault
outer_of text outer =
    if outer.0 == LINK_PACKET then link_at outer.1
    else (packet_of text outer >>= λ frame. Ok (framed_with None frame))

-- the frame in a text, with its PIT token, or the first fault; more than 9,000 octets have the
-- fault `TooLong`
unfoldable pub framed_at : List ℕ → Result PlainFramed PacketFault
framed_at text =
    if nat_lt 9000 (length text) then Err TooLong else (only_element text >>= outer_of text)

-- the frame in a text, without its PIT token, or the first fault
unfoldable pub frame_at : List ℕ → Result PlainFrame PacketFault
frame_at text = framed_at text >>= λ framed. Ok framed.frame

-- the PIT token of a frame, or `None` if the frame has no token or the text is not a frame
unfoldable pub token_at : List ℕ → Option (List ℕ)
token_at text = on_result (λ framed. framed.token) (λ _. None) (framed_at text)
