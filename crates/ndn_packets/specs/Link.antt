-- Link packets and frames, as complete octet sequences (NDNLPv2, "Packet Format", "Fragmentation",
-- "Network Nack", "PIT Token").
use Rattle.std.specs.Prelude.{◌≡◌, ℕ, ◌<◌, ◌≤◌, ◌⊎◌, ◌%◌, List, [], ◌∷◌, ◌++◌, length, filter, Option, None, Some, Bool, true, nat_lt, nat_le, unwrap_or, slice_index, ◌==◌, ◌&&◌}
use Rattle.std.specs.List.{AllByRecursion}
use Rattle.ndn_tlv.specs.Number.{IsNni}
use Rattle.ndn_tlv.specs.Element.{Field, IsElement, IsElements}
use Rattle.ndn_packets.specs.Packet.{PlainFrame, PlainFramed, AnInterest, AData, ANack, Idle}
use Rattle.ndn_tlv.specs.Writing.{optional}
use Rattle.ndn_packets.specs.Fields.{Fields, is_even_high}
use Rattle.ndn_packets.specs.Grammar.{IsNumber, IsInterest, IsData}
use Rattle.ndn_packets.specs.declared.types.TheConstants.{FRAGMENT, FRAG_COUNT, FRAG_INDEX, LINK_PACKET, NACK, NACK_REASON, PIT_TOKEN, SEQUENCE}

-- the types of the header fields that this crate knows: Sequence, FragIndex, FragCount, PitToken
-- and Nack
abbrev pub known_headers : List ℕ
known_headers = SEQUENCE ∷ FRAG_INDEX ∷ FRAG_COUNT ∷ PIT_TOKEN ∷ NACK ∷ []

-- an unknown header field is ignored if its type is from 801 to 959 and divisible by 4
abbrev pub is_ignored_header : ℕ → Bool
is_ignored_header kind = nat_lt NACK kind && (nat_le kind 959 && (kind % 4 == 0))

abbrev pub nack_schema : List ℕ
nack_schema = NACK_REASON ∷ []

-- Nack = [NackReason]. The reason is 0 if NackReason is absent.
pub record IsNack (text : List ℕ) (reason : ℕ) : Type 0 where
  pub reason_value : Option (List ℕ)
  pub elements : List Field
  pub inner : IsElements text elements
  pub recognised : Fields is_even_high nack_schema elements (optional NACK_REASON reason_value)
  pub number : (n : Option ℕ) × IsNumber reason_value n × (reason ≡ unwrap_or n 0)

-- a PIT token has 1 to 32 octets
abbrev pub IsToken : List ℕ → Type 0
IsToken token = (1 ≤ length token) × (length token ≤ 32)

-- A valid header field. FragIndex must be 0, and FragCount at most 1. A PitToken must have 1 to 32
-- octets. The value of a Nack must satisfy `IsNack`. Any Sequence is valid. A header field of any
-- other type is valid if `is_ignored_header` is true of its type.
abbrev pub IsHeader : Field → Type 0
IsHeader h =
    (h.0 ≡ SEQUENCE)
    ⊎ (((h.0 ≡ FRAG_INDEX) × IsNni h.1 0)
    ⊎ (((h.0 ≡ FRAG_COUNT) × ((n : ℕ) × IsNni h.1 n × (n ≤ 1)))
    ⊎ (((h.0 ≡ PIT_TOKEN) × IsToken h.1)
    ⊎ (((h.0 ≡ NACK) × ((reason : ℕ) × IsNack h.1 reason))
    ⊎ (is_ignored_header h.0 ≡ true)))))

-- the header fields with the type `kind`
abbrev pub headers_of : ℕ → List Field → List Field
headers_of kind headers = filter (λ h. h.0 == kind) headers

-- the optional number is the reason of the Nack among the header fields, or `None` if there is no
-- Nack
abbrev pub IsNackOf : List Field → Option ℕ → Type 0
IsNackOf headers None = headers_of NACK headers ≡ []
IsNackOf headers (Some reason) =
    (value : List ℕ) × (headers_of NACK headers ≡ (NACK, value) ∷ []) × IsNack value reason

-- `token` is the PIT token among the header fields, or `None` if there is no PIT token
abbrev pub IsTokenOf : List Field → Option (List ℕ) → Type 0
IsTokenOf headers token = headers_of PIT_TOKEN headers ≡ optional PIT_TOKEN token

-- An LpPacket has header fields in any order, each known header field at most once, and then at
-- most one Fragment. An LpPacket has at most 9,000 octets.
pub record IsLinkPacket (text : List ℕ) (token : Option (List ℕ)) (nack : Option ℕ)
    (fragment : Option (List ℕ)) : Type 0 where
  pub value : List ℕ
  pub headers : List Field
  pub outer : IsElement text LINK_PACKET value
  pub inner : IsElements value (headers ++ optional FRAGMENT fragment)
  pub allowed : AllByRecursion IsHeader headers
  pub once : AllByRecursion (λ kind. length (headers_of kind headers) ≤ 1) known_headers
  pub tokened : IsTokenOf headers token
  pub nacked : IsNackOf headers nack
  pub short : length text ≤ 9000
  pub octets : (i : ℕ) → slice_index text i < 256

-- The octets `text` are this frame, with the optional PIT token `token`. An Interest or a Data
-- alone is a frame without a token. Every other frame is a link packet. A link packet contains a
-- Data, an Interest, an Interest and a Nack, or neither a Fragment nor a Nack.
abbrev pub IsFrameWith : List ℕ → Option (List ℕ) → PlainFrame → Type 0
IsFrameWith text token (AnInterest whole i) =
    IsInterest whole i
    × (((text ≡ whole) × (token ≡ None)) ⊎ IsLinkPacket text token None (Some whole))
IsFrameWith text token (AData whole d) =
    IsData whole d
    × (((text ≡ whole) × (token ≡ None)) ⊎ IsLinkPacket text token None (Some whole))
IsFrameWith text token (ANack reason whole i) =
    IsInterest whole i × IsLinkPacket text token (Some reason) (Some whole)
IsFrameWith text token Idle = IsLinkPacket text token None None

abbrev pub IsFramed : List ℕ → PlainFramed → Type 0
IsFramed text framed = IsFrameWith text framed.token framed.frame

-- the text is this frame, with any PIT token or without a PIT token
abbrev pub IsFrame : List ℕ → PlainFrame → Type 0
IsFrame text frame = (token : Option (List ℕ)) × IsFrameWith text token frame
