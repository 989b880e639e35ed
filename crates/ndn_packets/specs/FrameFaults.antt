-- The first fault of a frame. The definitions use the elements of the frame, but not `framed_at`
-- (NDNLPv2, "Packet Format", "Fragmentation", "Network Nack", "PIT Token").
use Rattle.std.specs.Prelude.{◌≡◌, ◌≢◌, ◌⊎◌, ℕ, ◌<◌, ◌≤◌, List, [], ◌∷◌, ◌++◌, length, map, Option, None, Some, IsSome, Result, Ok, Err, IsErr, false}
use Rattle.std.specs.List.{AllByRecursion}
use Rattle.ndn_tlv.specs.declared.fault.TlvFault.{TlvFault}
use Rattle.ndn_tlv.specs.Element.{Field}
use Rattle.ndn_tlv.specs.Reading.{element_at, elements_of, nni_at}
use Rattle.ndn_packets.specs.declared.fault.PacketFault.{PacketFault}
use Rattle.ndn_packets.specs.declared.fault.PacketFault.TheVariants.{Tlv, BadField, Fragmented, LpField, TooLong}
use Rattle.ndn_packets.specs.Fields.{is_even_high}
use Rattle.ndn_packets.specs.Link.{known_headers, is_ignored_header, nack_schema, IsHeader, headers_of, IsNackOf}
use Rattle.ndn_packets.specs.FirstFault.{FirstFault}
use Rattle.ndn_packets.specs.PacketFaults.{InterestFault, DataFault}
use Rattle.ndn_packets.specs.FrameReading.{take_nack_field}
use Rattle.ndn_packets.specs.declared.types.TheConstants.{DATA, FRAGMENT, FRAG_COUNT, FRAG_INDEX, INTEREST, LINK_PACKET, NACK, PIT_TOKEN, SEQUENCE}

-- ---- packets

-- The octets `text` are not exactly one element. If the first element cannot be read, `fault` is
-- the fault of this element. If octets follow the first element, `fault` is `BadField`.
abbrev pub OuterFault : List ℕ → PacketFault → Type 0
OuterFault text fault =
    ((unreadable : TlvFault) × (element_at text ≡ Err unreadable) × (fault ≡ Tlv unreadable))
    ⊎ ((e : Field) × (rest : List ℕ) × (element_at text ≡ Ok (e, rest)) × (rest ≢ [])
    × (fault ≡ BadField))

-- the octets are exactly the element `e`
abbrev pub IsAlone : List ℕ → Field → Type 0
IsAlone text e = element_at text ≡ Ok (e, [])

-- The fault of a packet. If the packet has more than 8,800 octets, the fault is `TooLong`. If the
-- packet has at most 8,800 octets, the argument `Otherwise` is the statement that describes the
-- fault.
abbrev pub LongOr : List ℕ → PacketFault → Type 0 → Type 0
LongOr text fault Otherwise =
    ((8800 < length text) × (fault ≡ TooLong)) ⊎ ((length text ≤ 8800) × Otherwise)

abbrev pub NoInterest : List ℕ → Field → PacketFault → Type 0
NoInterest text e fault = LongOr text fault (InterestFault (elements_of e.1) fault)

abbrev pub NoData : List ℕ → Field → PacketFault → Type 0
NoData text e fault = LongOr text fault (DataFault (elements_of e.1) fault)

-- The octets `text` are exactly the element `e`, and `fault` is the reason why these octets are not
-- a valid packet. If `e` is neither an Interest nor a Data, the fault is `BadField`.
abbrev pub NoPacket : List ℕ → Field → PacketFault → Type 0
NoPacket text e fault =
    ((e.0 ≡ INTEREST) × NoInterest text e fault)
    ⊎ (((e.0 ≡ DATA) × NoData text e fault)
    ⊎ ((e.0 ≢ INTEREST) × (e.0 ≢ DATA) × (fault ≡ BadField)))

-- ---- link packets

-- The value `text` of a Fragment is exactly the element `e`, and `fault` is the reason why this
-- Fragment is not valid. In a link packet with a Nack, an element other than an Interest has the
-- fault `BadField`.
abbrev pub NoneInside : Option ℕ → List ℕ → Field → PacketFault → Type 0
NoneInside None text e fault = NoPacket text e fault
NoneInside (Some reason) text e fault =
    ((e.0 ≡ INTEREST) × NoInterest text e fault) ⊎ ((e.0 ≢ INTEREST) × (fault ≡ BadField))

abbrev pub FragmentFault : Option ℕ → List ℕ → PacketFault → Type 0
FragmentFault nack text fault =
    OuterFault text fault ⊎ ((e : Field) × IsAlone text e × NoneInside nack text e fault)

abbrev pub IsKnown : ℕ → Type 0
IsKnown kind =
    (kind ≡ SEQUENCE)
    ⊎ ((kind ≡ FRAG_INDEX) ⊎ ((kind ≡ FRAG_COUNT) ⊎ ((kind ≡ PIT_TOKEN) ⊎ (kind ≡ NACK))))

-- The header field `h` may not come after the header fields `before`. One reason is that `h` is a
-- known field and `before` has a field of its type. Other reasons are that `h` is a PitToken that
-- does not have 1 to 32 octets, or an unknown field that is not ignored.
abbrev pub IsRefused : List Field → Field → Type 0
IsRefused before h =
    (IsKnown h.0 × (headers_of h.0 before ≢ []))
    ⊎ (((h.0 ≡ PIT_TOKEN) × ((length h.1 < 1) ⊎ (32 < length h.1)))
    ⊎ ((IsKnown h.0 → ⊥) × (is_ignored_header h.0 ≡ false)))

-- the value is not a number and the fault is `BadField`, or the value is a number above `limit` and
-- the fault is `Fragmented`
abbrev pub IsAbove : ℕ → List ℕ → PacketFault → Type 0
IsAbove limit value fault =
    (IsErr (nni_at value) × (fault ≡ BadField))
    ⊎ ((n : ℕ) × (nni_at value ≡ Ok n) × (limit < n) × (fault ≡ Fragmented))

abbrev pub HeaderValueFault : Field → PacketFault → Type 0
HeaderValueFault h fault =
    ((h.0 ≡ FRAG_INDEX) × IsAbove 0 h.1 fault)
    ⊎ (((h.0 ≡ FRAG_COUNT) × IsAbove 1 h.1 fault)
    ⊎ ((h.0 ≡ NACK)
    × FirstFault take_nack_field is_even_high nack_schema 0 (elements_of h.1) fault))

-- The fault of the header field `h`, which comes after the header fields `before`. The fault is
-- `LpField` if `h` is not allowed. Otherwise, the fault is a fault in the value of `h`.
abbrev pub HeaderFault : List Field → Field → PacketFault → Type 0
HeaderFault before h fault =
    (IsRefused before h × (fault ≡ LpField))
    ⊎ ((IsRefused before h → ⊥) × HeaderValueFault h fault)

-- The fault of the elements after a Fragment. No element may come after a Fragment. The fault is
-- `Tlv` if the first element after the Fragment cannot be read, otherwise `LpField`. If no element
-- comes after the Fragment, there is no fault.
abbrev pub FollowerFault : List (Result Field TlvFault) → PacketFault → Type 0
FollowerFault [] fault = ⊥
FollowerFault (Err unreadable ∷ after) fault = fault ≡ Tlv unreadable
FollowerFault (Ok e ∷ after) fault = fault ≡ LpField

-- The fault of the elements after valid header fields. `nack` is the reason of the Nack among the
-- header fields, if there is a Nack. A Nack without a Fragment has the fault `BadField`. A fault
-- inside a Fragment is reported before a fault after the Fragment.
abbrev pub AfterHeaders : List Field → Option ℕ → List (Result Field TlvFault) → PacketFault
    → Type 0
AfterHeaders headers nack [] fault = IsSome nack × (fault ≡ BadField)
AfterHeaders headers nack (Err unreadable ∷ after) fault = fault ≡ Tlv unreadable
AfterHeaders headers nack (Ok e ∷ after) fault =
    ((e.0 ≢ FRAGMENT) × HeaderFault headers e fault)
    ⊎ ((e.0 ≡ FRAGMENT)
    × (FragmentFault nack e.1 fault
    ⊎ (((other : PacketFault) → FragmentFault nack e.1 other → ⊥) × FollowerFault after fault)))

-- The first fault of a link packet, defined by the elements of its value.
pub record LinkFault (elements : List (Result Field TlvFault)) (fault : PacketFault) : Type 0 where
  pub headers : List Field
  pub nack : Option ℕ
  pub rest : List (Result Field TlvFault)
  pub elements_are : elements ≡ map (λ h. Ok h) headers ++ rest
  pub allowed : AllByRecursion IsHeader headers
  pub once : AllByRecursion (λ kind. length (headers_of kind headers) ≤ 1) known_headers
  pub nacked : IsNackOf headers nack
  pub faulty : AfterHeaders headers nack rest fault

-- ---- frames

-- The first fault of octets that are not a frame.
abbrev pub FaultOf : List ℕ → PacketFault → Type 0
FaultOf text fault =
    ((9000 < length text) × (fault ≡ TooLong))
    ⊎ ((length text ≤ 9000)
    × (OuterFault text fault
    ⊎ ((e : Field) × IsAlone text e
    × (((e.0 ≡ LINK_PACKET) × LinkFault (elements_of e.1) fault)
    ⊎ ((e.0 ≢ LINK_PACKET) × NoPacket text e fault)))))
