-- Packets in a stream (NDN Packet Format 0.3, "Type-Length-Value (TLV) Encoding", "Interest
-- Packet", "Data Packet"; NDNLPv2, "Packet Format").
use Rattle.std.specs.Prelude.{◌≡◌, ◌≢◌, ◌⊎◌, ℕ, ◌*◌, ◌^◌, ◌<◌, ◌≤◌, List, [], ◌∷◌, ◌++◌, length}
use Rattle.std.specs.Int.{w16, to_be_bytes}
use Rattle.ndn_tlv.specs.Element.{element}
use Rattle.ndn_streams.specs.declared.fault.StreamFault.{StreamFault}
use Rattle.ndn_streams.specs.declared.fault.StreamFault.TheVariants.{UnknownType, NotShortest, TooLong}
use Rattle.ndn_streams.specs.declared.size.TheConstants.{DATA, INTEREST, LINK_PACKET, MAX_FRAME, MAX_LONG}

-- the TLV-TYPE of a packet: an Interest, a Data or an LpPacket
abbrev pub IsPacketType : ℕ → Type 0
IsPacketType kind = (kind ≡ INTEREST) ⊎ ((kind ≡ DATA) ⊎ (kind ≡ LINK_PACKET))

-- the octets are exactly one packet: one element of such a type, type and length each in shortest
-- form, with at most 9,000 octets in all
abbrev pub IsPacket : List ℕ → Type 0
IsPacket octets =
    (kind : ℕ) × (value : List ℕ) × IsPacketType kind × (octets ≡ element (kind, value))
    × (length octets ≤ MAX_FRAME)

-- the octets are the beginning of a packet, and more octets have to come; no octets at all are a
-- beginning too
abbrev pub IsBeginning : List ℕ → Type 0
IsBeginning octets = (more : List ℕ) × (more ≢ []) × IsPacket (octets ++ more)

-- whatever octets come next, the octets do not begin with a packet
abbrev pub BeginsNoPacket : List ℕ → Type 0
BeginsNoPacket octets =
    (more packet rest : List ℕ) → IsPacket packet → octets ++ more ≡ packet ++ rest → ⊥

-- The octets begin with the TLV-TYPE of a packet and a TLV-LENGTH above 8,996, so the packet would
-- have more than 9,000 octets. The octets of the TLV-LENGTH that have come show it: an octet 254 or
-- 255 begins one of at least 65,536, and after an octet 253, the next octet counts 256 times.
abbrev pub IsTooLong : List ℕ → Type 0
IsTooLong octets =
    (kind : ℕ) × (rest : List ℕ) × IsPacketType kind
    × (((first : ℕ) × (253 < first) × (octets ≡ kind ∷ (first ∷ rest)))
    ⊎ (((high : ℕ) × (MAX_LONG < 256 * high) × (octets ≡ kind ∷ (253 ∷ (high ∷ rest))))
    ⊎ ((n : ℕ) × (MAX_LONG < n) × (n < 2 ^ 16)
    × (octets ≡ kind ∷ (253 ∷ (to_be_bytes w16 n ++ rest))))))

-- The fault says what is wrong at the front of the octets: they do not begin with the TLV-TYPE of a
-- packet, they begin with a TLV-LENGTH below 253 that takes three octets, or with one that is too
-- long.
abbrev pub FaultOf : List ℕ → StreamFault → Type 0
FaultOf octets UnknownType =
    (kind : ℕ) × (rest : List ℕ) × (octets ≡ kind ∷ rest) × (IsPacketType kind → ⊥)
FaultOf octets NotShortest =
    (kind n : ℕ) × (rest : List ℕ) × IsPacketType kind × (n < 253)
    × (octets ≡ kind ∷ (253 ∷ (to_be_bytes w16 n ++ rest)))
FaultOf octets TooLong = IsTooLong octets
