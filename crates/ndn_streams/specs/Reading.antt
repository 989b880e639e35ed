-- Reading the size of a packet from its first octets, at most four (NDN Packet Format 0.3,
-- "Type-Length-Value (TLV) Encoding").
use Rattle.std.specs.Prelude.{ℕ, ◌+◌, ◌*◌, List, [], ◌∷◌, length, Option, None, Some, Result, Ok, Err, Bool, ◌||◌, nat_lt, ◌==◌, if◌then◌else◌}
use Rattle.ndn_streams.specs.declared.fault.StreamFault.{StreamFault}
use Rattle.ndn_streams.specs.declared.fault.StreamFault.TheVariants.{UnknownType, NotShortest, TooLong}
use Rattle.ndn_streams.specs.declared.size.TheConstants.{DATA, INTEREST, LINK_PACKET, MAX_LONG}

-- a size in octets, or `None` if more octets are needed to tell it
abbrev pub Size : Type 0
Size = Result (Option ℕ) StreamFault

abbrev pub is_packet_type : ℕ → Bool
is_packet_type kind = kind == INTEREST || kind == DATA || kind == LINK_PACKET

-- the size of a packet whose TLV-LENGTH is `n`, in three octets
abbrev pub size_with : ℕ → Size
size_with n =
    if nat_lt n 253 then Err NotShortest else (
    if nat_lt MAX_LONG n then Err TooLong else Ok (Some (4 + n)))

-- the size, from the octets after an octet 253 where a TLV-LENGTH begins
abbrev pub long_size : List ℕ → Size
long_size [] = Ok None
long_size (high ∷ []) = if nat_lt MAX_LONG (256 * high) then Err TooLong else Ok None
long_size (high ∷ (low ∷ octets)) = size_with (256 * high + low)

-- the size, from the octets after the TLV-TYPE
abbrev pub size_by_length : List ℕ → Size
size_by_length [] = Ok None
size_by_length (first ∷ octets) =
    if nat_lt first 253 then Ok (Some (2 + first)) else (
    if first == 253 then long_size octets else Err TooLong)

-- the size of the packet at the front of the octets, as far as they tell it, or a fault
unfoldable pub size_of : List ℕ → Size
size_of [] = Ok None
size_of (kind ∷ octets) = if is_packet_type kind then size_by_length octets else Err UnknownType

abbrev pub whole_at : List ℕ → Size → Size
whole_at octets (Err fault) = Err fault
whole_at octets (Ok None) = Ok None
whole_at octets (Ok (Some size)) = if nat_lt (length octets) size then Ok None else Ok (Some size)

-- the size of the whole packet at the front of the octets; `None` if octets are missing
unfoldable pub front_of : List ℕ → Size
front_of octets = whole_at octets (size_of octets)
