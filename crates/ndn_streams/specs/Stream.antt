-- Streams of packets (NDN Packet Format 0.3, "Type-Length-Value (TLV) Encoding": a packet is an
-- element, and a stream is its packets, one after another).
use Rattle.std.specs.Prelude.{◌≡◌, ℕ, zero, suc, List, [], ◌∷◌, ◌++◌, length, take, drop, None, Some, Result, Ok, Err}
use Rattle.std.specs.List.{flat_map, AllByRecursion}
use Rattle.ndn_streams.specs.declared.fault.StreamFault.{StreamFault}
use Rattle.ndn_streams.specs.Packet.{IsPacket, IsBeginning, FaultOf}
use Rattle.ndn_streams.specs.Reading.{Size, front_of}

-- the pieces, one after another
abbrev pub joined : List (List ℕ) → List ℕ
joined pieces = flat_map (λ piece. piece) pieces

-- the octets are the packets, one after another, and then a beginning of a packet
abbrev pub IsStreamOf : List ℕ → List (List ℕ) → List ℕ → Type 0
IsStreamOf octets packets rest =
    AllByRecursion IsPacket packets × (octets ≡ joined packets ++ rest) × IsBeginning rest

-- the octets are the packets, one after another, and then octets with the fault
abbrev pub IsBrokenStreamOf : List ℕ → List (List ℕ) → StreamFault → Type 0
IsBrokenStreamOf octets packets fault =
    (rest : List ℕ) × AllByRecursion IsPacket packets × (octets ≡ joined packets ++ rest)
    × FaultOf rest fault

-- what is left of a stream: octets that wait for more, or a fault
abbrev pub Left : Type 0
Left = Result (List ℕ) StreamFault

-- the packets of a stream, and what is left
abbrev pub Cut : Type 0
Cut = List (List ℕ) × Left

abbrev pub with_packet : List ℕ → Cut → Cut
with_packet packet cut = (packet ∷ cut.0, cut.1)

abbrev pub cut_by : (List ℕ → Cut) → List ℕ → Size → Cut
cut_by after octets (Err fault) = ([], Err fault)
cut_by after octets (Ok None) = ([], Ok octets)
cut_by after octets (Ok (Some size)) = with_packet (take size octets) (after (drop size octets))

-- the packets of a stream, and what is left; after `n` packets, no more are cut
unfoldable pub cut_within : ℕ → List ℕ → Cut
cut_within zero octets = ([], Ok octets)
cut_within (suc n) octets = cut_by (cut_within n) octets (front_of octets)

-- the packets of a stream, and what is left: the octets after the last packet, or the first fault
unfoldable pub cut_of : List ℕ → Cut
cut_of octets = cut_within (length octets) octets

-- what is left says what comes after the packets
abbrev pub IsCutOf : List ℕ → List (List ℕ) → Left → Type 0
IsCutOf octets packets (Ok rest) = IsStreamOf octets packets rest
IsCutOf octets packets (Err fault) = IsBrokenStreamOf octets packets fault
