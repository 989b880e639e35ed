-- What a cutter answers, and what it holds.
use Rattle.std.specs.Prelude.{◌≡◌, ◌⊎◌, ℕ, zero, suc, ◌+◌, ◌<◌, ◌≤◌, List, [], ◌∷◌, ◌++◌, length, take, drop, Bool, Option, None, Some, Result, Ok, Err, IfOk, if◌then◌else◌}
use Rattle.ndn_streams.specs.declared.fault.StreamFault.{StreamFault}
use Rattle.ndn_streams.specs.declared.size.TheConstants.{MAX_FRAME}
use Rattle.ndn_streams.specs.Packet.{IsPacket, IsBeginning, FaultOf}
use Rattle.ndn_streams.specs.Reading.{Size, front_of}
use Rattle.ndn_streams.specs.Stream.{Left, Cut, with_packet}

-- a packet and the octets after it; `None` if more octets are needed; or a fault
abbrev pub Answer : Type 0
Answer = Result (Option (List ℕ × List ℕ)) StreamFault

abbrev pub answer_at : List ℕ → Size → Answer
answer_at octets (Err fault) = Err fault
answer_at octets (Ok None) = Ok None
answer_at octets (Ok (Some size)) = Ok (Some (take size octets, drop size octets))

-- the answer to a call with these octets
abbrev pub answer : Left → List ℕ → Answer
answer (Err fault) octets = Err fault
answer (Ok held) octets = answer_at (held ++ octets) (front_of (held ++ octets))

abbrev pub left_after : List ℕ → Size → Left
left_after octets (Err fault) = Err fault
left_after octets (Ok None) = Ok octets
left_after octets (Ok (Some size)) = Ok []

-- what a cutter holds after a call with these octets
abbrev pub after_next : Left → List ℕ → Left
after_next (Err fault) octets = Err fault
after_next (Ok held) octets = left_after (held ++ octets) (front_of (held ++ octets))

-- What an answer says of the octets that were held and those that have come: they are the packet
-- and the octets after it, of which fewer are left than have come; they are a beginning of a
-- packet; or they have the fault. A fault that was told before is told again.
abbrev pub Gives : Left → List ℕ → Answer → Type 0
Gives left octets (Ok (Some found)) =
    (held : List ℕ) × (left ≡ Ok held) × IsPacket found.0 × (held ++ octets ≡ found.0 ++ found.1)
    × (length found.1 < length octets)
Gives left octets (Ok None) = (held : List ℕ) × (left ≡ Ok held) × IsBeginning (held ++ octets)
Gives left octets (Err fault) =
    (left ≡ Err fault) ⊎ ((held : List ℕ) × (left ≡ Ok held) × FaultOf (held ++ octets) fault)

-- ---- all calls

abbrev pub taken_at : (Left → List ℕ → Cut) → Left → Answer → Cut
taken_at more left (Ok (Some found)) = with_packet found.0 (more left found.1)
taken_at more left (Ok None) = ([], left)
taken_at more left (Err fault) = ([], left)

-- the packets of at most `n` calls, each with the octets that the one before left over, and what is
-- held then
unfoldable pub taken_within : ℕ → Left → List ℕ → Cut
taken_within zero left octets = ([], left)
taken_within (suc n) left octets =
    taken_at (taken_within n) (after_next left octets) (answer left octets)

-- the same for as many calls as give a packet, and one more
abbrev pub taken : Left → List ℕ → Cut
taken left octets = taken_within (length octets + 1) left octets

abbrev pub with_packets : List (List ℕ) → Cut → Cut
with_packets packets cut = (packets ++ cut.0, cut.1)

-- the same for the pieces of a stream, one after another
abbrev pub taken_all : Left → List (List ℕ) → Cut
taken_all left [] = ([], left)
taken_all left (piece ∷ pieces) =
    with_packets (taken left piece).0 (taken_all (taken left piece).1 pieces)

-- ---- the fields of a cutter

-- what a cutter holds: the octets that have come since the last packet, or the fault
abbrev pub seen : Option StreamFault → Bool → List ℕ → Left
seen (Some fault) given octets = Err fault
seen None given octets = Ok (if given then [] else octets)

-- the octets that are held have no whole packet at their front, and no fault
abbrev pub IsHeld : Left → Type 0
IsHeld left = IfOk left (λ octets. front_of octets ≡ Ok None)

-- what the front of the octets is
abbrev pub FrontOf : List ℕ → Size → Type 0
FrontOf octets (Err fault) = FaultOf octets fault
FrontOf octets (Ok None) = IsBeginning octets × (length octets < MAX_FRAME)
FrontOf octets (Ok (Some size)) =
    IsPacket (take size octets) × (2 ≤ size) × (size ≤ MAX_FRAME) × (size ≤ length octets)
