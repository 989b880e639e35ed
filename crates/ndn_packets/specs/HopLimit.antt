-- The position of the HopLimit in an Interest (NDN Packet Format 0.3, "Interest Packet",
-- "HopLimit").
use Rattle.std.specs.Prelude.{◌≡◌, ℕ, ◌+◌, ◌-◌, List, length, Option, None, Some, Result, Ok, Err, is_some, slice_set, ◌==◌, ◌&&◌, if◌then◌else◌}
use Rattle.std.specs.Borrow.{LendsIf, MutBor, Fml, Array, u8}
use Rattle.ndn_tlv.specs.Reading.{on_result, element_at}
use Rattle.ndn_packets.specs.declared.fault.PacketFault.{PacketFault}
use Rattle.ndn_packets.specs.Packet.{PlainInterest, PlainFrame, AnInterest, AData, ANack, Idle}
use Rattle.ndn_packets.specs.Grammar.{IsInterest}
use Rattle.ndn_packets.specs.Covered.{from_first}
use Rattle.ndn_packets.specs.FrameReading.{frame_at}
use Rattle.ndn_packets.specs.declared.types.TheConstants.{HOP_LIMIT}

-- the text is an Interest that has this HopLimit
abbrev pub HasHopLimit : List ℕ → ℕ → Type 0
HasHopLimit text limit = (i : PlainInterest) × IsInterest text i × (i.hop_limit ≡ Some limit)

-- The index of the HopLimit's octet in the Interest `text`. The octets `from` are the octets of
-- `text` from the start of the HopLimit element to the end. The HopLimit's octet is the third octet
-- of this element, after the type and the length. If there is no HopLimit, the result is the length
-- of `text`.
abbrev pub place_from : List ℕ → Option (List ℕ) → ℕ
place_from text None = length text
place_from text (Some from) = (length text - length from) + 2

abbrev pub place_in : List ℕ → Result PlainFrame PacketFault → ℕ
place_in text (Ok (AnInterest whole i)) =
    if (length whole == length text) && is_some i.hop_limit
    then place_from text
    (on_result (λ outer. from_first HOP_LIMIT outer.0.1) (λ _. None) (element_at text))
    else length text
place_in text (Ok (AData whole d)) = length text
place_in text (Ok (ANack reason whole i)) = length text
place_in text (Ok Idle) = length text
place_in text (Err fault) = length text

abbrev pub hop_place : List ℕ → ℕ
hop_place text = place_in text (frame_at text)

-- the text with `octet` in place of the HopLimit's octet
abbrev pub with_octet : List ℕ → ℕ → List ℕ
with_octet text octet = slice_set text (hop_place text) octet

-- `limit` is a mutable borrow of the HopLimit's octet, if there is a HopLimit. After the borrow,
-- the HopLimit's octet has the value that the borrower left, and all other octets are unchanged.
abbrev pub LendsHopLimit : MutBor (List ℕ) → Option (MutBor ℕ) → Fml
LendsHopLimit octets limit = LendsIf (Array u8 0) u8 octets limit (with_octet octets.now) octets.now

abbrev pub with_limit : PlainInterest → ℕ → PlainInterest
with_limit i limit = record i { hop_limit = Some limit }
