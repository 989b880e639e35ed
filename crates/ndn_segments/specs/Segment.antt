-- Which Data are segments of a file, and why other Data are not.
use Rattle.std.specs.Prelude.{◌≡◌, ◌≢◌, ℕ, ◌-◌, ◌<◌, ◌^◌, List, [], ◌∷◌, ◌++◌, Some, unwrap_or}
use Rattle.ndn_tlv.specs.Number.{shortest_nni}
use Rattle.ndn_tlv.specs.Element.{Field}
use Rattle.ndn_packets.specs.Packet.{PlainData}
use Rattle.ndn_segments.specs.declared.fault.SegmentFault.{SegmentFault}
use Rattle.ndn_segments.specs.declared.fault.SegmentFault.TheVariants as fault
use Rattle.ndn_segments.specs.declared.segment.Segment.{Segment}
use Rattle.ndn_segments.specs.Names.{segment_name, final_value}

-- a segment as plain data: its number, the number of the last segment, and the octets of its piece
pub record PlainSegment : Type 0 where
  pub number : ℕ
  pub last : ℕ
  pub content : List ℕ

abbrev pub plain_segment : Segment → PlainSegment
plain_segment s = record { number = s.number; last = s.last; content = s.content.now }

-- The Data with the received octets `whole` is the segment `s` of the file whose name, including
-- the version, is `stem`. A Data without a Content is a segment with an empty piece.
pub record IsSegmentOf (stem : List Field) (whole : List ℕ) (d : PlainData)
    (s : PlainSegment) : Type 0 where
  pub name : d.name ≡ segment_name stem s.number
  pub last : final_value whole ≡ Some (shortest_nni s.last)
  pub content : s.content ≡ unwrap_or d.content []
  pub number_fits : s.number < 2 ^ 64
  pub last_fits : s.last < 2 ^ 64 - 1

-- why a name is not the name of a segment of this file
abbrev pub IsNoName : List Field → List Field → SegmentFault → Type 0
-- the name is not the file's name and version with one further component
IsNoName stem name fault.OtherFile = (c : Field) → name ≢ stem ++ c ∷ []
-- the further component is not a SegmentNameComponent with a number in its shortest encoding
IsNoName stem name fault.NoSegmentNumber =
    ((c : Field) × (name ≡ stem ++ c ∷ []))
    × ((n : ℕ) → n < 2 ^ 64 → name ≢ segment_name stem n)
IsNoName stem name fault.NoFinalBlockId = ⊥
IsNoName stem name fault.OtherFinalBlockId = ⊥
IsNoName stem name fault.AboveLast = ⊥
IsNoName stem name fault.ContentTooLong = ⊥
IsNoName stem name fault.BeyondWindow = ⊥
IsNoName stem name fault.OtherContent = ⊥
IsNoName stem name fault.Memory = ⊥

-- why a Data is not a segment of this file; the FinalBlockId is examined if the name is that of a
-- segment
abbrev pub IsNoSegment : List Field → List ℕ → PlainData → SegmentFault → Type 0
IsNoSegment stem whole d fault.OtherFile = IsNoName stem d.name fault.OtherFile
IsNoSegment stem whole d fault.NoSegmentNumber = IsNoName stem d.name fault.NoSegmentNumber
-- the FinalBlockId is not a SegmentNameComponent with a number below 2^64 - 1 in its shortest
-- encoding
IsNoSegment stem whole d fault.NoFinalBlockId =
    ((n : ℕ) × (d.name ≡ segment_name stem n))
    × ((n : ℕ) → n < 2 ^ 64 - 1 → final_value whole ≢ Some (shortest_nni n))
IsNoSegment stem whole d fault.OtherFinalBlockId = ⊥
IsNoSegment stem whole d fault.AboveLast = ⊥
IsNoSegment stem whole d fault.ContentTooLong = ⊥
IsNoSegment stem whole d fault.BeyondWindow = ⊥
IsNoSegment stem whole d fault.OtherContent = ⊥
IsNoSegment stem whole d fault.Memory = ⊥
