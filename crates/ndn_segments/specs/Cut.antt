-- The Data that the pieces of a file are written as (NDN Packet Format 0.3, "Data Packet").
use Rattle.std.specs.Prelude.{◌≢◌, ℕ, ◌<◌, ◌⊎◌, List, [], Some, Option, unwrap_or, length, replicate, min, ◌≤◌, ◌*◌, ◌-◌, ⊤}
use Rattle.ndn_tlv.specs.Element.{Field}
use Rattle.std.specs.Borrow.{Bor}
use Rattle.ndn_names.specs.declared.name.Name.{Name}
use Rattle.ndn_names.specs.View.{components}
use Rattle.ndn_packets.specs.declared.data_writer.DataWriter.{DataWriter}
use Rattle.ndn_packets.specs.declared.signature.Sign.{Sign}
use Rattle.ndn_packets.specs.Writing.{signed_data, meta_of, meta_fields, plain_data_of, data_fields}
use Rattle.ndn_packets.specs.Packet.{PlainData, AData}
use Rattle.ndn_packets.specs.Grammar.{IsData}
use Rattle.ndn_packets.specs.Covered.{Covered}
use Rattle.ndn_tlv.specs.Writing.{octets}
use Rattle.ndn_segments.specs.Segment.{IsSegmentOf}
use Rattle.ndn_segments.specs.declared.cutter.Cutter.{Cutter}
use Rattle.ndn_segments.specs.declared.cutter.CutFault.{CutFault}
use Rattle.ndn_segments.specs.declared.cutter.CutFault.TheVariants as fault
use Rattle.ndn_segments.specs.Names.{version_name, segment_name}
use Rattle.ndn_segments.specs.Pieces.{last_piece}

-- how a file is cut: its name, its version, its length and the length of its pieces in octets, the
-- FreshnessPeriod, and how each Data is signed
pub record Plan : Type 0 where
  pub name : List Field
  pub version : ℕ
  pub len : ℕ
  pub size : ℕ
  pub freshness : Option ℕ
  pub sign : Sign

abbrev pub plan_of : Cutter → Plan
plan_of c = record {
  name = components c.name;
  version = c.version;
  len = c.len;
  size = c.size;
  freshness = c.freshness;
  sign = c.sign;
}

-- the name of the segment with this number
abbrev pub name_at : Plan → ℕ → List Field
name_at p number = segment_name (version_name p.name p.version) number

abbrev pub last_of : Plan → ℕ
last_of p = last_piece p.size p.len

-- the number of octets in the piece with this number
abbrev pub piece_len : Plan → ℕ → ℕ
piece_len p number = min p.size (p.len - number * p.size)

abbrev pub meta_at : Plan → Option (List ℕ)
meta_at p = meta_of (meta_fields p.freshness (Some (last_of p)))

-- the Data of the segment with this number and this piece
abbrev pub segment_text : Plan → ℕ → List ℕ → List ℕ
segment_text p number piece = signed_data p.sign (name_at p number) (meta_at p) (Some piece)

-- the fields of this Data
abbrev pub segment_data : Plan → ℕ → List ℕ → PlainData
segment_data p number piece =
    plain_data_of p.sign (name_at p number) (unwrap_or p.freshness 0) (meta_at p) (Some piece)

-- The Data of the segment with this number and this piece is in the grammar, its signature covers
-- the octets that the packet format defines, and it is read as this segment.
pub record IsSegment (p : Plan) (number : ℕ) (piece : List ℕ) : Type 0 where
  pub grammar : IsData (segment_text p number piece) (segment_data p number piece)
  pub signed : Covered (AData (segment_text p number piece) (segment_data p number piece))
      (octets (data_fields p.sign (name_at p number) (meta_at p) (Some piece))) []
  pub segment : IsSegmentOf (version_name p.name p.version) (segment_text p number piece)
      (segment_data p number piece)
      (record { number = number; last = last_of p; content = piece })

-- the writer of a segment with this name and this piece
abbrev pub writer_for : Plan → Name → Bor (List ℕ) → DataWriter
writer_for p name piece = record {
  name = name;
  freshness = p.freshness;
  last = Some (last_of p);
  content = Some piece;
  sign = p.sign;
}

-- the name of the segment has at most 64 components, and the Data at most 8,800 octets
abbrev pub IsShort : Plan → ℕ → List ℕ → Type 0
IsShort p number piece =
    (length p.name ≤ 62) × (length (segment_text p number piece) ≤ 8800)

-- Each segment is short enough if the longest one is: the last number with the longest piece. The
-- octets of the piece do not matter.
abbrev pub Fits : Plan → Type 0
Fits p = IsShort p (last_of p) (replicate (piece_len p 0) 0)

-- why a segment with any number and any piece is not written
abbrev pub IsNotPut : Plan → ℕ → List ℕ → CutFault → Type 0
IsNotPut p number piece fault.TooLong = ¬ IsShort p number piece
IsNotPut p number piece fault.NoSuchPiece = ⊥
IsNotPut p number piece fault.EmptyPieces = ⊥
IsNotPut p number piece fault.Memory = ⊤

-- why a segment is not written
abbrev pub IsNotWritten : Plan → ℕ → List ℕ → CutFault → Type 0
-- the file has no piece with this number and this length
IsNotWritten p number piece fault.NoSuchPiece =
    (last_of p < number) ⊎ (length piece ≢ piece_len p number)
-- the segment is too long, and so the longest one is
IsNotWritten p number piece fault.TooLong = (¬ IsShort p number piece) × (¬ Fits p)
IsNotWritten p number piece fault.EmptyPieces = ⊥
IsNotWritten p number piece fault.Memory = ⊤
