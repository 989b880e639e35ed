-- A file that is being fetched.
use Rattle.std.specs.Prelude.{◌≡◌, ◌⊎◌, ℕ, ◌+◌, ◌≤◌, List, [], ◌∷◌, ◌++◌, length, None, Ok, Result}
use Rattle.key_files.specs.KeyFile.{NamedKey}
use Rattle.ndn_tlv.specs.Element.{Field}
use Rattle.ndn_names.specs.Name.{IsPrefix}
use Rattle.ndn_packets.specs.FrameReading.{frame_at}
use Rattle.ndn_packets.specs.Packet.{PlainData, AData}
use Rattle.ndn_requests.specs.Exchange.{IsForged}
use Rattle.ndn_segments.specs.declared.assembler.Taken.{Taken}
use Rattle.ndn_segments.specs.declared.fault.SegmentFault.{SegmentFault}
use Rattle.ndn_segments.specs.Assembling.{Assembly, IsTaken}

-- the name is `stem` and one further component, which is a segment component
abbrev pub IsSegmentUnder : List Field → List Field → Type 0
IsSegmentUnder stem name =
    (segment : Field) × (segment.0 ≡ 50) × (name ≡ stem ++ segment ∷ [])

-- `stem` is the name of the file to which a Data with the name `found` belongs. The name `asked` is
-- `stem`, or `stem` without its last component, which is then the version.
pub record IsStemOf (asked found stem : List Field) : Type 0 where
  pub segment : IsSegmentUnder stem found
  pub under : IsPrefix asked stem
  pub near : length stem ≤ length asked + 1

-- neither the assembler nor the text changes
abbrev pub StaysAsItIs : Assembly → Assembly → List ℕ → List ℕ → Type 0
StaysAsItIs old new before text = (new ≡ old) × (text ≡ before)

-- the assembler takes the Data, and appends to the text what `IsTaken` says, or nothing changes
abbrev pub IsTakenIn : Assembly → Assembly → List ℕ → PlainData → List ℕ → List ℕ → Type 0
IsTakenIn old new whole d before text =
    StaysAsItIs old new before text
    ⊎ ((answer : Result Taken SegmentFault) × IsTaken old new whole d before text answer)

-- Either nothing changes. Or the datagram brings a Data whose signature is not wrong, as far as it
-- is checked, and the assembler takes this Data.
abbrev pub IsStep : Assembly → Assembly → List NamedKey → List ℕ → List ℕ → List ℕ → Type 0
IsStep old new book datagram before text =
    StaysAsItIs old new before text
    ⊎ ((whole : List ℕ) × (d : PlainData) × (frame_at datagram ≡ Ok (AData whole d))
    × IsForged book (frame_at datagram) None × IsTakenIn old new whole d before text)
