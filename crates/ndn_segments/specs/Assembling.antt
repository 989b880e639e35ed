-- How an assembler takes segments.
use Rattle.std.specs.Prelude.{◌≡◌, ℕ, ◌+◌, ◌-◌, ◌≤◌, ◌<◌, ◌^◌, ◌⊎◌, List, [], ◌++◌, length, bytes_eq, nat_lt, nat_le, Bool, false, Option, None, Some, IfSome, Result, Ok, Err, ◌==◌, not, if◌then◌else◌}
use Rattle.std.specs.List.{concat}
use Rattle.ndn_tlv.specs.Element.{Field}
use Rattle.ndn_segments.specs.declared.fault.SegmentFault.{SegmentFault}
use Rattle.ndn_segments.specs.declared.fault.SegmentFault.TheVariants as fault
use Rattle.ndn_segments.specs.declared.assembler.Taken.{Taken}
use Rattle.ndn_segments.specs.declared.assembler.Taken.TheVariants.{Accepted, Repeated}
use Rattle.ndn_packets.specs.Packet.{PlainData}
use Rattle.ndn_segments.specs.Segment.{PlainSegment, IsSegmentOf, IsNoSegment}
use Rattle.ndn_segments.specs.Held.{Places, content_at, placed, in_order, from_gap}

-- an assembler as plain data
pub record Assembly : Type 0 where
  -- the name of the file, including the version
  pub stem : List Field
  -- the greatest number of octets of a segment's content
  pub limit : ℕ
  -- the number of segments that can be held: those from `next` on
  pub window : ℕ
  -- the number of the last segment, once a segment has been accepted
  pub last : Option ℕ
  -- the number of the first segment that has not been written
  pub next : ℕ
  -- the contents from segment `next` on that have been accepted
  pub held : Places

-- an assembler that has accepted nothing
abbrev pub start : List Field → ℕ → ℕ → Assembly
start stem limit window = record {
  stem = stem;
  limit = limit;
  window = window;
  last = None;
  next = 0;
  held = [];
}

-- whether a known number of the last segment differs from this number
abbrev pub is_other : Option ℕ → ℕ → Bool
is_other None last = false
is_other (Some known) last = not (known == last)

-- the answer to a segment within the window, given what is held at its place
abbrev pub answer_at : Option (List ℕ) → List ℕ → Result Taken SegmentFault
answer_at None content = Ok Accepted
answer_at (Some held) content =
    if bytes_eq held content then Ok Repeated else Err fault.OtherContent

-- The answer to a segment: the first fault that applies, in the order of this definition. A segment
-- that has been written is not held any more, so its content is not compared.
abbrev pub answer_to : Assembly → PlainSegment → Result Taken SegmentFault
answer_to a s =
    if is_other a.last s.last then Err fault.OtherFinalBlockId else (
    if nat_lt s.last s.number then Err fault.AboveLast else (
    if nat_lt a.limit (length s.content) then Err fault.ContentTooLong else (
    if nat_lt s.number a.next then Ok Repeated else (
    if nat_le a.window (s.number - a.next) then Err fault.BeyondWindow else
    answer_at (content_at a.held (s.number - a.next)) s.content))))

-- what is held when a segment has been accepted, before anything is written
abbrev pub places_with : Assembly → PlainSegment → Places
places_with a s = placed a.held (s.number - a.next) s.content

-- the assembler after it has accepted a segment, and has written all contents before the first gap
abbrev pub accepting : Assembly → PlainSegment → Assembly
accepting a s = record {
  stem = a.stem;
  limit = a.limit;
  window = a.window;
  last = Some s.last;
  next = a.next + length (in_order (places_with a s));
  held = from_gap (places_with a s);
}

-- the assembler after an answer to a segment; only an accepted segment changes it
abbrev pub after_answer : Result Taken SegmentFault → Assembly → PlainSegment → Assembly
after_answer (Ok Accepted) a s = accepting a s
after_answer (Ok Repeated) a s = a
after_answer (Err why) a s = a

-- the octets that are written with an answer to a segment
abbrev pub octets_with : Result Taken SegmentFault → Assembly → PlainSegment → List ℕ
octets_with (Ok Accepted) a s = concat (in_order (places_with a s))
octets_with (Ok Repeated) a s = []
octets_with (Err why) a s = []

-- the assembler after a segment
abbrev pub after : Assembly → PlainSegment → Assembly
after a s = after_answer (answer_to a s) a s

-- the octets that are written at a segment
abbrev pub octets_at : Assembly → PlainSegment → List ℕ
octets_at a s = octets_with (answer_to a s) a s

-- the last segment has been written
abbrev pub IsFinished : Assembly → Type 0
IsFinished a = (last : ℕ) × (a.last ≡ Some last) × (a.next ≡ last + 1)

-- the number is within the window, and not above the last segment
abbrev pub IsInReach : Assembly → ℕ → Type 0
IsInReach a number = (number < a.next + a.window) × IfSome a.last (λ last. number ≤ last)

-- The segment with this number is wanted: it is neither written nor held, and it is within the
-- window and not above the last segment.
abbrev pub IsWanted : Assembly → ℕ → Type 0
IsWanted a number =
    (a.next ≤ number) × IsInReach a number × (content_at a.held (number - a.next) ≡ None)

-- What is true of every assembler: nothing above the last segment is written or held, nothing is
-- written or held before a segment has been accepted, and the segment that is to be written next is
-- not held.
abbrev pub IsSound : Option ℕ → ℕ → Places → Type 0
IsSound None next held = (next ≡ 0) × (held ≡ [])
IsSound (Some last) next held =
    (last < 2 ^ 64 - 1) × (next + length held ≤ last + 1) × (content_at held 0 ≡ None)

-- an assembler takes a segment, and appends octets to `before`; if memory runs out, nothing changes
abbrev pub IsSegmentTaken : Assembly → Assembly → PlainSegment → List ℕ → List ℕ
    → Result Taken SegmentFault → Type 0
IsSegmentTaken old new s before text (Err fault.Memory) = (new ≡ old) × (text ≡ before)
IsSegmentTaken old new s before text answer =
    (answer ≡ answer_to old s) × (new ≡ after old s) × (text ≡ before ++ octets_at old s)

-- an assembler takes a Data: a segment of its file, or something else, which changes nothing
abbrev pub IsTaken : Assembly → Assembly → List ℕ → PlainData → List ℕ → List ℕ
    → Result Taken SegmentFault → Type 0
IsTaken old new whole d before text answer =
    ((s : PlainSegment) × IsSegmentOf old.stem whole d s
    × IsSegmentTaken old new s before text answer)
    ⊎ ((why : SegmentFault) × IsNoSegment old.stem whole d why × (answer ≡ Err why)
    × (new ≡ old) × (text ≡ before))
