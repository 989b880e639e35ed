-- Which file follows from segments, in whatever order and however often they came.
use Rattle.std.specs.Prelude.{◌≡◌, ℕ, ◌+◌, ◌≤◌, ◌⊎◌, List, [], ◌∷◌, ◌++◌, length, Some, Result, Ok, Err, slice_get, slice_index_or}
use Rattle.std.specs.List.{concat}
use Rattle.ndn_segments.specs.declared.fault.SegmentFault.{SegmentFault}
use Rattle.ndn_segments.specs.declared.assembler.Taken.{Taken}
use Rattle.ndn_segments.specs.declared.assembler.Taken.TheVariants.{Accepted, Repeated}
use Rattle.ndn_segments.specs.Segment.{PlainSegment}
use Rattle.ndn_segments.specs.Pieces.{last_piece, piece}
use Rattle.ndn_segments.specs.Assembling.{Assembly, answer_to, after, octets_at}

-- `s` is one of the segments
abbrev pub Has : List PlainSegment → PlainSegment → Type 0
Has [] s = ⊥
Has (first ∷ segments) s = (s ≡ first) ⊎ Has segments s

-- The file is the contents of the segments 0 to `last`, joined in order. Each of these segments
-- came, and all segments that came agree on the number of the last segment and on the contents.
pub record Assembles (segments : List PlainSegment) (file : List ℕ) : Type 0 where
  pub last : ℕ
  pub contents : List (List ℕ)
  pub count : length contents ≡ last + 1
  pub joined : file ≡ concat contents
  pub each : (number : ℕ) → number ≤ last → Has segments (record {
    number = number;
    last = last;
    content = slice_index_or contents number [];
  })
  pub agree : (s : PlainSegment) → Has segments s
      → (s.last ≡ last) × (slice_get contents s.number ≡ Some s.content)

-- The octets are the contents of the first `next` segments, joined in order. Each of these segments
-- is among the given ones.
pub record IsWritten (segments : List PlainSegment) (next : ℕ) (written : List ℕ) : Type 0 where
  pub contents : List (List ℕ)
  pub count : length contents ≡ next
  pub joined : written ≡ concat contents
  pub each : (number : ℕ) (content : List ℕ) → slice_get contents number ≡ Some content
      → (s : PlainSegment) × Has segments s × (s.number ≡ number) × (s.content ≡ content)

-- the segment with this number of a file that is cut into pieces of `size` octets
abbrev pub segment : ℕ → List ℕ → ℕ → PlainSegment
segment size file number = record {
  number = number;
  last = last_piece size (length file);
  content = piece size file number;
}

-- each of the segments is a segment of the file
abbrev pub AreOf : ℕ → List ℕ → List PlainSegment → Type 0
AreOf size file segments =
    (s : PlainSegment) → Has segments s
    → (s.number ≤ last_piece size (length file)) × (s ≡ segment size file s.number)

-- ---- what an assembler makes of a list of segments; the segment that came last stands first

abbrev pub state_after : Assembly → List PlainSegment → Assembly
state_after first [] = first
state_after first (s ∷ earlier) = after (state_after first earlier) s

-- all octets that were written
abbrev pub written_after : Assembly → List PlainSegment → List ℕ
written_after first [] = []
written_after first (s ∷ earlier) =
    written_after first earlier ++ octets_at (state_after first earlier) s

abbrev pub if_accepted : Result Taken SegmentFault → PlainSegment → List PlainSegment
    → List PlainSegment
if_accepted (Ok Accepted) s earlier = s ∷ earlier
if_accepted (Ok Repeated) s earlier = earlier
if_accepted (Err why) s earlier = earlier

-- the segments that were accepted
abbrev pub accepted_of : Assembly → List PlainSegment → List PlainSegment
accepted_of first [] = []
accepted_of first (s ∷ earlier) =
    if_accepted (answer_to (state_after first earlier) s) s (accepted_of first earlier)
