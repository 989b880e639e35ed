-- One stream in both directions.
use Rattle.std.specs.Prelude.{◌≡◌, ℕ, ◌≤◌, List, [], ◌++◌, length, take, drop, min, Option, None, Some, Result, Ok, Err, MatchResult}
use Rattle.std.specs.Io.KnownBytes.{Appends, Consumes, IsAtEnd, Keeps}
use Rattle.ndn_streams.specs.declared.fault.StreamFault.{StreamFault}
use Rattle.ndn_streams.specs.Stream.{Left}
use Rattle.ndn_streams.specs.Cutting.{Answer, answer, after_next}
use Rattle.ndn_streams.specs.Queue.{QueueState, written}

-- a stream as plain data
pub record StreamState : Type 0 where
  -- what the cutter holds, or the fault
  pub left : Left
  -- the octets that came and were not cut yet, the next one first
  pub came : List ℕ
  -- the packets that wait to be written
  pub queue : QueueState

-- ---- reading

-- The octets that came are the next ones of the source, and none came only at the end of the
-- source. At an error, the source keeps its octets. This says nothing of a source whose octets are
-- not known.
abbrev pub Reads : {E : Type 0} → Option (List ℕ) → Option (List ℕ) → Result ℕ E → List ℕ
    → Type 0
Reads before after result came =
    MatchResult result (λ n. Consumes before after came × (n ≡ 0 → IsAtEnd after))
    (λ _. Keeps before after)

-- ---- the next packet

-- the octets that are not cut yet after an answer: those after the packet, none if more octets are
-- needed, and all if there is a fault
abbrev pub uncut : List ℕ → Answer → List ℕ
uncut came (Err fault) = came
uncut came (Ok None) = []
uncut came (Ok (Some found)) = found.1

-- a stream after a call for its next packet
abbrev pub after_packet : StreamState → StreamState
after_packet s = record s {
  left = after_next s.left s.came;
  came = uncut s.came (answer s.left s.came);
}

-- how many octets of the packet a buffer of so many octets takes
abbrev pub copied : ℕ → Answer → Result (Option ℕ) StreamFault
copied room (Err fault) = Err fault
copied room (Ok None) = Ok None
copied room (Ok (Some found)) = Ok (Some (min (length found.0) room))

-- the buffer with the octets of the packet at its start, as many as it takes
abbrev pub filled : List ℕ → Answer → List ℕ
filled buffer (Err fault) = buffer
filled buffer (Ok None) = buffer
filled buffer (Ok (Some found)) = take (length buffer) found.0 ++ drop (length found.0) buffer

-- ---- writing

-- The first octets that waited were written in their order, and the others still wait. If it is
-- known what the sink holds, these octets were appended to it, and no others.
abbrev pub Writes : QueueState → QueueState → Option (List ℕ) → Option (List ℕ) → Type 0
Writes old new before after =
    (n : ℕ) × (n ≤ length old.waiting) × (new ≡ written old n)
    × Appends before after (take n old.waiting)

-- ---- for private contracts

-- how many octets were copied, and how many came after the packet
abbrev pub counts : ℕ → Answer → Result (Option (ℕ × ℕ)) StreamFault
counts room (Err fault) = Err fault
counts room (Ok None) = Ok None
counts room (Ok (Some found)) = Ok (Some (min (length found.0) room, length found.1))
