-- The packets that wait to be written to a stream.
use Rattle.std.specs.Prelude.{ℕ, ◌+◌, List, [], ◌∷◌, ◌++◌, length, take, drop, min, Bool, nat_le, if◌then◌else◌}

-- a queue as plain data
pub record QueueState : Type 0 where
  -- how many octets may wait
  pub limit : ℕ
  -- the octets that wait, the next one first
  pub waiting : List ℕ
  -- how many packets were dropped
  pub dropped : ℕ

abbrev pub empty : ℕ → QueueState
empty limit = record { limit = limit; waiting = []; dropped = 0 }

-- the greatest count of dropped packets
abbrev pub MOST : ℕ
MOST = 0xffff_ffff_ffff_ffff

-- whether there is room for all octets of the packet
abbrev pub has_room : QueueState → List ℕ → Bool
has_room q packet = nat_le (length q.waiting + length packet) q.limit

-- after a packet: its octets wait behind the others, or all are dropped
abbrev pub pushed : QueueState → List ℕ → QueueState
pushed q packet =
    if has_room q packet then record q { waiting = q.waiting ++ packet }
    else record q { dropped = min (q.dropped + 1) MOST }

-- after so many octets were written
abbrev pub written : QueueState → ℕ → QueueState
written q count = record q { waiting = drop count q.waiting }

-- ---- all calls; in each list the latest call stands first

-- a call that changes the queue
pub data Call : Type 0 where
  Push : (packet : List ℕ) → Call
  Written : (count : ℕ) → Call

abbrev pub after : QueueState → Call → QueueState
after q (Push packet) = pushed q packet
after q (Written count) = written q count

abbrev pub state_after : QueueState → List Call → QueueState
state_after first [] = first
state_after first (call ∷ earlier) = after (state_after first earlier) call

-- the octets that were written
abbrev pub octets_written : QueueState → List Call → List ℕ
octets_written first [] = []
octets_written first (Push packet ∷ earlier) = octets_written first earlier
octets_written first (Written count ∷ earlier) =
    octets_written first earlier ++ take count (state_after first earlier).waiting

-- the packets for which there was room
abbrev pub packets_taken : QueueState → List Call → List (List ℕ)
packets_taken first [] = []
packets_taken first (Push packet ∷ earlier) =
    if has_room (state_after first earlier) packet then packets_taken first earlier ++ packet ∷ []
    else packets_taken first earlier
packets_taken first (Written count ∷ earlier) = packets_taken first earlier

-- how many packets there was no room for
abbrev pub packets_dropped : QueueState → List Call → ℕ
packets_dropped first [] = 0
packets_dropped first (Push packet ∷ earlier) =
    if has_room (state_after first earlier) packet then packets_dropped first earlier
    else packets_dropped first earlier + 1
packets_dropped first (Written count ∷ earlier) = packets_dropped first earlier
