-- A connection: a stream that is read from a socket and written to it.
use Rattle.std.specs.Prelude.{◌≡◌, ◌⊎◌, ℕ, ◌-◌, List, [], ◌++◌, length, min, take, Bool, false, Option, None, Some, Ok, IsTrue, nat_le, unwrap_or, ◌||◌}
use Rattle.ndn_streams.specs.Packet.{IsPacket}
use Rattle.ndn_streams.specs.PacketStream.{StreamState}
use Rattle.ndn_streams.specs.Queue.{pushed, written}

-- a connection as plain data
pub record ConnectionState : Type 0 where
  pub stream : StreamState
  -- whether the socket may have octets, or may take octets
  pub is_ready : Bool
  -- whether the other end may still send: it has not ended its sending
  pub is_open : Bool
  -- whether the other end may still take octets: no write has failed
  pub takes_octets : Bool
  -- whether a read has failed, or the octets are no packets, or the time for a packet is over
  pub is_over : Bool
  -- when a packet was found to be begun and not whole, in milliseconds since 1970; None if no such
  -- packet is known
  pub begun : Option ℕ

-- Octets may have been read. The octets that had come before, and then these, are the octets
-- `packet`, and then those that have come and were not given. So `packet` is [] if no packet was
-- given.
pub record Passes (before after : StreamState) (packet : List ℕ) : Type 0 where
  pub held : List ℕ
  pub holds : List ℕ
  pub read : List ℕ
  pub begins : before.left ≡ Ok held
  pub ends : after.left ≡ Ok holds
  pub octets : (held ++ before.came) ++ read ≡ packet ++ (holds ++ after.came)

-- a packet was given: the buffer begins with it, as far as the buffer is long enough
abbrev pub GivesPacket : StreamState → StreamState → List ℕ → ℕ → Type 0
GivesPacket before after buffer len =
    (packet : List ℕ) × IsPacket packet × Passes before after packet
    × (len ≡ min (length packet) (length buffer))
    × (take len buffer ≡ take (length buffer) packet)

-- the stream after the packet was queued and the first `n` octets that then waited were written
abbrev pub after_sending : StreamState → List ℕ → ℕ → StreamState
after_sending stream packet n = record stream { queue = written (pushed stream.queue packet) n }

-- The noted time stays, and with it whether the other end may still send. Or the other end has
-- ended its sending since, and no time is noted.
abbrev pub KeepsTime : ConnectionState → ConnectionState → Type 0
KeepsTime before after =
    ((after.begun ≡ before.begun) × (after.is_open ≡ before.is_open))
    ⊎ (IsTrue before.is_open × (after.is_open ≡ false) × (after.begun ≡ None))

-- nothing that waits will be written: nothing waits, or a write has failed
abbrev pub IsWritten : ConnectionState → Type 0
IsWritten c = (c.stream.queue.waiting ≡ []) ⊎ (c.takes_octets ≡ false)

-- whether the face of the connection must close: the connection is over, or the other end has ended
-- its sending and nothing that waits will be written
abbrev pub IsDone : ConnectionState → Type 0
IsDone c = IsTrue c.is_over ⊎ ((c.is_open ≡ false) × IsWritten c)

-- the stream is in the middle of a packet, the other end has ended its sending, or a write has
-- failed
abbrev pub IsPartial : ConnectionState → Type 0
IsPartial c =
    ¬ ((IsTrue c.is_open × IsTrue c.takes_octets)
    × ((c.stream.left ≡ Ok []) × (c.stream.came ≡ [])))

-- the connection after it was found to be partial at the time `now`: it is over if it was found to
-- be partial `limit` milliseconds ago
abbrev pub partial_at : ℕ → ℕ → ConnectionState → ConnectionState
partial_at now limit c = record c {
  begun = Some (min (unwrap_or c.begun now) now);
  is_over = c.is_over || nat_le limit (now - min (unwrap_or c.begun now) now);
}
