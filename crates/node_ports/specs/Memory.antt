-- Ports in memory.
use Rattle.std.specs.Prelude.{◌≡◌, ℕ, List, [], ◌∷◌, ◌++◌}
use Rattle.forwarder.specs.Event.{PlainEvent, Send}
use Rattle.node_ports.specs.Ports.{cut_to}
use Rattle.node_ports.specs.Step.{PortStep, Got, Ended, FailedNext, Wrote, FailedWrite, Gave, FailedSend, one_more}

-- The events that have not yet arrived, the packets that were accepted, the number of calls of
-- `next` that succeeded (at most the greatest u64), for each accepted packet this number when the
-- packet was sent, and the number of failed calls (at most the greatest u64). So all of the trace
-- is known up to these limits, except the octets that the buffers had room for, and except where
-- among the other steps the failed calls were and what they were.
pub record MemoryTrace : Type 0 where
  pub events : List PlainEvent
  pub sent : List Send
  pub asked : ℕ
  pub places : List ℕ
  pub failed : ℕ

-- `next_told` is the number of the call of `next` that is told to fail, and `send_told` is the
-- number of the call of `send` that is told to fail. The first call from now on has the number 1.
-- The number 0 means that no call is told to fail.
pub record MemoryState : Type 0 where
  pub trace : MemoryTrace
  pub next_told : ℕ
  pub send_told : ℕ

-- one step of ports in memory, which have no journal
abbrev pub DoesInMemory : MemoryTrace → PortStep → MemoryTrace → Type 0
DoesInMemory old (Got room event) new =
    (first : PlainEvent) × (old.events ≡ first ∷ new.events) × (event ≡ cut_to room first)
    × (new ≡ record old { events = new.events; asked = one_more old.asked })
DoesInMemory old Ended new =
    (old.events ≡ []) × (new ≡ record old { asked = one_more old.asked })
DoesInMemory old FailedNext new = new ≡ record old { failed = one_more old.failed }
DoesInMemory old (Wrote line) new = ⊥
DoesInMemory old (FailedWrite front) new = ⊥
DoesInMemory old (Gave send) new =
    new ≡ record old { sent = old.sent ++ (send ∷ []); places = old.places ++ (old.asked ∷ []) }
DoesInMemory old (FailedSend send) new = new ≡ record old { failed = one_more old.failed }

-- these steps, one after another
abbrev pub AreDoneInMemory : MemoryTrace → List PortStep → MemoryTrace → Type 0
AreDoneInMemory old [] new = new ≡ old
AreDoneInMemory old (step ∷ steps) new =
    (mid : MemoryTrace) × DoesInMemory old step mid × AreDoneInMemory mid steps new
