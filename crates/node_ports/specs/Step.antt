-- What passes between a node and its ports, step by step.
use Rattle.std.specs.Prelude.{ℕ, zero, suc, ◌+◌, ◌-◌, ◌^◌, min, Bool, true, false, List, [], ◌∷◌, ◌++◌, Option, None, Some}
use Rattle.forwarder.specs.Event.{PlainEvent, Send}
use Rattle.forwarder.specs.Verdict.{Verdict}
use Rattle.node_core.specs.Script.LineWriter.{WrittenEvent}
use Rattle.journal.specs.Appending.{is_journalled_written}
use Rattle.node_ports.specs.Ports.{Arrival, arrived}

pub data PortStep : Type 0 where
  -- An event arrived. The buffer had `room` octets, and octets of a packet that did not fit are
  -- left out.
  Got : (room : ℕ) (event : PlainEvent) → PortStep
  -- there were no more arrivals
  Ended : PortStep
  -- the call for the next arrival failed
  FailedNext : PortStep
  -- a line was appended to the journal, and survives a crash
  Wrote : (line : List ℕ) → PortStep
  -- a line was not journalled, but this prefix of it, possibly empty, was appended
  FailedWrite : (front : List ℕ) → PortStep
  -- a packet was accepted for sending
  Gave : (send : Send) → PortStep
  -- a packet was not accepted
  FailedSend : (send : Send) → PortStep

-- the step of a call that gave this arrival in a buffer with `room` octets, which are then these,
-- or that found no more arrivals (None)
abbrev pub step_of : ℕ → Option Arrival → List ℕ → PortStep
step_of room None buffer = Ended
step_of room (Some arrival) buffer = Got room (arrived arrival buffer)

-- whether the line of an event is written, given whether the ports have a journal, and whether the
-- event must be journalled
abbrev pub is_written : Bool → Bool → Bool
is_written true chosen = chosen
is_written false chosen = false

-- the step in which the line `line` is journalled, or no step if it is not written (`false`)
abbrev pub line_steps : Bool → List ℕ → List PortStep
line_steps true line = Wrote line ∷ []
line_steps false line = []

-- whether ports with a journal (`true`) write the line of the event
abbrev pub is_committed : Bool → WrittenEvent → Verdict → Bool
is_committed has event verdict = is_written has (is_journalled_written event verdict)

-- ---- what steps add up to

-- the octets that were appended to the journal
abbrev pub journalled : List PortStep → List ℕ
journalled [] = []
journalled (Got room event ∷ steps) = journalled steps
journalled (Ended ∷ steps) = journalled steps
journalled (FailedNext ∷ steps) = journalled steps
journalled (Wrote line ∷ steps) = line ++ journalled steps
journalled (FailedWrite front ∷ steps) = front ++ journalled steps
journalled (Gave send ∷ steps) = journalled steps
journalled (FailedSend send ∷ steps) = journalled steps

-- the number of failed calls of `next` and `send`
abbrev pub failures_in : List PortStep → ℕ
failures_in [] = 0
failures_in (Got room event ∷ steps) = failures_in steps
failures_in (Ended ∷ steps) = failures_in steps
failures_in (FailedNext ∷ steps) = suc (failures_in steps)
failures_in (Wrote line ∷ steps) = failures_in steps
failures_in (FailedWrite front ∷ steps) = failures_in steps
failures_in (Gave send ∷ steps) = failures_in steps
failures_in (FailedSend send ∷ steps) = suc (failures_in steps)

-- `n`, but at most the greatest u64
abbrev pub count_of : ℕ → ℕ
count_of n = min n (2 ^ 64 - 1)

-- `n` plus 1, but at most the greatest u64
abbrev pub one_more : ℕ → ℕ
one_more n = count_of (n + 1)

-- the count of failures, which was `count`, after more failures; the last argument is the number of
-- these failures, and the count does not grow above the greatest u64
abbrev pub count_after : ℕ → ℕ → ℕ
count_after count zero = count
count_after count (suc n) = one_more (count_after count n)
