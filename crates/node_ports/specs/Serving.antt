-- Turns of a node at its ports: one event each, from what arrived to what was sent.
use Rattle.std.specs.Prelude.{◌≡◌, ℕ, suc, ◌+◌, ◌<◌, ◌⊎◌, Bool, true, false, cond, List, [], ◌∷◌, ◌++◌, length, max}
use Rattle.node_ports.specs.declared.serving.ServeFault.{ServeFault}
use Rattle.node_ports.specs.declared.serving.ServeFault.TheVariants as fault
use Rattle.node_ports.specs.declared.ports.TheConstants.{FRAME_ROOM}
use Rattle.node_ports.specs.declared.serving.Turn.{Turn}
use Rattle.node_ports.specs.declared.serving.Turn.TheVariants as turn
use Rattle.forwarder.specs.Event.{PlainEvent, Send, moment}
use Rattle.forwarder.specs.Node.{NodeState}
use Rattle.node_core.specs.Outcomes.{Outcome, Answered, NoMemory, ExtendsRuns, IsOutcome, run_from}
use Rattle.forwarder.specs.Policy.{Policy}
use Rattle.forwarder.specs.Runs.{Run, IsRun, Stands}
use Rattle.forwarder.specs.Verdict.{Answer, Verdict, verdict_of}
use Rattle.journal.specs.Journal.{IsJournalOf, with_moment}
use Rattle.journal.specs.Journalled.{is_journalled_by}
use Rattle.journal.specs.Text.{IsTextOf}
use Rattle.node_ports.specs.Step.{PortStep, Got, Ended, FailedNext, FailedWrite, Gave, FailedSend, is_written, journalled, line_steps}

-- ---- one turn

-- whether ports with a journal (`true`) write a line for the event, which the node answered with
-- this verdict
abbrev pub has_line : Bool → PlainEvent → Verdict → Bool
has_line has event verdict = is_written has (is_journalled_by event verdict)

-- The line of the event. The time in the line is the greater of the time of the node and the time
-- of the event.
abbrev pub IsLineOf : NodeState → PlainEvent → List ℕ → Type 0
IsLineOf old event line = IsTextOf (with_moment (max old.policy.now (moment event)) event ∷ []) line

-- the steps in which the event is journalled, if it is one that must be
abbrev pub Journals : Bool → NodeState → PlainEvent → List PortStep → Type 0
Journals true old event steps =
    (line : List ℕ) × IsLineOf old event line × (steps ≡ line_steps true line)
Journals false old event steps = steps ≡ []

-- the packets are sent in order; each is accepted or fails, and `failed` is the number that fail
abbrev pub AreSent : List Send → ℕ → List PortStep → Type 0
AreSent [] failed steps = (failed ≡ 0) × (steps ≡ [])
AreSent (sent ∷ sends) failed steps =
    ((rest : List PortStep) × (steps ≡ Gave sent ∷ rest) × AreSent sends failed rest)
    ⊎ ((fewer : ℕ) × (rest : List PortStep) × (failed ≡ suc fewer)
    × (steps ≡ FailedSend sent ∷ rest) × AreSent sends fewer rest)

-- The steps of a turn: the event arrived, and had this outcome. If the event was answered, its line
-- was journalled if it must be, and then its packets were sent. If memory ran out for the event,
-- nothing else was done.
abbrev pub AreTurnSteps : Bool → NodeState → PlainEvent → Outcome → ℕ → List PortStep → Type 0
AreTurnSteps has old event (Answered answer) failed steps =
    (lines sent : List PortStep) × Journals (has_line has event answer.verdict) old event lines
    × AreSent answer.sends failed sent × (steps ≡ Got FRAME_ROOM event ∷ (lines ++ sent))
AreTurnSteps has old event NoMemory failed steps =
    (failed ≡ 0) × (steps ≡ Got FRAME_ROOM event ∷ [])

-- if the old node agrees (`Stands`) with a valid run from a policy whose time is 0, and this run
-- has a journal with the text `text`, then this run, extended by the answered events, has a journal
-- whose text is `text` followed by `added`
abbrev pub GrowsJournal : NodeState → List PlainEvent → List Outcome → List ℕ → Type 0
GrowsJournal old events outcomes added =
    (first : Policy) (past : Run) (journal : List PlainEvent) (text : List ℕ) → first.now ≡ 0
    → IsRun first past → Stands first past old → IsJournalOf first past journal
    → IsTextOf journal text
    → (longer : List PlainEvent) × IsJournalOf first (run_from past events outcomes) longer
    × IsTextOf longer (text ++ added)

-- One event arrived and had the outcome `done_as`, in these steps. The number of the event's sends
-- that failed is `failed`. Each run of the node is extended as `ExtendsRuns` states, and if the
-- ports have a journal, the journal of the run grows by what these steps append.
pub record Handles (has : Bool) (old new : NodeState) (done_as : Outcome) (failed : ℕ)
    (steps : List PortStep) : Type 0 where
  pub event : PlainEvent
  pub handled : IsOutcome old event done_as new
  pub are_steps : AreTurnSteps has old event done_as failed steps
  pub goes_on : ExtendsRuns old (event ∷ []) (done_as ∷ []) new
  pub journal : has ≡ true → GrowsJournal old (event ∷ []) (done_as ∷ []) (journalled steps)

-- the octets are a prefix of the event's line, which may be the whole line, or empty
abbrev pub IsFront : NodeState → PlainEvent → List ℕ → Type 0
IsFront old event front =
    (front ≡ []) ⊎ ((back : List ℕ) × IsLineOf old event (front ++ back))

-- An event arrived and was answered, but it could not be journalled: nothing, or a prefix of the
-- event's line, which may be the whole line, was appended to the journal. None of the event's
-- packets was sent. Each run of the node is extended by the event, and the journal of the run by
-- the event's line.
pub record FailsToWrite (has : Bool) (old new : NodeState) (steps : List PortStep) : Type 0 where
  pub event : PlainEvent
  pub answer : Answer
  pub handled : IsOutcome old event (Answered answer) new
  pub must : has_line has event answer.verdict ≡ true
  pub front : List ℕ
  pub is_front : IsFront old event front
  pub goes_on : ExtendsRuns old (event ∷ []) (Answered answer ∷ []) new
  pub journal : (line : List ℕ) → IsLineOf old event line
      → GrowsJournal old (event ∷ []) (Answered answer ∷ []) line
  pub are_steps : steps ≡ Got FRAME_ROOM event ∷ FailedWrite front ∷ []

-- The meaning of each result of a turn, which was taken in these steps. `sends` are the sends in
-- the outbox after the turn. `Done`: an event was answered. `Refused`: memory ran out for an event.
-- `Unwritten`: an event could not be journalled. `End`: no event came.
abbrev pub IsTurn : Bool → NodeState → NodeState → List Send → Turn → List PortStep → Type 0
IsTurn has old new sends (turn.Done verdict failed) steps =
    Handles has old new (Answered (record { verdict = verdict_of verdict; sends = sends })) failed
    steps
IsTurn has old new sends turn.Refused steps =
    Handles has old new NoMemory 0 steps × (sends ≡ [])
IsTurn has old new sends turn.Unwritten steps = FailsToWrite has old new steps × (sends ≡ [])
IsTurn has old new sends turn.End steps = (new ≡ old) × (sends ≡ []) × (steps ≡ Ended ∷ [])

-- ---- several turns

-- The turns of these events, one after another: no event arrives before the packets of the event
-- before it were sent. `failed` is the number of sends that failed.
abbrev pub AreTurns : Bool → NodeState → List PlainEvent → List Outcome → ℕ → NodeState
    → List PortStep → Type 0
AreTurns has old [] [] failed new steps = (new ≡ old) × (failed ≡ 0) × (steps ≡ [])
AreTurns has old [] (done_as ∷ outcomes) failed new steps = ⊥
AreTurns has old (event ∷ events) [] failed new steps = ⊥
AreTurns has old (event ∷ events) (done_as ∷ outcomes) failed new steps =
    (mid : NodeState) × (here later : ℕ) × (first rest : List PortStep)
    × IsOutcome old event done_as mid × AreTurnSteps has old event done_as here first
    × AreTurns has mid events outcomes later new rest
    × (failed ≡ here + later) × (steps ≡ first ++ rest)

-- the number of events for which memory ran out
abbrev pub refused_count : List Outcome → ℕ
refused_count [] = 0
refused_count (Answered answer ∷ outcomes) = refused_count outcomes
refused_count (NoMemory ∷ outcomes) = refused_count outcomes + 1

-- The number of events that arrived is `events`. The number of these events for which memory ran
-- out is `refused`. The number of sends that failed is `failed`. If the old node agrees (`Stands`)
-- with a valid run from a policy whose time is 0, then this run, extended by the answered events,
-- is valid, the new node agrees with the extended run, and the headline is true of it. If the ports
-- have a journal, the journal of the run grows by what these steps append.
pub record Serves (has : Bool) (old new : NodeState) (events refused failed : ℕ)
    (steps : List PortStep) : Type 0 where
  pub arrivals : List PlainEvent
  pub outcomes : List Outcome
  pub turns : AreTurns has old arrivals outcomes failed new steps
  pub goes_on : ExtendsRuns old arrivals outcomes new
  pub journal : has ≡ true → GrowsJournal old arrivals outcomes (journalled steps)
  pub events_is : events ≡ length arrivals
  pub refused_is : refused ≡ refused_count outcomes

-- the step of the turn in which there were no more arrivals, if there was one
abbrev pub end_steps : Bool → List PortStep
end_steps ended = cond ended (Ended ∷ []) []

-- the turns, and then the end, if the port reached it
abbrev pub ServesAll : Bool → NodeState → NodeState → ℕ → ℕ → ℕ → Bool → List PortStep → Type 0
ServesAll has old new events refused failed ended steps =
    (before : List PortStep) × Serves has old new events refused failed before
    × (steps ≡ before ++ end_steps ended)

-- if the port did not reach its end, each turn had an event; if the port reached its end, there
-- were fewer events than `turns`
abbrev pub EndsAfter : ℕ → Bool → ℕ → Type 0
EndsAfter turns false events = events ≡ turns
EndsAfter turns true events = events < turns

-- `Next`: in the turn after the first `events` events, the call for the next arrival failed
abbrev pub StopsServing : Bool → NodeState → NodeState → ℕ → List PortStep → ServeFault → Type 0
StopsServing has old new turns steps (fault.Next events) =
    (before : List PortStep) × (refused failed : ℕ)
    × Serves has old new events refused failed before
    × (steps ≡ before ++ (FailedNext ∷ [])) × (events < turns)
-- `Journal`: in the turn after the first `events` events, the event could not be journalled
StopsServing has old new turns steps (fault.Journal events) =
    (mid : NodeState) × (before last : List PortStep) × (refused failed : ℕ)
    × Serves has old mid events refused failed before
    × FailsToWrite has mid new last × (steps ≡ before ++ last) × (events < turns)
