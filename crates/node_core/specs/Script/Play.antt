-- Running a script: the effect of the lines that were read.
use Rattle.std.specs.Prelude.{◌≡◌, ℕ, ◌+◌, ◌<◌, ◌≤◌, ◌^◌, Option, List, [], ◌∷◌, ◌++◌, length}
use Rattle.std.specs.Io.KnownBytes.{Appends, Keeps}
use Rattle.forwarder.specs.Event.{PlainEvent}
use Rattle.forwarder.specs.Node.{NodeState}
use Rattle.node_core.specs.Outcomes.{Outcome, IsOutcome, AreOutcomes}
use Rattle.forwarder.specs.Runs.{Start, Stands}
use Rattle.node_core.specs.Script.Line.{Lacks, IsBadLine}
use Rattle.node_core.specs.Script.Writing.{outcome_text, outcomes_text}
use Rattle.node_core.specs.Script.{AreLines, SpellEvents, ended, joined}
use Rattle.node_core.specs.Script.Ending.{AppendsFront}
use Rattle.node_core.specs.declared.script.player.Player.{Player}
use Rattle.node_core.specs.declared.script.RunFault.{RunFault}
use Rattle.node_core.specs.declared.script.RunFault.TheVariants as fault

-- the state of running a script: the node, and the numbers of lines and events that were handled
pub record Place : Type 0 where
  pub node : NodeState
  pub lines : ℕ
  pub events : ℕ

abbrev pub place_of : Player → Place
place_of p = record { node = p.node; lines = p.lines; events = p.events }

-- a node before its first event: its time is 0, and it agrees with the empty run from its own
-- policy
pub record IsNew (node : NodeState) : Type 0 where
  pub now : node.policy.now ≡ 0
  pub stands : Stands node.policy Start node

-- the state of running a script before the first line: the node is new (`IsNew`), and no lines or
-- events are counted
pub record IsStart (place : Place) : Type 0 where
  pub node : IsNew place.node
  pub lines : place.lines ≡ 0
  pub events : place.events ≡ 0

-- the numbers of lines and events can increase by `n` without overflow
abbrev pub HasRoom : Place → ℕ → Type 0
HasRoom place n = (place.lines + n < 2 ^ 64) × (place.events + n < 2 ^ 64)

-- the state `to` counts at most `n` more lines and at most `n` more events than the state `from`
abbrev pub IsNear : Place → ℕ → Place → Type 0
IsNear from n to = (to.lines ≤ from.lines + n) × (to.events ≤ from.events + n)

-- the text is an unfinished line: it has no LF and at most 20,000 octets
abbrev pub IsPending : List ℕ → Type 0
IsPending line = Lacks 10 line × (length line ≤ 20000)

-- Handling the event leads from the state `from` to the state `to`, which counts one more event and
-- the same number of lines. `text` is the text of the outcome, with the number of the event.
pub record PlaysEvent (event : PlainEvent) (from to : Place) (text : List ℕ) : Type 0 where
  pub done_as : Outcome
  pub handled : IsOutcome from.node event done_as to.node
  pub text_is : text ≡ outcome_text from.node.policy.rules (from.events + 1) done_as
  pub lines : to.lines ≡ from.lines
  pub events : to.events ≡ from.events + 1

-- Running the lines leads from the state `from` to the state `to`. The counts of `to` are those of
-- `from`, increased by the numbers of these lines and of their events. `text` is the text of the
-- outcomes. The first event of the lines has the number `from.events + 1`.
pub record Plays (lines : List (List ℕ)) (from to : Place) (text : List ℕ) : Type 0 where
  pub events : List PlainEvent
  pub outcomes : List Outcome
  pub are_lines : AreLines lines
  pub say : SpellEvents lines events
  pub runs : AreOutcomes from.node events outcomes to.node
  pub text_is : text ≡ outcomes_text from.node.policy.rules (from.events + 1) events outcomes
  pub numbered : to.lines ≡ from.lines + length lines
  pub counted : to.events ≡ from.events + length outcomes

-- The possible faults of handling this line in the state `from`. `BadLine` with the number of the
-- line: the line is bad. `Memory` is always possible.
abbrev pub LineFails : RunFault → List ℕ → Place → Type 0
LineFails (fault.BadLine n) line from = (n ≡ from.lines + 1) × IsBadLine line
LineFails fault.Memory line from = Unit {0}
LineFails fault.Write line from = ⊥
LineFails fault.Read line from = ⊥
LineFails (fault.Node _) line from = ⊥

-- The possible faults of running one line in the state `from`. `BadLine` with the number of the
-- line: the line is bad, and nothing was written. `Memory`: nothing was written. `Write`: a prefix
-- of the text of the outcome was written. The octets of the writer are `held` before and `holds`
-- afterwards. If they are not known (None), nothing is stated about what was written.
abbrev pub LineStops : RunFault → List ℕ → Place → Option (List ℕ) → Option (List ℕ) → Type 0
LineStops (fault.BadLine n) line from held holds =
    (n ≡ from.lines + 1) × IsBadLine line × Keeps held holds
LineStops fault.Write line from held holds =
    (to : Place) × (text : List ℕ) × Plays (line ∷ []) from to text × AppendsFront held holds text
LineStops fault.Memory line from held holds = Keeps held holds
LineStops fault.Read line from held holds = ⊥
LineStops (fault.Node _) line from held holds = ⊥

-- The possible faults of appending octets to an unfinished line. `line` is the line with the
-- appended octets. `BadLine` with the number of the line: `line` has more than 20,000 octets.
-- `Memory` is always possible.
abbrev pub AddStops : RunFault → List ℕ → Place → Type 0
AddStops (fault.BadLine n) line from = (n ≡ from.lines + 1) × (20000 < length line)
AddStops fault.Memory line from = Unit {0}
AddStops fault.Write line from = ⊥
AddStops fault.Read line from = ⊥
AddStops (fault.Node _) line from = ⊥

-- for all octets `more`, the text `stream ++ more`, with an LF appended, begins with these lines,
-- and the line after these lines is bad
abbrev pub TurnsBad : List ℕ → List (List ℕ) → Type 0
TurnsBad stream lines = (more : List ℕ) → (line rest : List ℕ)
    × (ended (stream ++ more) ≡ joined lines ++ (ended line ++ rest)) × Lacks 10 line
    × IsBadLine line

-- The possible faults of handling the octets `stream` in the state `from`. The octets of the writer
-- are `held` before and `holds` afterwards. If they are not known (None), nothing is stated about
-- what was written. `BadLine` with the number of the first bad line: the answers to the lines
-- before this line were written. `Write` and `Memory`: for some lines at the beginning of `stream`,
-- zero or more of them, a prefix of the text of the answers to these lines was written.
abbrev pub FeedStops : RunFault → List ℕ → Place → Option (List ℕ) → Option (List ℕ) → Type 0
FeedStops (fault.BadLine n) stream from held holds =
    (lines : List (List ℕ)) × (to : Place) × (text : List ℕ) × Plays lines from to text
    × Appends held holds text × (n ≡ to.lines + 1) × TurnsBad stream lines
FeedStops fault.Write stream from held holds =
    (lines : List (List ℕ)) × (to : Place) × (text rest : List ℕ) × Plays lines from to text
    × AppendsFront held holds text × (stream ≡ joined lines ++ rest)
FeedStops fault.Memory stream from held holds =
    (lines : List (List ℕ)) × (to : Place) × (text rest : List ℕ) × Plays lines from to text
    × AppendsFront held holds text × (stream ≡ joined lines ++ rest)
FeedStops fault.Read stream from held holds = ⊥
FeedStops (fault.Node _) stream from held holds = ⊥
