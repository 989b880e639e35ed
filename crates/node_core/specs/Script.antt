-- Scripts: the events that the lines of a text spell, and the text of the answers to these events.
use Rattle.std.specs.Prelude.{◌≡◌, ℕ, ◌+◌, ◌⊎◌, List, [], ◌∷◌, ◌++◌, length}
use Rattle.std.specs.List.{AllByRecursion, flat_map}
use Rattle.forwarder.specs.Event.{PlainEvent}
use Rattle.forwarder.specs.Node.{NodeState}
use Rattle.node_core.specs.Outcomes.{Outcome, AreOutcomes, KeepsHeadline, run_from}
use Rattle.forwarder.specs.Runs.{Start, IsRun, Stands}
use Rattle.node_core.specs.Script.Line.{Lacks, IsSkipped, IsEventLine, IsBadLine}
use Rattle.node_core.specs.Script.Writing.{script_text}
pub mod Line
pub mod Writing
pub mod LineWriter
pub mod Ending
pub mod Play

-- a line with its LF
abbrev pub ended : List ℕ → List ℕ
ended line = line ++ (10 ∷ [])

-- several lines, each with its LF
abbrev pub joined : List (List ℕ) → List ℕ
joined lines = flat_map ended lines

abbrev pub AreLines : List (List ℕ) → Type 0
AreLines lines = AllByRecursion (Lacks 10) lines

-- each line is skipped or spells an event, and these are the events that the lines spell, in order
abbrev pub SpellEvents : List (List ℕ) → List PlainEvent → Type 0
SpellEvents [] [] = Unit {0}
SpellEvents [] (event ∷ events) = ⊥
SpellEvents (line ∷ lines) [] = IsSkipped line × SpellEvents lines []
SpellEvents (line ∷ lines) (event ∷ events) =
    (IsSkipped line × SpellEvents lines (event ∷ events))
    ⊎ (IsEventLine event line × SpellEvents lines events)

-- The text with an LF appended consists of these lines, each with its LF, followed by `rest`. The
-- appended LF ends a last line that has no LF. If the text is empty or ends with an LF, the
-- appended LF adds an empty line, which a script skips.
abbrev pub BeginsWithLines : List ℕ → List (List ℕ) → List ℕ → Type 0
BeginsWithLines text lines rest = AreLines lines × (ended text ≡ joined lines ++ rest)

-- the lines of the text spell these events; the last line of the text may have no LF
abbrev pub IsScript : List ℕ → List PlainEvent → Type 0
IsScript text events =
    (lines : List (List ℕ)) × BeginsWithLines text lines [] × SpellEvents lines events

-- the first lines of the text, zero or more of them, spell these events; nothing is stated about
-- the octets after these lines
abbrev pub BeginsWithEvents : List ℕ → List PlainEvent → Type 0
BeginsWithEvents text events =
    (lines : List (List ℕ)) × (rest : List ℕ) × BeginsWithLines text lines rest
    × SpellEvents lines events

-- the whole lines of the text, each with its LF, spell these events; octets without an LF may
-- follow the whole lines
abbrev pub IsScriptSoFar : List ℕ → List PlainEvent → Type 0
IsScriptSoFar text events =
    (lines : List (List ℕ)) × (rest : List ℕ)
    × AreLines lines × Lacks 10 rest × (text ≡ joined lines ++ rest) × SpellEvents lines events

-- line `n`, counted from 1, is the first bad line, and the lines before it spell these events
abbrev pub IsBadAt : List ℕ → ℕ → List PlainEvent → Type 0
IsBadAt text n events =
    (lines : List (List ℕ)) × (line rest : List ℕ)
    × BeginsWithLines text lines (ended line ++ rest) × Lacks 10 line × (n ≡ length lines + 1)
    × SpellEvents lines events × IsBadLine line

-- `text` is the text of the outcomes of these events, which the node `first` handles in order.
-- Memory may run out for some of the events. The answered events form a valid run, and the node
-- after the events agrees (`Stands`) with this run.
pub record IsTextOfRun (first : NodeState) (events : List PlainEvent) (text : List ℕ) : Type 0 where
  pub outcomes : List Outcome
  pub last : NodeState
  pub runs : AreOutcomes first events outcomes last
  pub written : text ≡ script_text first.policy.rules events outcomes
  -- the answered events, with their answers, form a valid run
  pub is_run : IsRun first.policy (run_from Start events outcomes)
  pub stands : Stands first.policy (run_from Start events outcomes) last
  -- and the headline is true of this run, if `first` is a new node
  pub headline : KeepsHeadline first.policy Start (run_from Start events outcomes) last.policy
