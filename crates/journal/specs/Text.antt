-- The text of a journal: for each event, one line of a script with its LF.
use Rattle.std.specs.Prelude.{◌≡◌, ℕ, List, [], ◌∷◌, ◌++◌}
use Rattle.forwarder.specs.Event.{PlainEvent}
use Rattle.forwarder.specs.Policy.{Policy}
use Rattle.forwarder.specs.Runs.{Run}
use Rattle.node_core.specs.Script.{ended}
use Rattle.node_core.specs.Script.Line.{Lacks, IsEventLine}
use Rattle.journal.specs.Journal.{IsBeginningOf, IsJournalOf, KeepsBeginning}

-- the text has one line with its LF for each event, in order, and nothing else
abbrev pub IsTextOf : List PlainEvent → List ℕ → Type 0
IsTextOf [] text = text ≡ []
IsTextOf (event ∷ events) text =
    (line rest : List ℕ) × IsEventLine event line × Lacks 10 line × (text ≡ ended line ++ rest)
    × IsTextOf events rest

-- The text that a crash may leave: the whole lines of these events, and then octets without an LF.
-- A replay ignores the octets after the last LF.
abbrev pub IsCutTextOf : List PlainEvent → List ℕ → Type 0
IsCutTextOf events text =
    (whole cut : List ℕ) × (text ≡ whole ++ cut) × IsTextOf events whole × Lacks 10 cut

-- The octets `left` are whole lines and then octets without an LF. The events of these lines are
-- the journal of a prefix `part` of the run `past`. If `left` begins with the whole text of the
-- journal of some prefix of `past`, then that prefix of `past` is also a prefix of `part`.
pub record Survives (first : Policy) (past : Run) (left : List ℕ) : Type 0 where
  pub events : List PlainEvent
  pub are_lines : IsCutTextOf events left
  pub keeps : KeepsBeginning first past events
  pub has_whole : (done : Run) (journal : List PlainEvent) (text more : List ℕ)
      → IsBeginningOf done past → IsJournalOf first done journal → IsTextOf journal text
      → left ≡ text ++ more → IsBeginningOf done keeps.part
