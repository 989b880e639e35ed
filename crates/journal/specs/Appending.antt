-- The text that is appended to the journal for an event.
use Rattle.std.specs.Io.KnownBytes.{Appends}
use Rattle.std.specs.Prelude.{◌≡◌, ◌⊎◌, ℕ, List, [], ◌∷◌, ◌++◌, Bool, true, false, Option, max}
use Rattle.forwarder.specs.Event.{PlainEvent, Send, moment}
use Rattle.forwarder.specs.Node.{NodeState, IsStep}
use Rattle.forwarder.specs.Verdict.{Verdict}
use Rattle.forwarder.specs.declared.event.Event.TheVariants as code
use Rattle.node_core.specs.Script.LineWriter.{IsEventOf, WrittenEvent, event_text}
use Rattle.journal.specs.Journal.{with_event, with_moment}
use Rattle.journal.specs.Journalled.{is_journalled_by, is_journalled_where}
use Rattle.journal.specs.Text.{IsTextOf}

-- A step answers the event with `verdict` and `sends`, and leads from the node `old` to the node
-- `new`. If the event is journalled, `added` is the line of the event. The time in the line is the
-- greater of the time of `old` and the time of the event. If the event is not journalled, `added`
-- is empty.
pub record Steps (old : NodeState) (event : PlainEvent) (verdict : Verdict)
    (sends : List Send) (new : NodeState) (added : List ℕ) : Type 0 where
  pub step : IsStep old event (record { verdict = verdict; sends = sends }) new
  pub text : IsTextOf
      (with_event (is_journalled_by event verdict)
      (with_moment (max old.policy.now (moment event)) event) [])
      added

-- whether the event may change faces or rules
abbrev pub is_change_written : WrittenEvent → Bool
is_change_written (code.Packet face now octets) = false
is_change_written (code.FaceUp face scope now) = true
is_change_written (code.FaceDown face now) = true
is_change_written (code.Tick now) = false
is_change_written (code.NewRules files now) = true

-- whether the event is journalled, if this is the verdict on the event
abbrev pub is_journalled_written : WrittenEvent → Verdict → Bool
is_journalled_written e verdict = is_journalled_where (is_change_written e) verdict

-- the line of the event if the event is journalled (`true`), otherwise the empty text
abbrev pub added_text : Bool → WrittenEvent → List ℕ
added_text true e = event_text e
added_text false e = []

-- the line of the event is a line of a script and spells the event
abbrev pub IsLineAt : WrittenEvent → Type 0
IsLineAt e = (event : PlainEvent) → IsEventOf e event → IsTextOf (event ∷ []) (event_text e)

-- If the event is journalled, its line was appended, and the line spells the event (`IsLineAt`). If
-- the event is not journalled, nothing was appended. If the old content of the journal is not known
-- (None), nothing is stated about what was appended.
abbrev pub Journals : Option (List ℕ) → Option (List ℕ) → WrittenEvent → Verdict → Type 0
Journals old new e verdict =
    let chosen = is_journalled_written e verdict in
    Appends old new (added_text chosen e) × (chosen ≡ true → IsLineAt e)

-- The octets are a prefix of the line of the event, and the line spells the event (`IsLineAt`). The
-- prefix may be the whole line. It is empty if the line could not be made.
abbrev pub IsFrontOfLine : WrittenEvent → List ℕ → Type 0
IsFrontOfLine e front =
    (front ≡ []) ⊎ ((back : List ℕ) × IsLineAt e × (event_text e ≡ front ++ back))

-- The event is one that must be journalled, but journalling failed: a prefix of the event's line
-- was appended. If the old content of the journal is not known (None), nothing is stated about what
-- was appended.
abbrev pub FailsToJournal : Option (List ℕ) → Option (List ℕ) → WrittenEvent → Verdict → Type 0
FailsToJournal old new e verdict =
    (is_journalled_written e verdict ≡ true)
    × ((front : List ℕ) × IsFrontOfLine e front × Appends old new front)
