-- The lines of a log.
use Rattle.std.specs.Prelude.{◌≡◌, ◌<◌, ◌≤◌, ◌⊎◌, ℕ, List, [], ◌++◌, Bool, true, false, Option, None, Some, Result, not, ◌&&◌}
use Rattle.std.specs.Io.KnownBytes.{Appends}
use Rattle.ndn_tlv.specs.declared.memory.Memory.{Memory}
use Rattle.forwarder.specs.declared.verdict.Verdict.{Verdict}
use Rattle.node_ports.specs.Step.{one_more}
use Rattle.forwarder.specs.declared.event.Event.TheVariants.{FaceDown}
use Rattle.forwarder.specs.Event.{moment_of}
use Rattle.ndn_log.specs.Entry.{LoggedEvent, is_plain, refused_on}
use Rattle.ndn_log.specs.Limits.{LimitsState, begun, is_over, is_shown, limits_after}
use Rattle.ndn_log.specs.Line.{AreLogged, IsLogged}
use Rattle.ndn_log.specs.Notes.{left_out_texts}

-- whether an event is left out of the log: a plain event is left out, unless all events are shown
abbrev pub is_left_out : Bool → LoggedEvent → Result Verdict Memory → Bool
is_left_out shows_all event outcome = not shows_all && is_plain event outcome

-- What became of a line with this time and these words. Either it was appended, or memory ran out
-- for it, and it is counted: `lost` is the count before, and `loses` the count afterwards.
abbrev pub LogsOrLoses : List ℕ → List ℕ → ℕ → List ℕ → ℕ → ℕ → Type 0
LogsOrLoses old new moment words lost loses =
    (IsLogged old new moment words × (loses ≡ lost))
    ⊎ ((new ≡ old) × (loses ≡ one_more lost))

-- A sink was given a line with this time and these words, or nothing.
abbrev pub Tells : Option (List ℕ) → Option (List ℕ) → ℕ → List ℕ → Type 0
Tells given gives moment words =
    (line : List ℕ) × Appends given gives line × (IsLogged [] line moment words ⊎ (line ≡ []))

-- The number, after this event, of closed faces whose closing the log left out and has not yet
-- reported. `count` is this number before the event. If `left_out` is true, the log leaves out the
-- event.
abbrev pub closed_with : Bool → LoggedEvent → ℕ → ℕ
closed_with true (FaceDown face now) count = one_more count
closed_with left_out event count = count

-- One of two cases is true. In the first case, the count was not 0, a line with these words was
-- appended, and the count is 0 afterwards. In the second case, nothing was appended, and the count
-- is unchanged. `count` is the count before, and `left` is the count afterwards.
abbrev pub SaysCount : List ℕ → List ℕ → ℕ → List ℕ → ℕ → ℕ → Type 0
SaysCount old new moment words count left =
    ((0 < count) × IsLogged old new moment words × (left ≡ 0)) ⊎ ((new ≡ old) × (left ≡ count))

-- The face of an event whose line is limited, or None if its line is not limited. The line of a
-- packet that was denied or dropped, or of a face that could not open, is limited, unless all
-- events are shown.
abbrev pub limited_event : Bool → LoggedEvent → Result Verdict Memory → Option ℕ
limited_event true event outcome = None
limited_event false event outcome = refused_on event outcome

-- the face of a failed send whose line is limited, or None if all events are shown
abbrev pub limited_send : Bool → ℕ → Option ℕ
limited_send true face = None
limited_send false face = Some face

-- whether the limits leave out a line; `face` is the face of a limited line, and None for a line
-- that is not limited
abbrev pub is_held : LimitsState → ℕ → Option ℕ → Bool
is_held limits moment None = false
is_held limits moment (Some face) = not (is_shown limits moment face)

-- the limits after a line that may be limited
abbrev pub limits_with : LimitsState → ℕ → Option ℕ → LimitsState
limits_with limits moment None = limits
limits_with limits moment (Some face) = limits_after limits moment face

-- One of two cases is true. In the first case, the lines that tell what the limits left out were
-- appended, and the second of `moment` begins. In the second case, memory ran out: nothing was
-- appended, and the limits are unchanged.
abbrev pub TellsLeftOut : List ℕ → List ℕ → ℕ → LimitsState → LimitsState → Type 0
TellsLeftOut old new moment limits after =
    (AreLogged old new moment (left_out_texts limits) × (after ≡ begun moment))
    ⊎ ((new ≡ old) × (after ≡ limits))

-- If `moment` is in another second than the limits count, the lines that tell what was left out are
-- appended, and the second of `moment` begins (`TellsLeftOut`). Otherwise nothing changes.
pub record Begins (old new : List ℕ) (moment : ℕ) (limits after : LimitsState) : Type 0 where
  pub over : is_over limits moment ≡ true → TellsLeftOut old new moment limits after
  pub present : is_over limits moment ≡ false → (new ≡ old) × (after ≡ limits)

-- whether the line of an event is shown: the event is not left out, nor do the limits leave out its
-- line
abbrev pub shows : Bool → LimitsState → LoggedEvent → Result Verdict Memory → Bool
shows shows_all limits event outcome =
    not (is_left_out shows_all event outcome)
    && not (is_held limits (moment_of event) (limited_event shows_all event outcome))

-- the lines that were given to the sink, if they are known, and then the buffered lines
abbrev pub so_far : Option (List ℕ) → List ℕ → Option (List ℕ)
so_far None text = None
so_far (Some given) text = Some (given ++ text)

-- An event with this outcome was noted in a log. `told`: lines that tell what the limits left out,
-- if the event begins another second. `line`: the line of the event with these words, if it is
-- shown; if memory runs out for it, it is counted as lost. `more`: lines of failed sends, and
-- counts. The log had the buffered lines `text`, these limits, this count of lost lines, and all
-- lines in `had`; afterwards it has all lines in `has`, and the count is `loses`.
pub record NotesEvent (shows_all : Bool) (text : List ℕ) (limits : LimitsState) (lost loses : ℕ)
    (had has : Option (List ℕ)) (event : LoggedEvent) (outcome : Result Verdict Memory)
    (words : List ℕ) : Type 0 where
  pub told : List ℕ
  pub line : List ℕ
  pub more : List ℕ
  pub began : LimitsState
  pub begins : Begins text (text ++ told) (moment_of event) limits began
  pub shown : shows shows_all began event outcome ≡ true
      → IsLogged [] line (moment_of event) words ⊎ ((line ≡ []) × (one_more lost ≤ loses))
  pub hidden : shows shows_all began event outcome ≡ false → line ≡ []
  pub appended : Appends had has (told ++ (line ++ more))
