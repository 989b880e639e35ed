-- An event as it is written: its line, its moment, and whether it may change faces or rules.
use Rattle.std.proofs.Common.{◌≡◌, ℕ, List, [], ◌∷◌, refl, sym, ap, ◌∙◌}
use Rattle.std.proofs.lemmas.List.{append-nil}
use Rattle.forwarder.specs.declared.event.Event.TheVariants as code
use Rattle.forwarder.specs.Event.{PlainEvent, at}
use Rattle.node_core.specs.Script.{ended}
use Rattle.node_core.specs.Script.LineWriter.{IsEndedLine, IsEventOf, WrittenEvent}
use Rattle.journal.specs.Appending.{is_change_written}
use Rattle.journal.specs.Journal.{with_moment}
use Rattle.journal.specs.Journalled.{is_change}
use Rattle.journal.specs.Text.{IsTextOf}

-- a line with its LF is the text of its event
pub one_line : (event : PlainEvent) (text : List ℕ) → IsEndedLine event text → IsTextOf (event ∷ []) text
one_line event text h = (h.0, [], h.1, h.2, h.3 ∙ sym (append-nil (ended h.0)), refl)

pub moved_event : (t : ℕ) (e : WrittenEvent) (event : PlainEvent) → IsEventOf e event → IsEventOf (at t e) (with_moment t event)
moved_event t (code.Packet face now octets) event is = ap (with_moment t) is
moved_event t (code.FaceUp face scope now) event is = ap (with_moment t) is
moved_event t (code.FaceDown face now) event is = ap (with_moment t) is
moved_event t (code.Tick now) event is = ap (with_moment t) is
moved_event t (code.NewRules files now) event is = (is.0, is.1, is.2, is.3, ap (with_moment t) is.4)

pub written_change : (e : WrittenEvent) (event : PlainEvent) → IsEventOf e event → is_change event ≡ is_change_written e
written_change (code.Packet face now octets) event is = ap is_change is
written_change (code.FaceUp face scope now) event is = ap is_change is
written_change (code.FaceDown face now) event is = ap is_change is
written_change (code.Tick now) event is = ap is_change is
written_change (code.NewRules files now) event is = ap is_change is.4

pub moved_change : (t : ℕ) (e : WrittenEvent) → is_change_written (at t e) ≡ is_change_written e
moved_change t (code.Packet face now octets) = refl
moved_change t (code.FaceUp face scope now) = refl
moved_change t (code.FaceDown face now) = refl
moved_change t (code.Tick now) = refl
moved_change t (code.NewRules files now) = refl
