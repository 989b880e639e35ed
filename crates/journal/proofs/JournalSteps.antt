-- The effect of one step on the journal.
use Rattle.std.proofs.Common.{◌≡◌, ℕ, Bool, true, false, List, [], ◌++◌, refl, ap, subst}
use Rattle.std.specs.Prelude.{max}
use Rattle.std.proofs.lemmas.List.{append-nil}
use Rattle.forwarder.specs.Event.{PlainEvent, Send, moment}
use Rattle.forwarder.specs.Policy.{Policy}
use Rattle.forwarder.specs.Runs.{Run, Then, Stands}
use Rattle.forwarder.specs.Node.{NodeState}
use Rattle.forwarder.specs.Verdict.{Verdict}
use Rattle.node_core.specs.Script.LineWriter.{IsEventOf, WrittenEvent}
use Rattle.journal.specs.Journal.{IsJournalOf, with_event, with_moment}
use Rattle.journal.specs.Journalled.{is_journalled_by, is_journalled_where}
use Rattle.journal.specs.Appending.{Steps, is_journalled_written}
use Rattle.journal.specs.Text.{IsTextOf}
use Rattle.journal.proofs.LineTexts.{written_change}
use Rattle.journal.proofs.Texts.{texts_join}
use Rattle.journal.proofs.Verdicts.{step_grows}

pub by_written : (e : WrittenEvent) (event : PlainEvent) (v : Verdict) → IsEventOf e event → is_journalled_by event v ≡ is_journalled_written e v
by_written e event v is = ap (λ (changes : Bool). is_journalled_where changes v) (written_change e event is)

-- ---- a run's journal and its text

at_end : (chosen : Bool) (event : PlainEvent) (journal : List PlainEvent) → journal ++ with_event chosen event [] ≡ with_event chosen event journal
at_end true event journal = refl
at_end false event journal = append-nil journal

pub both_grow : (first : Policy) (past : Run) (old new : NodeState) (event : PlainEvent) (verdict : Verdict) (sends : List Send) (journal : List PlainEvent) (text added : List ℕ) → Stands first past old
    → IsJournalOf first past journal → IsTextOf journal text → Steps old event verdict sends new added
    → (longer : List PlainEvent) × IsJournalOf first (Then past event (record { verdict = verdict; sends = sends })) longer × IsTextOf longer (text ++ added)
both_grow first past old new event verdict sends journal text added stands is lines s =
    let chosen = is_journalled_by event verdict in
    let dated = with_moment (max old.policy.now (moment event)) event in (
      with_event chosen dated journal,
      step_grows first past old new event (record { verdict = verdict; sends = sends }) journal stands s.step is,
      subst (λ (events : List PlainEvent). IsTextOf events (text ++ added)) (at_end chosen dated journal) (texts_join journal (with_event chosen dated []) text added lines s.text),
    )
