-- The effect of replaying the text of a journal, and the policy that the replay restores.
use Rattle.std.specs.Prelude.{◌≡◌, ℕ, ◌+◌, Bool, true, false, Option, Some, IfSome, List, [], ◌∷◌, ◌++◌, length, map, take, ⊤}
use Rattle.std.specs.Io.KnownBytes.{Consumes}
use Rattle.forwarder.specs.Event.{PlainEvent}
use Rattle.forwarder.specs.Node.{NodeState}
use Rattle.forwarder.specs.Policy.{Policy}
use Rattle.forwarder.specs.Runs.{Run, Start, IsPolicyOf, IsRun, KeysAreApart, Stands}
use Rattle.forwarder.specs.Verdict.{Answer}
use Rattle.node_core.specs.Outcomes.{ExtendsRuns, Answered, AreOutcomes}
use Rattle.node_core.specs.Script.{AreLines, SpellEvents, ended, joined}
use Rattle.node_core.specs.Script.Line.{Lacks, IsBadLine}
use Rattle.journal.specs.declared.replaying.Replayed.{Replayed}
use Rattle.journal.specs.declared.replaying.ReplayFault.{ReplayFault}
use Rattle.journal.specs.declared.replaying.ReplayFault.TheVariants as fault
use Rattle.journal.specs.Journal.{AreOneFrom, IsJournalOf}
use Rattle.journal.specs.Text.{IsTextOf, Survives}

-- The events of these lines were answered in order and led from the old node to the new node. If
-- the old node agrees (`Stands`) with a valid run from a policy whose time is 0, then this run,
-- extended by the answered events, is valid, and the new node agrees with the extended run.
pub record Plays (lines : List (List ℕ)) (events : List PlainEvent)
    (old new : NodeState) : Type 0 where
  pub are_lines : AreLines lines
  pub say : SpellEvents lines events
  pub answers : List Answer
  pub handled : AreOutcomes old events (map Answered answers) new
  pub goes_on : ExtendsRuns old events (map Answered answers) new

-- Everything was read: whole lines, whose events were answered, and then octets without an LF,
-- which were ignored. If the unread octets of the reader are known, these unread octets were the
-- whole lines followed by the ignored octets, and no octet is left. `done` counts the events, the
-- octets of the whole lines, and the ignored octets.
pub record Replays (old new : NodeState) (unread left : Option (List ℕ))
    (done : Replayed) : Type 0 where
  pub lines : List (List ℕ)
  pub events : List PlainEvent
  pub cut : List ℕ
  pub plays : Plays lines events old new
  pub lacks : Lacks 10 cut
  pub had : IfSome unread (λ text. (text ≡ joined lines ++ cut) × (left ≡ Some []))
  pub events_is : done.events ≡ length events
  pub whole_is : done.whole ≡ length (joined lines)
  pub cut_is : done.cut ≡ length cut

-- A replay stopped with this fault, after the events of all lines before the fault were answered.
-- `BadLine`: line `n`, counted from 1, was bad. `Read`: the reader failed, or the journal has too
-- many lines. `Memory`: memory ran out for a line or for the step of the line's event. If the octets
-- of the reader were not known (None), nothing is stated about what was read.
abbrev pub StopsReplay : NodeState → NodeState → Option (List ℕ) → Option (List ℕ) → ReplayFault
    → Type 0
StopsReplay old new unread left (fault.BadLine n) =
    (lines : List (List ℕ)) × (events : List PlainEvent) × (line : List ℕ)
    × Plays lines events old new × Consumes unread left (joined lines ++ ended line)
    × Lacks 10 line × IsBadLine line × (n ≡ length lines + 1)
StopsReplay old new unread left fault.Read =
    (lines : List (List ℕ)) × (events : List PlainEvent) × (rest : List ℕ)
    × Plays lines events old new × Consumes unread left (joined lines ++ rest)
StopsReplay old new unread left fault.Memory =
    (lines : List (List ℕ)) × (events : List PlainEvent) × (rest : List ℕ)
    × Plays lines events old new × Consumes unread left (joined lines ++ rest)

-- What a replay restores if a crash left only the octets `left` of the text of a run's journal.
-- The whole lines of `left` are the text of the journal of a prefix of the run, as `Survives`
-- states. From the latest time of this prefix on, the node after the replay has the policy that the
-- prefix leads to. The node agrees (`Stands`) with a valid run, called `again`, and the text of the
-- journal of `again` is exactly the whole lines of `left`. So lines that are appended after the
-- whole lines continue the journal of `again`.
pub record Restores (first : Policy) (past : Run) (left : List ℕ) (done : Replayed)
    (new : NodeState) : Type 0 where
  pub survives : Survives first past left
  pub has_policy : AreOneFrom survives.keeps.policy.now new.policy survives.keeps.policy
  pub again : Run
  pub is_run : IsRun first again
  pub stands : Stands first again new
  pub keys : KeysAreApart first again
  pub is_journal : IsJournalOf first again survives.events
  pub is_text : IsTextOf survives.events (take done.whole left)

-- `Restores` is true for each run whose journal's text begins with `left`, if three conditions are
-- met. The run leads to a policy. No key book in the run has two keys of the same name. The old
-- node has not handled any event and has the run's first policy, whose time is 0.
abbrev pub RestoresRuns : NodeState → NodeState → List ℕ → Replayed → Type 0
RestoresRuns old new left done =
    (first p : Policy) (past : Run) (journal : List PlainEvent) (text lost : List ℕ)
    → first.now ≡ 0 → Stands first Start old → KeysAreApart first past → IsPolicyOf first past p
    → IsJournalOf first past journal → IsTextOf journal text → text ≡ left ++ lost
    → Restores first past left done new

-- ---- one line

-- replaying this line leads from the old node to the new node; the Bool tells whether the line
-- spells an event
abbrev pub PlaysLine : List ℕ → NodeState → NodeState → Bool → Type 0
PlaysLine line old new true = (event : PlainEvent) × Plays (line ∷ []) (event ∷ []) old new
PlaysLine line old new false = Plays (line ∷ []) [] old new

-- Why a line was not replayed; the node is unchanged. `BadLine`, with the number of the line: the
-- line is bad. `Memory`: memory ran out.
abbrev pub StopsLine : List ℕ → ℕ → NodeState → NodeState → ReplayFault → Type 0
StopsLine line number old new (fault.BadLine n) =
    IsBadLine line × (n ≡ number) × (new ≡ old)
StopsLine line number old new fault.Read = ⊥
StopsLine line number old new fault.Memory = new ≡ old

-- the fault is one that can occur when a line is read: `Read` (the reader failed) or `Memory`
-- (memory ran out)
abbrev pub IsReadFault : ReplayFault → Type 0
IsReadFault (fault.BadLine n) = ⊥
IsReadFault fault.Read = ⊤
IsReadFault fault.Memory = ⊤
