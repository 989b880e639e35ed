-- What a run of the program does to all that is handed to it.
use Rattle.std.specs.Prelude.{◌≡◌, ◌⊎◌, ℕ, Bool, true, List, [], Option, None, Result, IsErr}
use Rattle.std.specs.Io.KnownBytes.{Appends}
use Rattle.forwarder.specs.Event.{PlainEvent}
use Rattle.forwarder.specs.Node.{NodeState}
use Rattle.journal.specs.declared.replaying.Replayed.{Replayed}
use Rattle.node_ports.specs.Journalled.{of_ports}
use Rattle.node_ports.specs.Renewal.{RenewalValue}
use Rattle.node_ports.specs.Restarted.{AreDoneRestarted}
use Rattle.node_ports.specs.Step.{PortStep, journalled}
use Rattle.ndn_daemon.specs.declared.fault.Fault.{Fault}
use Rattle.ndn_daemon.specs.Journal.{ReplaysJournal}
use Rattle.ndn_daemon.specs.Restart.{IsRestart}
use Rattle.ndn_daemon.specs.Turn.{EndsAs}
use Rattle.ndn_daemon.specs.Watched.{AreDoneWatched}

-- Without a journal, the node takes its turns in these steps. Each arrival is new rules of the
-- source, or exactly the next of the ports. All other steps are those of the ports. `left` is an
-- arrival that was taken from the ports and not handled.
pub record RunsAfresh {P S : Type 0} (does : P → List PortStep → P → Type 0)
    (renews : S → List RenewalValue → S → Type 0) (has quiet : Bool) (turns : ℕ) (p q : P)
    (s t : S) (old new : NodeState) (held holds : Option (List ℕ))
    (done : Result (Unit {0}) Fault) : Type 0 where
  pub steps : List PortStep
  pub left : Option PlainEvent
  pub goes : AreDoneWatched does renews p s None steps q t left
  pub ends : EndsAs quiet has old new turns steps held holds done

-- With a journal, the node is first restored from it. The events of the restart arrive first, and
-- then what arrives without a journal. If the text that the replay kept is known, what these steps
-- journal is appended to it. All other steps are those of the ports.
pub record RunsRestored {P S : Type 0} (does : P → List PortStep → P → Type 0)
    (renews : S → List RenewalValue → S → Type 0) (present : S → RenewalValue → Type 0)
    (quiet : Bool) (turns peers local : ℕ) (p q : P)
    (s t : S) (unread after : Option (List ℕ)) (old new : NodeState) (held holds : Option (List ℕ))
    (done : Result (Unit {0}) Fault) : Type 0 where
  pub begun : NodeState
  pub replayed : Replayed
  pub kept : Option (List ℕ)
  pub replays : ReplaysJournal unread kept old begun replayed
  pub renewal : RenewalValue
  pub is_present : present s renewal
  pub own : List PlainEvent
  pub restart : IsRestart kept renewal peers local begun own
  pub steps : List PortStep
  pub waits : List PlainEvent
  pub left : Option PlainEvent
  pub goes : AreDoneRestarted
      (λ (a : P × S × Option PlainEvent) taken b. AreDoneWatched does renews a.0 a.1 a.2 taken b.0
      b.1 b.2)
      (p, s, None) own (of_ports steps) (q, t, left) waits
  pub journal : Appends kept after (journalled steps)
  pub ends : EndsAs quiet true begun new turns steps held holds done

-- The node could not be restored: it took no turn and wrote no answer, and the source made nothing.
-- The journal is as before, and the node may have replayed some of it; or all of it was replayed.
abbrev pub FailsToRestore : {P S : Type 0} → (S → List RenewalValue → S → Type 0) → P → P → S → S
    → Option (List ℕ) → Option (List ℕ) → NodeState → NodeState → Option (List ℕ)
    → Option (List ℕ) → Result (Unit {0}) Fault → Type 0
FailsToRestore renews p q s t unread after old new held holds done =
    (q ≡ p) × renews s [] t × (holds ≡ held) × IsErr done
    × ((after ≡ unread) ⊎ ((replayed : Replayed) × ReplaysJournal unread after old new replayed))
