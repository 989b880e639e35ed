-- What a log shows of an arrival and of its outcome.
use Rattle.std.specs.Prelude.{◌≡◌, ℕ, Bool, List, max, take, Option, None, Some, Result, Ok, Err}
use Rattle.ndn_tlv.specs.declared.memory.Memory.{Memory}
use Rattle.forwarder.specs.declared.verdict.Verdict.{Verdict}
use Rattle.forwarder.specs.declared.event.Event.{Event}
use Rattle.forwarder.specs.declared.event.Event.TheVariants.{Packet, FaceUp, FaceDown, Tick, NewRules}
use Rattle.node_ports.specs.Ports.{Arrival}
use Rattle.node_ports.specs.declared.serving.Turn.{Turn}
use Rattle.node_ports.specs.declared.serving.Turn.TheVariants.{Done, Refused, Unwritten, End}
use Rattle.std.specs.declared.net.socket_addr.SocketAddr.{SocketAddr}
use Rattle.info_rules.specs.Rule.{PlainRule}
use Rattle.ndn_log.specs.Entry.{LoggedEvent}
use Rattle.ndn_log.specs.Event.{event_words}
use Rattle.ndn_log.specs.Limits.{LimitsState}
use Rattle.ndn_daemon.specs.EventLog.{NotesEvent}

-- an arrival without new rules and keys
abbrev pub Seen : Type 0
Seen = Event ℕ (Unit {0})

-- The arrival as a log shows it. Its time is not before the time `start` of the node's start: the
-- first events of a restart have the time of the journal's last line.
abbrev pub seen_in : ℕ → Arrival → Seen
seen_in start (Packet face now len) = Packet face (max now start) len
seen_in start (FaceUp face scope now) = FaceUp face scope (max now start)
seen_in start (FaceDown face now) = FaceDown face (max now start)
seen_in start (Tick now) = Tick (max now start)
seen_in start (NewRules renewal now) = NewRules tt (max now start)

-- `shown` is the arrival `seen`; the octets of a packet are the first `len` octets of the buffer,
-- or all octets of the buffer if it has fewer than `len` octets
abbrev pub IsLoggedOf : Seen → List ℕ → LoggedEvent → Type 0
IsLoggedOf (Packet face now len) buffer (Packet f t octets) =
    (f ≡ face) × (t ≡ now) × (octets.now ≡ take len buffer)
IsLoggedOf (FaceUp face scope now) buffer shown = shown ≡ FaceUp face scope now
IsLoggedOf (FaceDown face now) buffer shown = shown ≡ FaceDown face now
IsLoggedOf (Tick now) buffer shown = shown ≡ Tick now
IsLoggedOf (NewRules rules now) buffer shown = shown ≡ NewRules rules now
IsLoggedOf seen buffer shown = ⊥

abbrev pub face_of : LoggedEvent → Option ℕ
face_of (Packet face now octets) = Some face
face_of (FaceUp face scope now) = Some face
face_of (FaceDown face now) = Some face
face_of (Tick now) = None
face_of (NewRules rules now) = None

-- the outcome of an event, or `None` if the ports ended or the event could not be journalled
abbrev pub IsOutcomeOf : Turn → Option (Result Verdict Memory) → Type 0
IsOutcomeOf (Done verdict failed) outcome = outcome ≡ Some (Ok verdict)
IsOutcomeOf Refused outcome = (refused : Memory) × (outcome ≡ Some (Err refused))
IsOutcomeOf Unwritten outcome = outcome ≡ None
IsOutcomeOf End outcome = outcome ≡ None

-- An event was noted if it had an outcome (`NotesEvent`), with some endpoint of its face. Otherwise
-- the log is as before.
abbrev pub NotesOutcome : Seen → List ℕ → List PlainRule → Bool → List ℕ → LimitsState → ℕ → ℕ
    → Option (List ℕ) → Option (List ℕ) → Option (Result Verdict Memory) → Type 0
NotesOutcome seen octets rules shows_all text limits lost loses had has None =
    (has ≡ had) × (loses ≡ lost)
NotesOutcome seen octets rules shows_all text limits lost loses had has (Some outcome) =
    (event : LoggedEvent) × (endpoint : Option SocketAddr) × IsLoggedOf seen octets event
    × NotesEvent shows_all text limits lost loses had has event outcome
    (event_words rules (record { endpoint = endpoint; event = event }) outcome)

-- what a log has after a turn (`NotesOutcome`)
abbrev pub NotesTurn : Seen → Turn → List ℕ → List PlainRule → Bool → List ℕ → LimitsState → ℕ
    → ℕ → Option (List ℕ) → Option (List ℕ) → Type 0
NotesTurn seen turn octets rules shows_all text limits lost loses had has =
    (outcome : Option (Result Verdict Memory)) × IsOutcomeOf turn outcome
    × NotesOutcome seen octets rules shows_all text limits lost loses had has outcome
