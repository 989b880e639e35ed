-- The text of turns, and when it is written.
use Rattle.std.specs.Prelude.{◌≡◌, ◌⊎◌, ◌+◌, ◌<◌, ◌≤◌, ℕ, Bool, true, false, Option, Some, Result, Ok, Err, List, [], ◌∷◌, ◌++◌, codes, string_bytes, ⊤}
use Rattle.std.specs.Io.KnownBytes.{Appends}
use Rattle.std.specs.List.{flat_map}
use Rattle.info_rules.specs.Rule.{PlainRule}
use Rattle.node_ports.specs.declared.serving.Turn.{Turn}
use Rattle.node_ports.specs.declared.serving.Turn.TheVariants.{Done, Refused, Unwritten, End}
use Rattle.node_ports.specs.declared.serving.ServeFault.{ServeFault}
use Rattle.node_ports.specs.declared.serving.ServeFault.TheVariants as serve
use Rattle.forwarder.specs.declared.node.NodeFault.TheVariants.{Memory as NodeMemory}
use Rattle.node_core.specs.declared.script.RunFault.TheVariants.{Memory, Node, Write}
use Rattle.node_core.specs.Event.{Send}
use Rattle.node_core.specs.Node.{NodeState}
use Rattle.node_ports.specs.Serving.{Serves, ServesAll, FailsToWrite, EndsAfter, StopsServing, end_steps}
use Rattle.node_ports.specs.Step.{PortStep, FailedNext}
use Rattle.node_core.specs.Script.Ending.{AppendsFront}
use Rattle.node_core.specs.Script.Writing.{numbered_line, script_text, send_text, verdict_text}
use Rattle.node_core.specs.Verdict.{verdict_of}
use Rattle.ndn_daemon.specs.declared.fault.Fault.{Fault}
use Rattle.ndn_daemon.specs.declared.fault.Fault.TheVariants.{Script, Unbound, UnboundTcp, UnboundUnix, UnboundWebSocket, Unreceived, Journal}
use Rattle.ndn_daemon.specs.declared.fault.JournalFault.TheVariants as journal
use Rattle.ndn_daemon.specs.declared.udp_options.UdpOptions.{UdpOptions}
use Rattle.ndn_daemon.specs.Options.{MayBePath}
use Rattle.ndn_daemon.specs.UdpOptions.{Connects}

-- The text of a turn in the format of the answers to a script. The text begins with a line with the
-- verdict. If memory ran out, the line has the word `memory` in place of the verdict. One line for
-- each send follows. If no event came, or the event could not be journalled, the text is empty.
abbrev pub turn_text : ℕ → List PlainRule → Turn → List Send → List ℕ
turn_text number rules (Done verdict failed) sends =
    numbered_line number (verdict_text rules (verdict_of verdict)) ++ flat_map send_text sends
turn_text number rules Refused sends =
    numbered_line number (codes "memory") ++ flat_map send_text sends
turn_text number rules Unwritten sends = []
turn_text number rules End sends = []

-- `events` is the number of events that arrived, and each event had an outcome, in these steps;
-- `text` is the text of these outcomes, in the format of the answers to a script
pub record Tells (has : Bool) (old new : NodeState) (events : ℕ) (steps : List PortStep)
    (text : List ℕ) : Type 0 where
  pub refused : ℕ
  pub failed : ℕ
  pub serves : Serves has old new events refused failed steps
  pub text_is : text ≡ script_text old.policy.rules serves.arrivals serves.outcomes

-- Each turn had an event, or the port ended and there were fewer events than turns. If the octets
-- of the writer are known, the text of all events was appended to these octets.
abbrev pub TakesTurns : Bool → NodeState → NodeState → ℕ → List PortStep → Option (List ℕ)
    → Option (List ℕ) → Type 0
TakesTurns has old new turns steps held holds =
    (events : ℕ) × (ended : Bool) × (before : List PortStep) × (text : List ℕ)
    × Tells has old new events before text × EndsAfter turns ended events
    × (steps ≡ before ++ end_steps ended) × Appends held holds text

-- What happened before the fault `why`. `Unreceived`: the text of the earlier events was written,
-- and then the call for the next arrival failed. `Write`: a prefix of the text of the events was
-- written. `Memory`: there was no memory for the text of the last event, and the text of the
-- earlier events was written. `Journal`: the last event could not be journalled, and a prefix of
-- the text of the earlier events was written. The octets of the writer are `held` before and
-- `holds` afterwards. If they are not known (None), nothing is stated about what was written.
abbrev pub StopsTurns : Bool → NodeState → NodeState → ℕ → List PortStep → Option (List ℕ)
    → Option (List ℕ) → Fault → Type 0
StopsTurns has old new turns steps held holds Unreceived =
    (events : ℕ) × (before : List PortStep) × (text : List ℕ)
    × Tells has old new events before text × (steps ≡ before ++ (FailedNext ∷ []))
    × (events < turns) × Appends held holds text
StopsTurns has old new turns steps held holds (Script Write) =
    (events : ℕ) × (ended : Bool) × (before : List PortStep) × (text : List ℕ)
    × Tells has old new events before text × (steps ≡ before ++ end_steps ended)
    × (events ≤ turns) × AppendsFront held holds text
StopsTurns has old new turns steps held holds (Script Memory) =
    (last : NodeState) × (events : ℕ) × (before turn : List PortStep) × (text line : List ℕ)
    × Tells has old last events before text × Tells has old new (events + 1) steps (text ++ line)
    × (steps ≡ before ++ turn) × (events < turns) × Appends held holds text
StopsTurns has old new turns steps held holds (Journal journal.Unwritten) =
    (last : NodeState) × (events : ℕ) × (before turn : List PortStep) × (text : List ℕ)
    × Tells has old last events before text × FailsToWrite has last new turn
    × (steps ≡ before ++ turn) × (events < turns) × AppendsFront held holds text
StopsTurns has old new turns steps held holds why = ⊥

-- A prefix of the buffered text `gathered` was written, and `left` is the remaining text. The
-- octets of the writer are `held` before and `holds` afterwards. If they are not known (None),
-- nothing is stated about what was written.
abbrev pub Writes : Option (List ℕ) → Option (List ℕ) → List ℕ → List ℕ → Type 0
Writes held holds gathered left =
    (front : List ℕ) × (gathered ≡ front ++ left) × Appends held holds front

-- What happened in a turn before the fault `why`. `Unreceived`: the buffered text was written, and
-- then the call for the next arrival failed. `Write`: a prefix of the buffered text was written,
-- and no turn was taken. `Journal`: the event of the turn could not be journalled, and a prefix of
-- the buffered text was written. The octets of the writer are `held` before and `holds` afterwards.
-- If they are not known (None), nothing is stated about what was written.
abbrev pub StopsTurn : Bool → NodeState → NodeState → List PortStep → Option (List ℕ)
    → Option (List ℕ) → List ℕ → Fault → Type 0
StopsTurn has old new steps held holds gathered Unreceived =
    (new ≡ old) × (steps ≡ FailedNext ∷ []) × Appends held holds gathered
StopsTurn has old new steps held holds gathered (Script Write) =
    (new ≡ old) × (steps ≡ []) × AppendsFront held holds gathered
StopsTurn has old new steps held holds gathered (Journal journal.Unwritten) =
    FailsToWrite has old new steps × AppendsFront held holds gathered
StopsTurn has old new steps held holds gathered why = ⊥

-- each turn had an event, or the port ended and there were fewer events than turns
abbrev pub ServesTurns : Bool → NodeState → NodeState → ℕ → List PortStep → Type 0
ServesTurns has old new turns steps =
    (events refused failed : ℕ) × (ended : Bool)
    × ServesAll has old new events refused failed ended steps × EndsAfter turns ended events

-- the fault of the program for this `ServeFault`
abbrev pub fault_of : ServeFault → Fault
fault_of (serve.Next events) = Unreceived
fault_of (serve.Journal events) = Journal journal.Unwritten

-- the node stopped with the fault `why` after zero or more events, but fewer than `turns` events:
-- the call for the next arrival failed, or the event that arrived could not be journalled
abbrev pub StopsQuietTurns : Bool → NodeState → NodeState → ℕ → List PortStep → Fault → Type 0
StopsQuietTurns has old new turns steps why =
    (stop : ServeFault) × StopsServing has old new turns steps stop × (why ≡ fault_of stop)

-- How the turns of a node ended, and what they did before: the turns of a node that prints its
-- answers (`false`), or of a quiet node (`true`), which writes nothing.
abbrev pub EndsAs : Bool → Bool → NodeState → NodeState → ℕ → List PortStep → Option (List ℕ)
    → Option (List ℕ) → Result (Unit {0}) Fault → Type 0
EndsAs false has old new turns steps held holds (Ok done) =
    TakesTurns has old new turns steps held holds
EndsAs false has old new turns steps held holds (Err why) =
    StopsTurns has old new turns steps held holds why
EndsAs true has old new turns steps held holds (Ok done) =
    ServesTurns has old new turns steps × (holds ≡ held)
EndsAs true has old new turns steps held holds (Err why) =
    StopsQuietTurns has old new turns steps why × (holds ≡ held)

-- why a node that takes its turns on a bound port stops with a fault: no datagram can be received,
-- an answer cannot be written, memory for printing an answer ran out, or an event could not be
-- journalled
abbrev pub EndsTurns : Fault → Type 0
EndsTurns Unreceived = ⊤
EndsTurns (Script Write) = ⊤
EndsTurns (Script Memory) = ⊤
EndsTurns (Journal journal.Unwritten) = ⊤
EndsTurns why = ⊥

-- why a node with valid parts and these options takes no turns: an endpoint or the path of the Unix
-- socket cannot be bound, the system cannot wait for the sockets, or memory ran out when the node
-- was created
abbrev pub HasNoTurns : UdpOptions → Fault → Type 0
HasNoTurns options (Unbound endpoint) = endpoint ≡ options.listen
HasNoTurns options (UnboundTcp endpoint) = options.tcp ≡ Some endpoint
HasNoTurns options (UnboundUnix path) = MayBePath (Some (string_bytes path)) options.unix
HasNoTurns options (UnboundWebSocket endpoint) = options.websocket ≡ Some endpoint
HasNoTurns options Unreceived = Connects options
HasNoTurns options (Script (Node why)) = why ≡ NodeMemory
HasNoTurns options why = ⊥

-- why a node with valid parts and these options stops: it takes no turns (`HasNoTurns`), or it
-- stops with a fault after its sockets were bound (`EndsTurns`)
abbrev pub StopsAt : UdpOptions → Fault → Type 0
StopsAt options why = HasNoTurns options why ⊎ EndsTurns why
