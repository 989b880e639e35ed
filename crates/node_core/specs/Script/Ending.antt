-- How a run of a script ends. The definitions relate the events that were handled to the octets of
-- the reader and to the octets of the writer, before and after the run, if these octets are known.
use Rattle.std.specs.Prelude.{◌≡◌, ℕ, Option, IfSome, List, ◌++◌}
use Rattle.std.specs.Io.KnownBytes.{Appends, Consumes, Keeps, IsAtEnd}
use Rattle.forwarder.specs.Event.{PlainEvent}
use Rattle.forwarder.specs.Node.{NodeState}
use Rattle.node_core.specs.Script.{IsScript, BeginsWithEvents, IsScriptSoFar, IsBadAt, IsTextOfRun}
use Rattle.forwarder.specs.declared.node.NodeFault.TheVariants as node
use Rattle.node_core.specs.declared.script.RunFault.{RunFault}
use Rattle.node_core.specs.declared.script.RunFault.TheVariants as fault

-- a prefix of these octets, possibly empty, was appended to `old`; nothing is stated if `old` is
-- not known (None)
abbrev pub AppendsFront : Option (List ℕ) → Option (List ℕ) → List ℕ → Type 0
AppendsFront old new octets =
    (front back : List ℕ) × (octets ≡ front ++ back) × Appends old new front

-- this fault may occur in a run whose node has valid parts; if creating such a node fails, the
-- fault of the node is `Memory`
abbrev pub ComesWithGoodParts : RunFault → Type 0
ComesWithGoodParts (fault.Node f) = f ≡ node.Memory
ComesWithGoodParts (fault.BadLine n) = Unit {0}
ComesWithGoodParts fault.Read = Unit {0}
ComesWithGoodParts fault.Write = Unit {0}
ComesWithGoodParts fault.Memory = Unit {0}

-- The script was read to its end, and the text of the outcomes of its events was written. The
-- octets that the reader still has to read are `unread` before and `left` afterwards. If they are
-- not known (None), nothing is stated about what was read. The octets of the writer are `held`
-- before and `holds` afterwards. If they are not known (None), nothing is stated about what was
-- written.
abbrev pub Ends : NodeState → Option (List ℕ) → Option (List ℕ) → Option (List ℕ)
    → Option (List ℕ) → Type 0
Ends first unread left held holds =
    (events : List PlainEvent) × (text : List ℕ) × IsTextOfRun first events text
    × Appends held holds text × IfSome unread (λ script. IsScript script events) × IsAtEnd left

-- What was written before the fault. If the octets of the reader or of the writer are not known
-- (None), nothing is stated about these octets. `BadLine`: the answers to the lines before the
-- first bad line were written. `Read`: for all whole lines among the octets that were read, the
-- answers were written. `Write` and `Memory`: for some lines at the beginning of the script, zero
-- or more of them, a prefix of the text of the answers to these lines was written. `Node`: nothing
-- was read or written.
abbrev pub Stops : NodeState → RunFault → Option (List ℕ) → Option (List ℕ) → Option (List ℕ)
    → Option (List ℕ) → Type 0
Stops first (fault.BadLine n) unread left held holds =
    (events : List PlainEvent) × (text : List ℕ) × IsTextOfRun first events text
    × Appends held holds text × IfSome unread (λ script. IsBadAt script n events)
Stops first fault.Read unread left held holds =
    (events : List PlainEvent) × (text front : List ℕ) × IsTextOfRun first events text
    × Appends held holds text × Consumes unread left front × IsScriptSoFar front events
Stops first fault.Write unread left held holds =
    (events : List PlainEvent) × (text : List ℕ) × IsTextOfRun first events text
    × AppendsFront held holds text × IfSome unread (λ script. BeginsWithEvents script events)
Stops first fault.Memory unread left held holds =
    (events : List PlainEvent) × (text : List ℕ) × IsTextOfRun first events text
    × AppendsFront held holds text × IfSome unread (λ script. BeginsWithEvents script events)
Stops first (fault.Node _) unread left held holds = Keeps unread left × Keeps held holds
