-- What a node, and the connections of its faces, have for these faces.
use Rattle.std.specs.Prelude.{◌≡◌, ◌↔◌, ℕ, Bool, ◌⊎◌, ◌==◌, List, [], find, Option, None, Some, IsTrue}
use Rattle.forwarder.specs.Node.{NodeState}
use Rattle.ndn_streams.specs.Connection.{ConnectionState, IsDone}
use Rattle.node_ports.specs.Holdings.{NodeAnswers}
use Rattle.net_ports.specs.declared.faces.ConnectedFace.{ConnectedFace}

-- the connection may have a packet, or has octets to write
abbrev pub IsBusyNow : ConnectionState → Type 0
IsBusyNow c =
    (IsTrue c.is_ready ⊎ (IsDone c ⊎ ¬ (c.stream.came ≡ []))) ⊎ ¬ (c.stream.queue.waiting ≡ [])

abbrev pub IsBusyOf : Option ConnectedFace → Type 0
IsBusyOf None = ⊥
IsBusyOf (Some held) = IsBusyNow held.connection

-- the connection with this face is busy: it may have a packet, or has octets to write
abbrev pub IsBusy : List ConnectedFace → ℕ → Type 0
IsBusy faces face = IsBusyOf (find (λ held. held.face == face) faces)

-- `told` is an answer to the question whether a node and its connections have something for this
-- face: the node tells so, or the connection with this face is busy
abbrev pub AnswersOrBusy : NodeState → List ConnectedFace → ℕ → Bool → Type 0
AnswersOrBusy node faces face told =
    (answer : Bool) × NodeAnswers node face answer
    × (IsTrue told ↔ (IsTrue answer ⊎ IsBusy faces face))
