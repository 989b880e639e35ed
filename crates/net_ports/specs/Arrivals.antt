-- The arrivals that are due to connections.
use Rattle.std.specs.Prelude.{◌≡◌, ℕ, List, Some, remove, slice_get, if◌then◌else◌, ⊤}
use Rattle.forwarder.specs.declared.event.Event.TheVariants.{Packet, FaceUp, FaceDown, Tick, NewRules}
use Rattle.forwarder.specs.declared.event.Scope.{Scope}
use Rattle.forwarder.specs.declared.event.Scope.TheVariants.{Local, Far}
use Rattle.face_table.specs.declared.link.Link.{Link}
use Rattle.face_table.specs.Link.{is_local}
use Rattle.ndn_streams.specs.Connection.{GivesPacket}
use Rattle.node_ports.specs.Ports.{Arrival}
use Rattle.net_ports.specs.declared.faces.ConnectedFace.{ConnectedFace}

-- the scope of the face of a link
abbrev pub scope_of : Link → Scope
scope_of link = if is_local link then Local else Far

-- a new connection with this link gets a face, whose scope is that of the link, or another face
-- closes before
abbrev pub Admits : Link → Arrival → Type 0
Admits link (FaceUp face scope now) = scope ≡ scope_of link
Admits link (FaceDown face now) = ⊤
Admits link (Packet face now len) = ⊥
Admits link (Tick now) = ⊥
Admits link (NewRules renewal now) = ⊥

-- The arrival is due to the connection with the face `held`, which is at the index `place`.
-- `Packet`: the next packet of the connection arrives on this face. `FaceDown`: this face closes,
-- and the connection is removed.
abbrev pub IsOf : ConnectedFace → ℕ → List ConnectedFace → List ConnectedFace → List ℕ → Arrival
    → Type 0
IsOf held place before after buffer (Packet face now len) =
    (face ≡ held.face) × ((left : ConnectedFace) × (slice_get after place ≡ Some left)
    × GivesPacket held.connection.stream left.connection.stream buffer len)
IsOf held place before after buffer (FaceDown face now) =
    (face ≡ held.face) × (after ≡ remove before place)
IsOf held place before after buffer (FaceUp face scope now) = ⊥
IsOf held place before after buffer (Tick now) = ⊥
IsOf held place before after buffer (NewRules renewal now) = ⊥
