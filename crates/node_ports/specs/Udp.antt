-- The state of UDP ports and the arrivals that they return. The behavior of a socket is not
-- specified.
use Rattle.std.specs.Prelude.{◌≡◌, ◌≢◌, ℕ, ◌+◌, ◌<◌, ◌≤◌, ◌==◌, ◌⊎◌, Bool, true, List, [], length, take, Option, None, Some, nat_le, if◌then◌else◌}
use Rattle.std.specs.declared.net.socket_addr.SocketAddr.{SocketAddr}
use Rattle.forwarder.specs.declared.event.Scope.{Scope}
use Rattle.forwarder.specs.declared.event.Scope.TheVariants.{Local, Far}
use Rattle.node_ports.specs.declared.ports.TheConstants.{FRAME_ROOM}
use Rattle.forwarder.specs.declared.event.Event.TheVariants.{Packet, FaceUp, FaceDown, Tick, NewRules}
use Rattle.node_ports.specs.Ports.{Arrival}
use Rattle.face_table.specs.declared.clients.Client.{Client}
use Rattle.face_table.specs.declared.link.Link.TheVariants.{Udp}
use Rattle.face_table.specs.declared.table.Met.TheVariants.{Face, Opening, Closing}
use Rattle.face_table.specs.Clients.{MayHear}
use Rattle.face_table.specs.Table.{Meets, TableState, idle_after, place_among, table_of, with_clients}
use Rattle.node_ports.specs.Step.{one_more}

-- a datagram that was received, but whose arrival was not yet returned
pub record Datagram : Type 0 where
  pub endpoint : SocketAddr
  -- the face that the datagram is for, or None if the face is not yet decided
  pub face : Option ℕ
  pub octets : List ℕ

pub record UdpState : Type 0 where
  -- the endpoints with faces
  pub known : TableState
  -- the number of peers' faces that are already opened
  pub opened : ℕ
  -- the faces of the first `local` peers are Local, and the faces of the other peers are Far
  pub local : ℕ
  -- the datagram that waits for the next turn, or None if no datagram waits
  pub waiting : Option Datagram
  -- the time that the clock returned most recently
  pub told : ℕ
  -- whether datagrams from endpoints that are not peers are accepted
  pub accepts_strangers : Bool
  -- the number of datagrams that were dropped because their endpoints are not peers, at most the
  -- greatest u64
  pub strangers : ℕ
  -- the number of failed calls of `next` and `send`, at most the greatest u64
  pub failures : ℕ

-- the state of the ports before the first arrival, if faces do not close and datagrams from
-- endpoints that are not peers are accepted
abbrev pub bound_to : List SocketAddr → ℕ → ℕ → UdpState
bound_to peers local told = record {
  known = table_of peers;
  opened = 0;
  local = local;
  waiting = None;
  told = told;
  accepts_strangers = true;
  strangers = 0;
  failures = 0;
}

-- the same ports, where the idle time after which faces close is set to `idle`
abbrev pub closes_after : ℕ → UdpState → UdpState
closes_after idle ports = record ports { known = idle_after idle ports.known }

abbrev pub scope_of_face : ℕ → ℕ → Scope
scope_of_face local face = if nat_le face local then Local else Far

-- the endpoint `endpoint` of a waiting datagram, if the datagram is for the face `face`; None, if
-- the datagram is for another face, or if its face is not yet decided
abbrev pub waiting_for : ℕ → SocketAddr → Option ℕ → Option SocketAddr
waiting_for face endpoint None = None
waiting_for face endpoint (Some other) = if other == face then Some endpoint else None

abbrev pub waiting_at : ℕ → Option Datagram → Option SocketAddr
waiting_at face None = None
waiting_at face (Some datagram) = waiting_for face datagram.endpoint datagram.face

-- every peer's face is opened
abbrev pub HasOpened : UdpState → Type 0
HasOpened before = before.opened ≡ length before.known.peers

-- the face of the next peer opens; the faces of the first `local` peers are Local, and the faces of
-- the other peers are Far
abbrev pub OpensPeer : UdpState → UdpState → Arrival → Type 0
OpensPeer before after (FaceUp face scope now) =
    (before.opened < length before.known.peers) × (face ≡ before.opened + 1)
    × (scope ≡ scope_of_face before.local face)
    × (after ≡ record before { opened = face; told = now })
OpensPeer before after (Packet face now len) = ⊥
OpensPeer before after (FaceDown face now) = ⊥
OpensPeer before after (Tick now) = ⊥
OpensPeer before after (NewRules renewal now) = ⊥

-- The face of the waiting datagram was decided in an earlier turn, and now the datagram arrives on
-- this face, truncated to the length of the buffer. If the endpoint of the datagram is a client,
-- the time of the last datagram from this client becomes `now`.
abbrev pub GivesWaiting : UdpState → UdpState → List ℕ → Arrival → Type 0
GivesWaiting before after buffer (Packet face now len) =
    (endpoint : SocketAddr) × (octets : List ℕ) × (rows : List Client) × HasOpened before
    × (before.waiting ≡ Some (record { endpoint = endpoint; face = Some face; octets = octets }))
    × (take len buffer ≡ take (length buffer) octets)
    × MayHear before.known.clients.rows rows (Udp endpoint) now
    × (after ≡ record before {
      known = with_clients before.known rows;
      waiting = None;
      told = now;
    })
GivesWaiting before after buffer (FaceUp face scope now) = ⊥
GivesWaiting before after buffer (FaceDown face now) = ⊥
GivesWaiting before after buffer (Tick now) = ⊥
GivesWaiting before after buffer (NewRules renewal now) = ⊥

-- a waiting datagram, truncated to 9,001 octets
abbrev pub kept : SocketAddr → Option ℕ → List ℕ → Datagram
kept endpoint face datagram = record {
  endpoint = endpoint;
  face = face;
  octets = take FRAME_ROOM datagram;
}

-- What is done with a datagram from this endpoint, as `Meets` states. The node answers as `Answers`
-- allows whether it has something for a face. `Packet`: the datagram arrives on the face of the
-- endpoint, truncated to the length of the buffer. `FaceUp`: the datagram waits while a face opens.
-- `FaceDown`: the datagram waits while the face of a client closes. The client whose face closes
-- may be this endpoint.
abbrev pub Brings : (ℕ → Bool → Type 0) → UdpState → UdpState → SocketAddr → List ℕ → List ℕ
    → Arrival → Type 0
Brings Answers before after endpoint datagram buffer (Packet face now len) =
    (known : TableState) × Meets before.known known (Udp endpoint) now Answers (Face face)
    × (take len buffer ≡ take (length buffer) datagram)
    × (after ≡ record before { known = known; waiting = None; told = now })
Brings Answers before after endpoint datagram buffer (FaceUp face scope now) =
    (known : TableState) × Meets before.known known (Udp endpoint) now Answers (Opening face)
    × (scope ≡ Far)
    × (after ≡ record before {
      known = known;
      waiting = Some (kept endpoint (Some face) datagram);
      told = now;
    })
Brings Answers before after endpoint datagram buffer (FaceDown face now) =
    (known : TableState) × Meets before.known known (Udp endpoint) now Answers (Closing face)
    × (after ≡ record before {
      known = known;
      waiting = Some (kept endpoint None datagram);
      told = now;
    })
Brings Answers before after endpoint datagram buffer (Tick now) = ⊥
Brings Answers before after endpoint datagram buffer (NewRules renewal now) = ⊥

-- every peer's face is opened, and no datagram waits
abbrev pub Listens : UdpState → Type 0
Listens before = HasOpened before × (before.waiting ≡ None)

-- datagrams from this endpoint are accepted: the endpoint is a peer, or datagrams from endpoints
-- that are not peers are accepted too
abbrev pub IsAccepted : UdpState → SocketAddr → Type 0
IsAccepted before endpoint =
    (before.accepts_strangers ≡ true) ⊎ (place_among before.known.peers endpoint ≢ None)

-- Datagrams from endpoints that are not peers may have been dropped and counted, and nothing else
-- changed. If datagrams from endpoints that are not peers are accepted, no datagram was dropped.
pub record DropsStrangers (before after : UdpState) : Type 0 where
  pub count : ℕ
  pub is : after ≡ record before { strangers = count }
  pub more : before.strangers ≤ count
  pub none : before.accepts_strangers ≡ true → count ≡ before.strangers

-- Every peer's face was opened, and no datagram waited. A datagram from an accepted endpoint was
-- received into the start of the buffer and is handled (`Brings`). Datagrams from endpoints that
-- are not accepted may have been dropped before.
abbrev pub GivesReceived : (ℕ → Bool → Type 0) → UdpState → UdpState → List ℕ → Arrival → Type 0
GivesReceived Answers before after buffer arrival =
    Listens before × ((mid : UdpState) × (endpoint : SocketAddr) × (len : ℕ)
    × DropsStrangers before mid × IsAccepted mid endpoint
    × Brings Answers mid after endpoint (take len buffer) buffer arrival)

-- Every peer's face was opened, no datagram waited, and receiving failed. The failure was counted.
-- Datagrams from endpoints that are not accepted may have been dropped before.
abbrev pub FailsReceiving : UdpState → UdpState → Type 0
FailsReceiving before after =
    Listens before × ((mid : UdpState) × DropsStrangers before mid
    × (after ≡ record mid { failures = one_more mid.failures }))

-- every peer's face was opened, and the datagram that waited while a face closed is handled
-- (`Brings`)
abbrev pub BringsAfterClosing : (ℕ → Bool → Type 0) → UdpState → UdpState → List ℕ → Arrival
    → Type 0
BringsAfterClosing Answers before after buffer arrival =
    (endpoint : SocketAddr) × (octets : List ℕ) × HasOpened before
    × (before.waiting ≡ Some (record { endpoint = endpoint; face = None; octets = octets }))
    × Brings Answers before after endpoint octets buffer arrival

-- The ports return this arrival, and `after` is their state afterwards. The arrival opens the face
-- of a peer, or is due to a datagram that waited or was received.
abbrev pub UdpGives : (ℕ → Bool → Type 0) → UdpState → UdpState → List ℕ → Arrival → Type 0
UdpGives Answers before after buffer arrival =
    OpensPeer before after arrival
    ⊎ (GivesWaiting before after buffer arrival
    ⊎ (BringsAfterClosing Answers before after buffer arrival
    ⊎ GivesReceived Answers before after buffer arrival))
