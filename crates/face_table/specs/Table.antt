-- The links that have faces, and what is done with what arrives from a link: it arrives on the
-- link's face, a face opens for the link, or the face of a client closes first. The client whose
-- face closes may be the link's own.
use Rattle.std.specs.Prelude.{◌≡◌, ℕ, ◌+◌, ◌-◌, ◌<◌, ◌⊎◌, ◌==◌, List, [], ◌∷◌, ◌++◌, All, find, length, min, option_map, position, remove, slice_get, unwrap_or, Option, None, Some, IsTrue, if◌then◌else◌, Bool}
use Rattle.std.specs.Option.{option_and_then, option_or}
use Rattle.std.specs.declared.net.socket_addr.SocketAddr.{SocketAddr}
use Rattle.face_table.specs.declared.peers.TheConstants.{MAX_FACES}
use Rattle.face_table.specs.declared.clients.Client.{Client}
use Rattle.face_table.specs.declared.link.Link.{Link}
use Rattle.face_table.specs.declared.link.Link.TheVariants.{Udp}
use Rattle.face_table.specs.declared.table.Met.{Met}
use Rattle.face_table.specs.declared.table.Met.TheVariants.{Face, Opening, Closing}
use Rattle.face_table.specs.Link.{heard_at, is_at, is_endpoint, is_local, udp_endpoint}
use Rattle.face_table.specs.Clients.{AreAnswers, ClientsState, far_count, MayGiveWay, NoneMayGiveWay, Hears, HearsInTime, IsIdle, IsNoClient, IsSilentLongest, IsSilentLongestOf}

pub record TableState : Type 0 where
  -- the endpoints of the peers, which have the faces 1, 2 and so on
  pub peers : List SocketAddr
  pub clients : ClientsState
  -- the number of places, of the 64, that Far faces of clients leave to peers and to Local links
  pub spare : ℕ
  -- the number of the next face to open
  pub next : ℕ
  -- The face number of all links that are not stored because no place is left. It becomes None
  -- whenever a face opens for a new client, and remains None until such a link is met.
  pub refused : Option ℕ

-- the table with these peers, which has no clients, no idle time and no spare places
abbrev pub table_of : List SocketAddr → TableState
table_of peers = record {
  peers = peers;
  clients = record { rows = []; idle = None };
  spare = 0;
  next = length peers + 1;
  refused = None;
}

-- the table, where the idle time is set to `idle`
abbrev pub idle_after : ℕ → TableState → TableState
idle_after idle table = record table { clients = record table.clients { idle = Some idle } }

-- the number of links with faces
abbrev pub known_count : TableState → ℕ
known_count table = length table.peers + length table.clients.rows

-- A face may open for this link: fewer than 64 links have faces, and if the face is Far, clients
-- with Far faces leave more than `spare` places free for other faces.
abbrev pub HasPlace : TableState → Link → Type 0
HasPlace table link =
    (known_count table < MAX_FACES)
    × (IsTrue (is_local link) ⊎ (far_count table.clients.rows < MAX_FACES - table.spare))

-- the endpoint of the peer with this face, or None if no peer has this face; the faces of the peers
-- have the numbers 1, 2 and so on
abbrev pub peer_at : List SocketAddr → ℕ → Option SocketAddr
peer_at peers face = if face == 0 then None else slice_get peers (face - 1)

-- the link of the peer or client with this face, or None if nothing has this face
abbrev pub link_at : TableState → ℕ → Option Link
link_at table face = option_or (option_map Udp (peer_at table.peers face))
    (option_map (λ (client : Client). client.link)
    (find (λ client. client.face == face) table.clients.rows))

-- the UDP endpoint of the peer or client with this face; None if no UDP endpoint has this face
abbrev pub endpoint_at : TableState → ℕ → Option SocketAddr
endpoint_at table face = option_and_then udp_endpoint (link_at table face)

-- the index of the first peer with this endpoint, or None if no peer has this endpoint
abbrev pub place_among : List SocketAddr → SocketAddr → Option ℕ
place_among peers endpoint = position (is_endpoint endpoint) peers

-- the index of the first peer with this link, or None if the link is no peer's
abbrev pub peer_place : Link → TableState → Option ℕ
peer_place link table = option_and_then (place_among table.peers) (udp_endpoint link)

-- the table, where the list of clients is replaced by `rows`
abbrev pub with_clients : TableState → List Client → TableState
with_clients table rows = record table { clients = record table.clients { rows = rows } }

-- The link has this face. The faces of the peers have the numbers 1, 2 and so on. If the link is a
-- client's, something has arrived from the client at `now`.
abbrev pub Knows : TableState → TableState → Link → ℕ → ℕ → Type 0
Knows before after link now face =
    ((place : ℕ) × (peer_place link before ≡ Some place) × (face ≡ place + 1)
    × (after ≡ before))
    ⊎ ((rows : List Client) × (peer_place link before ≡ None)
    × Hears before.clients.rows rows link now face × (after ≡ with_clients before rows))

-- the link has no face
abbrev pub IsNewcomer : TableState → Link → Type 0
IsNewcomer before link = (peer_place link before ≡ None) × IsNoClient before.clients.rows link

-- the number after a face's number, at most the greatest u64
abbrev pub number_after : ℕ → ℕ
number_after face = min (face + 1) 0xffff_ffff_ffff_ffff

-- the face with the next number opens for the link, which becomes a client from which something
-- arrived at `now`
abbrev pub OpensNew : TableState → TableState → Link → ℕ → ℕ → Type 0
OpensNew before after link now face =
    (face ≡ before.next)
    × (after ≡ record (with_clients before
    (before.clients.rows
    ++ (record { link = link; face = face; heard = heard_at link now } ∷ []))) {
      next = number_after face;
      refused = None;
    })

-- The link gets the face number `face`, but is not stored as a client. All links that are not
-- stored get the same face number until a face opens for a new client.
abbrev pub OpensNone : TableState → TableState → ℕ → Type 0
OpensNone before after face =
    (face ≡ unwrap_or before.refused before.next)
    × (after ≡ record before { next = number_after face; refused = Some face })

-- the face of `client`, which is at the index `place`, closes; the clients in `after` are `rows`
-- without this client
abbrev pub Closes : TableState → List Client → TableState → ℕ → Client → ℕ → Type 0
Closes before rows after place client face =
    (face ≡ client.face) × (after ≡ with_clients before (remove rows place))

-- no client is idle (`IsIdle`) at the time `now`
abbrev pub NoneIsIdle : TableState → ℕ → Type 0
NoneIsIdle before now =
    All (λ client. IsIdle before.clients.idle now client → ⊥) before.clients.rows

-- What is done with what arrives from `link`. The node answers as `Answers` allows whether it has
-- something for a face. If a client is idle, the face of the client that has been silent longest
-- closes, whatever `link` is. If a client is idle, and the link is another client's that is not
-- idle, something has arrived from that client at `now`. If no client is idle and the link has a
-- face, it arrives on this face. If no client is idle, the link has no face, and a place is left
-- (`HasPlace`), a face opens for the link. If no client is idle, the link has no face, no place is
-- left, and a client may give way (`MayGiveWay`) as the node told, then the face of the client
-- closes that has been silent longest of those that may. If no client is idle, the link has no
-- face, no place is left, and no client may give way, then no face closes, and the link gets a face
-- number but is not stored (`OpensNone`).
abbrev pub Meets : TableState → TableState → Link → ℕ → (ℕ → Bool → Type 0) → Met → Type 0
Meets before after link now Answers (Face face) =
    NoneIsIdle before now × Knows before after link now face
Meets before after link now Answers (Opening face) =
    NoneIsIdle before now × IsNewcomer before link
    × ((HasPlace before link × OpensNew before after link now face)
    ⊎ (¬ (HasPlace before link)
    × NoneMayGiveWay before.clients.idle now Answers before.clients.rows
    × OpensNone before after face))
Meets before after link now Answers (Closing face) =
    ((place : ℕ) × (client : Client) × (rows : List Client)
    × IsSilentLongest before.clients.rows place client × IsIdle before.clients.idle now client
    × HearsInTime before.clients.idle before.clients.rows rows link now
    × Closes before rows after place client face)
    ⊎ (NoneIsIdle before now × IsNewcomer before link × ¬ (HasPlace before link)
    × ((told : List Bool) × (place : ℕ) × (client : Client)
    × AreAnswers Answers before.clients.rows told
    × IsSilentLongestOf (MayGiveWay before.clients.idle now told) before.clients.rows place client
    × Closes before before.clients.rows after place client face))

-- The face of the client with this link closes, since its connection has ended.
abbrev pub Leaves : TableState → TableState → Link → ℕ → Type 0
Leaves before after link face =
    (place : ℕ) × (client : Client)
    × (position (λ known. is_at link known.link) before.clients.rows ≡ Some place)
    × (slice_get before.clients.rows place ≡ Some client) × (face ≡ client.face)
    × (after ≡ with_clients before (remove before.clients.rows place))
