-- The links of connections.
use Rattle.std.specs.Prelude.{◌≡◌, ◌↔◌, ℕ, Bool, false, IsTrue, Some}
use Rattle.std.specs.declared.net.socket_addr.SocketAddr.{SocketAddr}
use Rattle.face_table.specs.declared.link.Link.{Link}
use Rattle.face_table.specs.declared.link.Link.TheVariants.{Connection}
use Rattle.face_table.specs.Link.{IsLoopback}

-- the connection with this number over TCP, which is Local exactly if it comes from a loopback
-- address
abbrev pub IsOverTcp : ℕ → Link → Type 0
IsOverTcp number link =
    (remote : SocketAddr) × (local : Bool) × (link ≡ Connection number (Some remote) local)
    × (IsTrue local ↔ IsLoopback remote)

-- the connection with this number over WebSocket, which is Far
abbrev pub IsOverWebSocket : ℕ → Link → Type 0
IsOverWebSocket number link =
    (remote : SocketAddr) × (link ≡ Connection number (Some remote) false)
