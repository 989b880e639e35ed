-- What a face leads to: a UDP endpoint, which is an IPv4 or IPv6 address with a port, or a
-- connection over TCP, a Unix socket or WebSocket. An endpoint with an IPv6 address also has a flow label and
-- a scope. The scope is the number of the link of a link-local address.
use Rattle.std.specs.Prelude.{ℕ, Bool, false, ◌==◌, Option, None, Some, if◌then◌else◌}
use Rattle.std.specs.Net.Addr.{IsLoopbackV4, IsLoopbackV6, MatchIp}
use Rattle.std.specs.Net.Socket.{socket_ip}
use Rattle.std.specs.declared.net.socket_addr.SocketAddr.{SocketAddr}
use Rattle.std.specs.contracts.net.socket_addr.SocketAddrPartialEq.TheImpl as socket
use Rattle.face_table.specs.declared.link.Link.{Link}
use Rattle.face_table.specs.declared.link.Link.TheVariants.{Udp, Connection}

-- the address is a loopback address, with which other machines cannot communicate: 127.0.0.0/8 or
-- ::1
abbrev pub IsLoopback : SocketAddr → Type 0
IsLoopback endpoint = MatchIp (socket_ip endpoint) IsLoopbackV4 IsLoopbackV6

-- whether the endpoints `known` and `endpoint` are equal, as the operator `==` decides
abbrev pub is_endpoint : SocketAddr → SocketAddr → Bool
is_endpoint endpoint known = (socket.ghosts).eq known endpoint

-- whether the links `known` and `link` are equal: the same UDP endpoint, or connections with the
-- same number
abbrev pub is_at : Link → Link → Bool
is_at (Udp endpoint) (Udp known) = is_endpoint endpoint known
is_at (Udp endpoint) (Connection number remote local) = false
is_at (Connection number remote local) (Udp known) = false
is_at (Connection number remote local) (Connection known other there) = known == number

-- whether the face of the link is Local; a UDP endpoint that is no peer has a Far face
abbrev pub is_local : Link → Bool
is_local (Udp endpoint) = false
is_local (Connection number remote local) = local

-- the UDP endpoint, or None for a connection
abbrev pub udp_endpoint : Link → Option SocketAddr
udp_endpoint (Udp endpoint) = Some endpoint
udp_endpoint (Connection number remote local) = None

-- the greatest time in milliseconds since 1970 that a node has
abbrev pub NEVER_SILENT : ℕ
NEVER_SILENT = 0xffff_ffff_ffff_ffff

-- The time that counts as the last time when something arrived on the link, if something arrives at
-- the time `now`. A Local link counts as never silent.
abbrev pub heard_at : Link → ℕ → ℕ
heard_at link now = if is_local link then NEVER_SILENT else now
