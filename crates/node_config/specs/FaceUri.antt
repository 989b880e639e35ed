-- FaceUris of UDP faces, as NFD writes them (NFD wiki, "FaceUri", canonical forms of udp).
use Rattle.std.specs.Prelude.{◌≡◌, ℕ, ◌<◌, List, ◌++◌, codes}
use Rattle.std.specs.Net.Grammar.{IsSocketV4Text, IsSocketV6Text}
use Rattle.std.specs.Net.Socket.{v4_port, v6_port, v6_scope_id}
use Rattle.std.specs.declared.net.socket_addr.SocketAddrV4.{SocketAddrV4}
use Rattle.std.specs.declared.net.socket_addr.SocketAddrV6.{SocketAddrV6}
use Rattle.std.specs.declared.net.socket_addr.SocketAddr.{SocketAddr}
use Rattle.std.specs.declared.net.socket_addr.SocketAddr.TheVariants.{V4, V6}

-- an IPv4 address of four decimal numbers, a colon, and a port above 0
abbrev pub IsUdp4 : List ℕ → SocketAddrV4 → Type 0
IsUdp4 text endpoint = IsSocketV4Text text endpoint × (0 < v4_port endpoint)

-- an IPv6 address in brackets, without a scope identifier, a colon, and a port above 0
abbrev pub IsUdp6 : List ℕ → SocketAddrV6 → Type 0
IsUdp6 text endpoint =
    IsSocketV6Text text endpoint × (0 < v6_port endpoint) × (v6_scope_id endpoint ≡ 0)

-- the text is the FaceUri of this endpoint: `udp4://` and an IPv4 address with a port, or `udp6://`
-- and an IPv6 address with a port
abbrev pub IsFaceUri : List ℕ → SocketAddr → Type 0
IsFaceUri text (V4 endpoint) =
    (rest : List ℕ) × (text ≡ codes "udp4://" ++ rest) × IsUdp4 rest endpoint
IsFaceUri text (V6 endpoint) =
    (rest : List ℕ) × (text ≡ codes "udp6://" ++ rest) × IsUdp6 rest endpoint
