-- Addresses with a port.
use Rattle.std.specs.Prelude.{◌≡◌, ◌⊎◌, ℕ, ◌<◌, ◌^◌, List, [], ◌∷◌}
use Rattle.std.specs.Str.Parse.{IsNumeral, digits_value}
use Rattle.std.specs.Net.Addr.{IsLoopbackV4, IsLoopbackV6, IsUnspecifiedV4, IsUnspecifiedV6, MatchIp, ipv4_octets}
use Rattle.std.specs.Net.Grammar.{IsSocketText}
use Rattle.std.specs.Net.Socket.{socket_ip, socket_port}
use Rattle.std.specs.declared.net.socket_addr.SocketAddr.{SocketAddr}

-- the text spells the port `n` in decimal digits; the port is from 1 to 65535, and leading zeros
-- are allowed
abbrev pub IsPort : List ℕ → ℕ → Type 0
IsPort text n = IsNumeral 10 text × (digits_value 10 text ≡ n) × (0 < n) × (n < 2 ^ 16)

-- the address is 127.0.0.1
abbrev pub IsLocalhost : SocketAddr → Type 0
IsLocalhost endpoint =
    MatchIp (socket_ip endpoint) (λ ip. ipv4_octets ip ≡ 127 ∷ 0 ∷ 0 ∷ 1 ∷ []) (λ ip. ⊥)

-- The text spells an endpoint: an address with a port, or a port alone. A port alone stands for
-- the address 127.0.0.1 with this port. Port 0 is not allowed.
abbrev pub IsEndpoint : List ℕ → SocketAddr → Type 0
IsEndpoint text endpoint =
    (IsPort text (socket_port endpoint) × IsLocalhost endpoint)
    ⊎ (IsSocketText text endpoint × (0 < socket_port endpoint))

-- the address is a loopback address, with which other machines cannot communicate: 127.0.0.0/8 or
-- ::1
abbrev pub IsLoopback : SocketAddr → Type 0
IsLoopback endpoint = MatchIp (socket_ip endpoint) IsLoopbackV4 IsLoopbackV6

-- the address is an unspecified address, 0.0.0.0 or ::
abbrev pub IsUnspecified : SocketAddr → Type 0
IsUnspecified endpoint = MatchIp (socket_ip endpoint) IsUnspecifiedV4 IsUnspecifiedV6

-- The peer is the node itself, whose endpoint for UDP is `own`: it has the node's port and the
-- node's address. An IPv6 scope identifier is not compared. If `own` has the unspecified address, a
-- loopback address also counts as the node's address.
abbrev pub IsItself : SocketAddr → SocketAddr → Type 0
IsItself own peer =
    (socket_port peer ≡ socket_port own)
    × ((socket_ip peer ≡ socket_ip own) ⊎ (IsUnspecified own × IsLoopback peer))
