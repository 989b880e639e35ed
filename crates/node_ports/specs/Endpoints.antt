-- Endpoints of datagrams: an IPv4 or IPv6 address with a port. An endpoint with an IPv6 address
-- also has a flow label and a scope. The scope is the number of the link of a link-local address.
use Rattle.std.specs.Prelude.{◌≡◌, ℕ, ◌∷◌, [], List, length, slice_get, Some}
use Rattle.std.specs.Net.Addr.{IsV4And, ipv4_octets}
use Rattle.std.specs.Net.Socket.{socket_ip, socket_port}
use Rattle.std.specs.declared.net.socket_addr.SocketAddr.{SocketAddr}

-- the endpoint is this port of 127.0.0.1
abbrev pub IsLocalhostAt : ℕ → SocketAddr → Type 0
IsLocalhostAt port endpoint =
    IsV4And (socket_ip endpoint) (λ ip. ipv4_octets ip ≡ 127 ∷ 0 ∷ 0 ∷ 1 ∷ [])
    × (socket_port endpoint ≡ port)

-- the endpoints are these ports of 127.0.0.1, in the same order
pub record AreLocalhostAt (ports : List ℕ) (endpoints : List SocketAddr) : Type 0 where
  pub count : length endpoints ≡ length ports
  pub each : (place port : ℕ) (endpoint : SocketAddr) → slice_get ports place ≡ Some port
      → slice_get endpoints place ≡ Some endpoint → IsLocalhostAt port endpoint
