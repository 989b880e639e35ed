-- Addresses with a port, and the endpoints that may be peers of a node.
use Rattle.std.specs.Prelude.{◌≡◌, ◌≢◌, ◌⊎◌, ℕ, ◌<◌, ◌≤◌, ◌^◌, List, [], ◌∷◌, Some, All, AllPairs, length, slice_get}
use Rattle.std.specs.Str.Parse.{IsNumeral, digits_value}
use Rattle.std.specs.Net.Addr.{IsLoopbackV4, IsLoopbackV6, IsUnspecifiedV4, IsUnspecifiedV6, MatchIp, ipv4_octets, is_ipv4}
use Rattle.std.specs.Net.Grammar.{IsSocketText}
use Rattle.std.specs.Net.Socket.{socket_ip, socket_port}
use Rattle.std.specs.declared.net.socket_addr.SocketAddr.{SocketAddr}
use Rattle.pit_fib.specs.declared.face_set.TheConstants.{MAX_FACES}

-- the text spells the port `n` in decimal digits; the port is from 1 to 65535, and leading zeros
-- are allowed
abbrev pub IsPort : List ℕ → ℕ → Type 0
IsPort text n = IsNumeral 10 text × (digits_value 10 text ≡ n) × (0 < n) × (n < 2 ^ 16)

-- the address is 127.0.0.1
abbrev pub IsLocalhost : SocketAddr → Type 0
IsLocalhost endpoint =
    MatchIp (socket_ip endpoint) (λ ip. ipv4_octets ip ≡ 127 ∷ 0 ∷ 0 ∷ 1 ∷ []) (λ ip. ⊥)

-- The text spells an endpoint: an address with a port, or a port alone. A port alone stands for
-- the address 127.0.0.1 with this port. Port 0 is not allowed.
abbrev pub IsEndpoint : List ℕ → SocketAddr → Type 0
IsEndpoint text endpoint =
    (IsPort text (socket_port endpoint) × IsLocalhost endpoint)
    ⊎ (IsSocketText text endpoint × (0 < socket_port endpoint))

-- the address is a loopback address, with which other machines cannot communicate: 127.0.0.0/8 or
-- ::1
abbrev pub IsLoopback : SocketAddr → Type 0
IsLoopback endpoint = MatchIp (socket_ip endpoint) IsLoopbackV4 IsLoopbackV6

-- The address is an unspecified address, 0.0.0.0 or ::. A node that listens on 0.0.0.0 listens on
-- all IPv4 addresses of its machine. A node that listens on :: listens on all IPv6 addresses, and
-- also on the IPv4 addresses if the system allows this.
abbrev pub IsUnspecified : SocketAddr → Type 0
IsUnspecified endpoint = MatchIp (socket_ip endpoint) IsUnspecifiedV4 IsUnspecifiedV6

-- The peer is the node itself: it has the node's port and the node's address. An IPv6 scope
-- identifier is not compared. If the node listens on the unspecified address, a loopback address
-- also counts as the node's address, but the other addresses of the machine do not.
abbrev pub IsItself : SocketAddr → SocketAddr → Type 0
IsItself listen peer =
    (socket_port peer ≡ socket_port listen)
    × ((socket_ip peer ≡ socket_ip listen) ⊎ (IsUnspecified listen × IsLoopback peer))

-- the texts spell these endpoints in order; there are at most 64 endpoints, and no two of them are
-- equal
pub record AreEndpoints (texts : List (List ℕ)) (endpoints : List SocketAddr) : Type 0 where
  pub many : length endpoints ≡ length texts
  pub spelled : (place : ℕ) (text : List ℕ) (endpoint : SocketAddr)
      → slice_get texts place ≡ Some text → slice_get endpoints place ≡ Some endpoint
      → IsEndpoint text endpoint
  pub few : length texts ≤ MAX_FACES
  pub different : AllPairs (λ a b. a ≢ b) endpoints

-- no peer is the node itself, which listens on `listen`; no peer has the unspecified address; and
-- all peers have the address family of `listen`
pub record MayBePeersOf (listen : SocketAddr) (peers : List SocketAddr) : Type 0 where
  pub others : All (λ peer. ¬ (IsItself listen peer)) peers
  pub specified : All (λ peer. ¬ (IsUnspecified peer)) peers
  pub one_family : All (λ peer. is_ipv4 (socket_ip peer) ≡ is_ipv4 (socket_ip listen)) peers
