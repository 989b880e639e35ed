-- Addresses with a port that texts of a command line spell.
use Rattle.std.specs.Prelude.{◌≡◌, ◌⊎◌, ℕ, ◌<◌, List, [], ◌∷◌}
use Rattle.std.specs.Net.Addr.{MatchIp, ipv4_octets}
use Rattle.std.specs.Net.Grammar.{IsSocketText}
use Rattle.std.specs.Net.Socket.{socket_ip, socket_port}
use Rattle.std.specs.declared.net.socket_addr.SocketAddr.{SocketAddr}
use Rattle.ndn_jobs.specs.Value.{IsPort}

-- the address is 127.0.0.1
abbrev pub IsLocalhost : SocketAddr → Type 0
IsLocalhost endpoint =
    MatchIp (socket_ip endpoint) (λ ip. ipv4_octets ip ≡ 127 ∷ 0 ∷ 0 ∷ 1 ∷ []) (λ ip. ⊥)

-- The text spells an endpoint: an address with a port, or a port alone. A port alone stands for
-- the address 127.0.0.1 with this port. Port 0 is not allowed.
abbrev pub IsEndpoint : List ℕ → SocketAddr → Type 0
IsEndpoint text endpoint =
    (IsPort text (socket_port endpoint) × IsLocalhost endpoint)
    ⊎ (IsSocketText text endpoint × (0 < socket_port endpoint))
