-- The values of the options of a node on a port.
use Rattle.std.specs.Prelude.{◌≡◌, ◌≢◌, ◌↔◌, ◌⊎◌, ℕ, ◌*◌, ◌<◌, ◌≤◌, ◌^◌, List, [], Option, None, Some, Bool, true, false, IsSome, IsTrue, All, String, codes, length, map, string_bytes, take, ⊤}
use Rattle.std.specs.List.{list_all}
use Rattle.std.specs.Str.Parse.{IsNumeral, digits_value}
use Rattle.clap.specs.Walk.{Row, all_of, one_of}
use Rattle.std.specs.declared.net.socket_addr.SocketAddr.{SocketAddr}
use Rattle.websocket_requests.specs.Origin.{is_origin}
use Rattle.node_ports.specs.Udp.{UdpState, bound_to, closes_after}
use Rattle.ndn_daemon.specs.declared.fault.Fault.{Fault}
use Rattle.ndn_daemon.specs.declared.fault.Fault.TheVariants.{BadValue}
use Rattle.ndn_daemon.specs.declared.udp_options.LogLevel.{LogLevel}
use Rattle.ndn_daemon.specs.declared.udp_options.LogLevel.TheVariants as levels
use Rattle.ndn_daemon.specs.declared.udp_options.UdpOptions.{UdpOptions}
use Rattle.ndn_daemon.specs.declared.udp_options.TheConstants.{MAX_ORIGINS}
use Rattle.ndn_daemon.specs.Endpoint.{AreEndpoints, IsEndpoint, IsLoopback, MayBePeersOf}
use Rattle.ndn_daemon.specs.Options.{MayBePath, given_or, value_at}

-- the warning for a node that listens on all addresses
abbrev pub all_addresses : List ℕ
all_addresses = codes
    "the system chooses the address from which answers leave: with several addresses, listen on one"

-- the values of an argument, or no values if it is absent
abbrev pub values_or_none : Option (List (List ℕ)) → List (List ℕ)
values_or_none None = []
values_or_none (Some values) = values

abbrev pub values_at : List Row → List ℕ → List (List ℕ)
values_at rows id = values_or_none (all_of id rows)

-- the value that the parser gives to a flag
abbrev pub flag_at : List Row → List ℕ → Option (List ℕ)
flag_at rows id = one_of id rows

-- `b` is true if the parser gives the value "true" to the flag, and false if the parser gives the
-- value "false" or no value to the flag
abbrev pub IsFlag : Option (List ℕ) → Bool → Type 0
IsFlag said b =
    (said ≡ Some (codes "true") → b ≡ true)
    × (said ≡ Some (codes "false") → b ≡ false)
    × (said ≡ None → b ≡ false)

-- the text spells a number below 2^64 in decimal digits; leading zeros are allowed
abbrev pub IsNumber : List ℕ → ℕ → Type 0
IsNumber text n = IsNumeral 10 text × (digits_value 10 text ≡ n) × (n < 2 ^ 64)

-- the text spells a number of seconds from 1 to 2^32 - 1 in decimal digits; leading zeros are
-- allowed
abbrev pub IsSeconds : List ℕ → ℕ → Type 0
IsSeconds text n = IsNumeral 10 text × (digits_value 10 text ≡ n) × (0 < n) × (n < 2 ^ 32)

-- the option is present, and its text spells `x`
abbrev pub Has : {A : Type 0} → Option (List ℕ) → (List ℕ → A → Type 0) → A → Type 0
Has None Spells x = ⊥
Has (Some value) Spells x = Spells value x

-- The text spells the number `local` of Local peers, which is at most the number of peers. The
-- Local peers are the first `local` peers, and they have loopback addresses.
abbrev pub IsLocal : List ℕ → List SocketAddr → ℕ → Type 0
IsLocal text peers local =
    IsNumber text local × (local ≤ length peers) × All IsLoopback (take local peers)

-- The log level: none without `--log`, otherwise `events` or `all`. The parser replaces `--log`
-- without a value by `--log events`.
abbrev pub IsLog : Option (List ℕ) → LogLevel → Type 0
IsLog None level = level ≡ levels.None
IsLog (Some text) levels.None = ⊥
IsLog (Some text) levels.Events = text ≡ codes "events"
IsLog (Some text) levels.All = text ≡ codes "all"

-- the endpoint is the one that the text spells, or both are None
abbrev pub MayBeEndpoint : Option (List ℕ) → Option SocketAddr → Type 0
MayBeEndpoint None None = ⊤
MayBeEndpoint (Some text) (Some endpoint) = IsEndpoint text endpoint
MayBeEndpoint text endpoint = ⊥

-- the node listens for connections: over TCP, on a Unix socket, or for WebSocket
abbrev pub Connects : UdpOptions → Type 0
Connects options = IsSome options.tcp ⊎ (IsSome options.unix ⊎ IsSome options.websocket)

-- the origins are these texts; there are at most 16, and each has the form of an origin
abbrev pub AreOrigins : {Z : Type 0} → List (List ℕ) → List (String Z) → Type 0
AreOrigins texts origins =
    (map string_bytes origins ≡ texts) × (length texts ≤ MAX_ORIGINS)
    × (list_all is_origin texts ≡ true)

-- origins are given exactly if the node listens for WebSocket connections
abbrev pub MayBePagesOf : {Z : Type 0} → Option SocketAddr → List (String Z) → Type 0
MayBePagesOf websocket origins = IsSome websocket ↔ (origins ≢ [])

-- the options of a node on a port; by default, no peer is Local and the idle time is 600 seconds
pub record IsUdpOptions (rows : List Row) (options : UdpOptions) : Type 0 where
  pub listen : Has (value_at rows (codes "listen")) IsEndpoint options.listen
  pub turns : Has (value_at rows (codes "turns")) IsNumber options.turns
  pub peers : AreEndpoints (values_at rows (codes "PEERS")) options.peers.items
  pub suit : MayBePeersOf options.listen options.peers.items
  pub local : IsLocal (given_or (codes "0") (value_at rows (codes "local"))) options.peers.items
      options.local
  pub idle : IsSeconds (given_or (codes "600") (value_at rows (codes "idle"))) options.idle
  pub is_open : IsFlag (flag_at rows (codes "open")) options.«open»
  pub log : IsLog (value_at rows (codes "log")) options.log
  pub journal : MayBePath (value_at rows (codes "journal")) options.journal
  pub quiet : IsFlag (flag_at rows (codes "quiet")) options.quiet
  pub tcp : MayBeEndpoint (value_at rows (codes "tcp")) options.tcp
  pub unix : MayBePath (value_at rows (codes "unix")) options.unix
  pub websocket : MayBeEndpoint (value_at rows (codes "websocket")) options.websocket
  pub origins : AreOrigins (values_at rows (codes "origin")) options.origins.items
  pub pages : MayBePagesOf options.websocket options.origins.items

-- The ports for these options. `told` is the time that the clock of the ports returned most
-- recently. No peer's face is opened yet, and the faces of other endpoints close after the idle
-- time. Endpoints that are not peers are accepted exactly if `--open` is given or the address to
-- listen on is a loopback address.
pub record ArePortsOf (options : UdpOptions) (told : ℕ) (ports : UdpState) : Type 0 where
  pub is_open : IsTrue ports.accepts_strangers ↔ (IsTrue options.«open» ⊎ IsLoopback options.listen)
  pub is : ports ≡ record (closes_after (options.idle * 1000)
      (bound_to options.peers.items options.local told)) {
        accepts_strangers = ports.accepts_strangers;
      }

-- the fault is `BadValue`: a value of an option or of the argument `PEERS` is not allowed
abbrev pub IsBadValue : Fault → Type 0
IsBadValue (BadValue place wanted) = ⊤
IsBadValue why = ⊥
