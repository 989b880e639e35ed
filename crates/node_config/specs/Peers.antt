-- The peers of a configuration file.
use Rattle.std.specs.Prelude.{◌≡◌, ◌≢◌, ◌⊎◌, ℕ, ◌<◌, ◌≤◌, List, [], ◌∷◌, ◌++◌, All, length, Option, None, Some, Ok, Err, codes}
use Rattle.std.specs.List.{AllByRecursion}
use Rattle.std.specs.Net.Addr.{is_ipv4}
use Rattle.std.specs.Net.Socket.{socket_ip}
use Rattle.std.specs.declared.net.socket_addr.SocketAddr.{SocketAddr}
use Rattle.info_rules.specs.Tree.{Block, blocks_of}
use Rattle.node_config.specs.declared.config.Scope.{Scope}
use Rattle.node_config.specs.declared.config.Scope.TheVariants.{Local, Far}
use Rattle.node_config.specs.declared.fault.ConfigFaultKind.TheVariants.{BadShape, BadWord, TooManyPeers, BadPeerName, NameTwice, BadFaceUri, UriTwice, OwnUri, NoAddress, OtherFamily, NotLoopback, LocalAfterFar}
use Rattle.node_config.specs.Endpoint.{IsItself, IsLoopback, IsUnspecified}
use Rattle.node_config.specs.FaceUri.{IsFaceUri}
use Rattle.node_config.specs.Faults.{fault_at, fault_on}
use Rattle.node_config.specs.Keys.{block_in, known_in}
use Rattle.node_config.specs.Plain.{PlainPeer}
use Rattle.node_config.specs.Reading.{Reading, ◌>>=◌, Finds, Gives, Needs}
use Rattle.node_config.specs.Values.{ValueOr}
use Rattle.node_config.specs.Words.{IsScope}

-- a letter, a digit, `-`, `_` or `.`
abbrev pub IsNameOctet : ℕ → Type 0
IsNameOctet octet =
    ((97 ≤ octet) × (octet ≤ 122)) ⊎ (((65 ≤ octet) × (octet ≤ 90))
    ⊎ (((48 ≤ octet) × (octet ≤ 57)) ⊎ ((octet ≡ 45) ⊎ ((octet ≡ 95) ⊎ (octet ≡ 46)))))

-- 1 to 64 letters, digits, `-`, `_` and `.`
abbrev pub IsPeerName : List ℕ → Type 0
IsPeerName name =
    (0 < length name) × (length name ≤ 64) × AllByRecursion IsNameOctet name

-- the peer has its own name: there are fewer than 64 peers before it, and none has this name
abbrev pub NameOf : List PlainPeer → List ℕ → ℕ → Reading (Unit {0})
NameOf before name line = do
  few ← Needs (length before < 64) (fault_on TooManyPeers line)
  valid ← Needs (IsPeerName name) (fault_on BadPeerName line)
  Needs (All (λ peer. peer.name ≢ name) before) (fault_on NameTwice line)

-- the endpoint of the FaceUri that is the key's value
abbrev pub UriOf : Block → Reading SocketAddr
UriOf key = spelled key.0.value
  where
    spelled : Option (List ℕ) → Reading SocketAddr
    spelled None = Gives (Err (fault_at BadShape key))
    spelled (Some text) = Finds (IsFaceUri text) (fault_at BadFaceUri key)

-- the scope of a peer whose block has these keys
abbrev pub ScopeOf : List Block → Reading Scope
ScopeOf keys = do
  known ← Gives (known_in (codes "scope" ∷ []) keys)
  ValueOr IsScope BadWord Far (codes "scope") keys

-- a node with the endpoint `own` can have the peer
abbrev pub EndpointOf : SocketAddr → List PlainPeer → SocketAddr → ℕ → Reading (Unit {0})
EndpointOf own before endpoint line = do
  new ← Needs (All (λ peer. peer.endpoint ≢ endpoint) before) (fault_on UriTwice line)
  other ← Needs (¬ (IsItself own endpoint)) (fault_on OwnUri line)
  specified ← Needs (¬ (IsUnspecified endpoint)) (fault_on NoAddress line)
  Needs (is_ipv4 (socket_ip endpoint) ≡ is_ipv4 (socket_ip own)) (fault_on OtherFamily line)

-- the peer can have the scope: a Local peer has a loopback address, and no Far peer before it
abbrev pub PlaceOf : List PlainPeer → SocketAddr → Scope → ℕ → Reading (Unit {0})
PlaceOf before endpoint scope line = do
  here ← Needs (scope ≡ Local → IsLoopback endpoint) (fault_on NotLoopback line)
  Needs (scope ≡ Local → All (λ peer. peer.scope ≡ Local) before) (fault_on LocalAfterFar line)

-- the peer of the key, whose word is the peer's name; `before` are the peers before it
abbrev pub PeerOf : SocketAddr → List PlainPeer → Block → Reading (SocketAddr × Scope)
PeerOf own before key = do
  named ← NameOf before key.0.key key.0.line
  endpoint ← UriOf key
  scope ← ScopeOf (blocks_of 2 key.1)
  possible ← EndpointOf own before endpoint key.0.line
  placed ← PlaceOf before endpoint scope key.0.line
  Gives (Ok (endpoint, scope))

abbrev pub peer_with : Block → SocketAddr × Scope → PlainPeer
peer_with key found = record { name = key.0.key; endpoint = found.0; scope = found.1 }

-- the peers `before`, and after them those of the keys
unfoldable pub PeersAfter : SocketAddr → List PlainPeer → List Block → Reading (List PlainPeer)
PeersAfter own before [] = Gives (Ok before)
PeersAfter own before (key ∷ keys) =
    PeerOf own before key >>= λ found. PeersAfter own (before ++ peer_with key found ∷ []) keys

-- the block `peers` of a node with the endpoint `own`
abbrev pub PeersOf : SocketAddr → List Block → Reading (List PlainPeer)
PeersOf own file = Gives (block_in (codes "peers") file) >>= PeersAfter own []
