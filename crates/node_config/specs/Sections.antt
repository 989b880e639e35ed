-- The blocks and keys of a configuration file, except the peers. The argument `file` has the keys
-- outside all blocks.
use Rattle.std.specs.Prelude.{ℕ, ◌-◌, ◌^◌, List, [], ◌∷◌, Option, None, Some, true, false, Ok, Err, codes}
use Rattle.std.specs.declared.net.socket_addr.SocketAddr.{SocketAddr}
use Rattle.ndn_tlv.specs.Element.{Field}
use Rattle.info_rules.specs.Tree.{Block}
use Rattle.node_config.specs.declared.config.Limits.{Limits}
use Rattle.node_config.specs.declared.config.Log.{Log}
use Rattle.node_config.specs.declared.config.LogLevel.TheVariants as levels
use Rattle.node_config.specs.declared.fault.ConfigFaultKind.TheVariants.{Missing, BadEndpoint, BadNumber, BadWord}
use Rattle.node_config.specs.declared.words.Capacity.{Capacity}
use Rattle.node_config.specs.Endpoint.{IsEndpoint}
use Rattle.node_config.specs.Faults.{fault_on}
use Rattle.node_config.specs.Keys.{block_in, known_in, line_in}
use Rattle.node_config.specs.Plain.{PlainListen, PlainFiles}
use Rattle.node_config.specs.Reading.{Reading, ◌>>=◌, Gives}
use Rattle.node_config.specs.Values.{PathAt, PrefixAt, ValueAt, ValueOr}
use Rattle.node_config.specs.Words.{IsCapacity, IsConsent, IsLevel, IsSeconds, IsTurns}

-- the keys of the file's block `block`, of which each is one of the words, and is given once
abbrev pub BlockOf : List ℕ → List (List ℕ) → List Block → Reading (List Block)
BlockOf block words file = do
  keys ← Gives (block_in block file)
  known ← Gives (known_in words keys)
  Gives (Ok keys)

-- the value if it is there, or the fault `Missing` at this line
abbrev pub Needed : {A : Type 0} → ℕ → Option A → Reading A
Needed line None = Gives (Err (fault_on Missing line))
Needed line (Some x) = Gives (Ok x)

-- the endpoint of the key `udp`, which must be there; `line` is the line of its block
abbrev pub UdpOf : ℕ → List Block → Reading SocketAddr
UdpOf line keys = ValueAt IsEndpoint BadEndpoint (codes "udp") keys >>= Needed line

-- the block `listen`
abbrev pub ListenOf : List Block → Reading PlainListen
ListenOf file = do
  keys ← BlockOf (codes "listen")
      (codes "udp" ∷ codes "tcp" ∷ codes "unix" ∷ codes "strangers" ∷ []) file
  udp ← UdpOf (line_in (codes "listen") file) keys
  tcp ← ValueAt IsEndpoint BadEndpoint (codes "tcp") keys
  unix ← PathAt (codes "unix") keys
  strangers ← ValueOr IsConsent BadWord (record { 0 = false }) (codes "strangers") keys
  Gives (Ok (record { udp = udp; tcp = tcp; unix = unix; strangers = strangers.0 }))

-- the keys `rules`, `keys` and `journal`
abbrev pub FilesOf : List Block → Reading PlainFiles
FilesOf file = do
  rules ← PathAt (codes "rules") file
  keys ← PathAt (codes "keys") file
  journal ← PathAt (codes "journal") file
  Gives (Ok (record { rules = rules; keys = keys; journal = journal }))

-- the block `repository`
abbrev pub RepositoryOf : List Block → Reading (List Field)
RepositoryOf file = do
  keys ← BlockOf (codes "repository") (codes "prefix" ∷ []) file
  PrefixAt (codes "prefix") keys

-- the block `cache`
abbrev pub CacheOf : List Block → Reading Capacity
CacheOf file = do
  keys ← BlockOf (codes "cache") (codes "capacity" ∷ []) file
  ValueOr IsCapacity BadNumber (record { 0 = 1024 }) (codes "capacity") keys

-- the blocks `cache` and `limits`
abbrev pub LimitsOf : List Block → Reading Limits
LimitsOf file = do
  cache ← CacheOf file
  keys ← BlockOf (codes "limits") (codes "idle_timeout" ∷ codes "turns" ∷ []) file
  idle ← ValueOr IsSeconds BadNumber (record { 0 = 600 }) (codes "idle_timeout") keys
  turns ← ValueOr IsTurns BadNumber (record { 0 = 2 ^ 64 - 1 }) (codes "turns") keys
  Gives (Ok (record { cache = cache.0; idle = idle.0; turns = turns.0 }))

-- the block `log`
abbrev pub LogOf : List Block → Reading Log
LogOf file = do
  keys ← BlockOf (codes "log") (codes "level" ∷ codes "answers" ∷ []) file
  level ← ValueOr IsLevel BadWord levels.None (codes "level") keys
  answers ← ValueOr IsConsent BadWord (record { 0 = true }) (codes "answers") keys
  Gives (Ok (record { level = level; answers = answers.0 }))
