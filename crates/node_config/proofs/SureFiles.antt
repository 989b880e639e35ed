-- A file has at most one configuration, or at most one fault that is reported.
use Rattle.std.proofs.Common.{◌≡◌, ℕ, ◌-◌, ◌^◌, List, [], ◌∷◌, ◌++◌, refl, codes, true, false}
use Rattle.std.specs.Prelude.{Option, None, Some}
use Rattle.std.specs.declared.net.socket_addr.SocketAddr.{SocketAddr}
use Rattle.info_rules.specs.Tree.{Block, blocks_of}
use Rattle.node_config.specs.declared.config.Scope.{Scope}
use Rattle.node_config.specs.declared.config.LogLevel.TheVariants as levels
use Rattle.node_config.specs.declared.config.Scope.TheVariants.{Far}
use Rattle.node_config.specs.declared.fault.ConfigFaultKind.TheVariants.{BadEndpoint, BadNumber, BadWord}
use Rattle.node_config.specs.Endpoint.{IsEndpoint}
use Rattle.node_config.specs.Keys.{line_in}
use Rattle.node_config.specs.Values.{ValueAt}
use Rattle.node_config.specs.Words.{IsCapacity, IsConsent, IsLevel, IsScope, IsSeconds, IsTurns}
use Rattle.node_config.specs.File.{ConfigOf, EntriesOf, FileOf}
use Rattle.node_config.specs.Peers.{EndpointOf, NameOf, PeerOf, PeersAfter, PeersOf, PlaceOf, ScopeOf, UriOf, peer_with}
use Rattle.node_config.specs.Plain.{PlainPeer}
use Rattle.node_config.specs.Sections.{BlockOf, CacheOf, FilesOf, LimitsOf, ListenOf, LogOf, Needed, RepositoryOf, UdpOf}
use Rattle.node_config.proofs.Endpoints.{one_endpoint}
use Rattle.node_config.proofs.FaceUris.{one_face_uri}
use Rattle.node_config.proofs.Sure.{IsSure, sure_finds, sure_gives, sure_needs, sure_then}
use Rattle.node_config.proofs.SureValues.{one_capacity, one_consent, one_level, one_number, one_scope, one_time, sure_path, sure_prefix, sure_value, sure_value_or}

sure_block : (block : List ℕ) (words : List (List ℕ)) (file : List Block) → IsSure (BlockOf block words file)
sure_block block words file = sure_then _ _ (sure_gives _) λ keys. sure_then _ _ (sure_gives _) λ known. sure_gives _

sure_needed : {A : Type 0} (line : ℕ) (given : Option A) → IsSure (Needed line given)
sure_needed line None = sure_gives _
sure_needed line (Some x) = sure_gives _

sure_udp : (line : ℕ) (keys : List Block) → IsSure (UdpOf line keys)
sure_udp line keys = sure_then (ValueAt IsEndpoint BadEndpoint (codes "udp") keys) (Needed line) (sure_value IsEndpoint one_endpoint BadEndpoint (codes "udp") keys) (sure_needed line)

sure_listen : (file : List Block) → IsSure (ListenOf file)
sure_listen file =
    sure_then _ _ (sure_block (codes "listen") (codes "udp" ∷ codes "tcp" ∷ codes "unix" ∷ codes "strangers" ∷ []) file) λ keys.
    sure_then _ _ (sure_udp (line_in (codes "listen") file) keys) λ udp.
    sure_then _ _ (sure_value IsEndpoint one_endpoint BadEndpoint (codes "tcp") keys) λ tcp.
    sure_then _ _ (sure_path (codes "unix") keys) λ unix.
    sure_then _ _ (sure_value_or IsConsent one_consent BadWord (record { 0 = false }) (codes "strangers") keys) λ strangers.
    sure_gives _

sure_paths : (file : List Block) → IsSure (FilesOf file)
sure_paths file =
    sure_then _ _ (sure_path (codes "rules") file) λ rules.
    sure_then _ _ (sure_path (codes "keys") file) λ keys.
    sure_then _ _ (sure_path (codes "journal") file) λ journal.
    sure_gives _

sure_repository : (file : List Block) → IsSure (RepositoryOf file)
sure_repository file = sure_then _ _ (sure_block (codes "repository") (codes "prefix" ∷ []) file) λ keys. sure_prefix (codes "prefix") keys

sure_cache : (file : List Block) → IsSure (CacheOf file)
sure_cache file = sure_then _ _ (sure_block (codes "cache") (codes "capacity" ∷ []) file) λ keys. sure_value_or IsCapacity one_capacity BadNumber (record { 0 = 1024 }) (codes "capacity") keys

sure_limits : (file : List Block) → IsSure (LimitsOf file)
sure_limits file =
    sure_then _ _ (sure_cache file) λ cache.
    sure_then _ _ (sure_block (codes "limits") (codes "idle_timeout" ∷ codes "turns" ∷ []) file) λ keys.
    sure_then _ _ (sure_value_or IsSeconds one_time BadNumber (record { 0 = 600 }) (codes "idle_timeout") keys) λ idle.
    sure_then _ _ (sure_value_or IsTurns one_number BadNumber (record { 0 = 2 ^ 64 - 1 }) (codes "turns") keys) λ turns.
    sure_gives _

sure_log : (file : List Block) → IsSure (LogOf file)
sure_log file =
    sure_then _ _ (sure_block (codes "log") (codes "level" ∷ codes "answers" ∷ []) file) λ keys.
    sure_then _ _ (sure_value_or IsLevel one_level BadWord levels.None (codes "level") keys) λ level.
    sure_then _ _ (sure_value_or IsConsent one_consent BadWord (record { 0 = true }) (codes "answers") keys) λ answers.
    sure_gives _

sure_name : (before : List PlainPeer) (name : List ℕ) (line : ℕ) → IsSure (NameOf before name line)
sure_name before name line = sure_then _ _ (sure_needs _ _) λ few. sure_then _ _ (sure_needs _ _) λ valid. sure_needs _ _

sure_uri : (key : Block) (uri : Option (List ℕ)) → key.0.value ≡ uri → IsSure (UriOf key)
sure_uri key None e = rw e (sure_gives _)
sure_uri key (Some text) e = rw e (sure_finds _ _ (one_face_uri text))

sure_scope : (keys : List Block) → IsSure (ScopeOf keys)
sure_scope keys = sure_then _ _ (sure_gives _) λ known. sure_value_or IsScope one_scope BadWord Far (codes "scope") keys

sure_endpoint : (own : SocketAddr) (before : List PlainPeer) (endpoint : SocketAddr) (line : ℕ) → IsSure (EndpointOf own before endpoint line)
sure_endpoint own before endpoint line =
    sure_then _ _ (sure_needs _ _) λ new.
    sure_then _ _ (sure_needs _ _) λ other.
    sure_then _ _ (sure_needs _ _) λ specified.
    sure_needs _ _

sure_place : (before : List PlainPeer) (endpoint : SocketAddr) (scope : Scope) (line : ℕ) → IsSure (PlaceOf before endpoint scope line)
sure_place before endpoint scope line = sure_then _ _ (sure_needs _ _) λ here. sure_needs _ _

sure_peer : (own : SocketAddr) (before : List PlainPeer) (key : Block) → IsSure (PeerOf own before key)
sure_peer own before key =
    sure_then _ _ (sure_name before key.0.key key.0.line) λ named.
    sure_then _ _ (sure_uri key key.0.value refl) λ endpoint.
    sure_then _ _ (sure_scope (blocks_of 2 key.1)) λ scope.
    sure_then _ _ (sure_endpoint own before endpoint key.0.line) λ possible.
    sure_then _ _ (sure_place before endpoint scope key.0.line) λ placed.
    sure_gives _

sure_after : (own : SocketAddr) (before : List PlainPeer) (keys : List Block) → IsSure (PeersAfter own before keys)
unfolding PeersAfter
sure_after own before [] = sure_gives _
sure_after own before (key ∷ keys) = sure_then _ _ (sure_peer own before key) λ found. sure_after own (before ++ peer_with key found ∷ []) keys

sure_peers : (own : SocketAddr) (file : List Block) → IsSure (PeersOf own file)
sure_peers own file = sure_then _ _ (sure_gives _) λ keys. sure_after own [] keys

sure_config : (file : List Block) → IsSure (ConfigOf file)
sure_config file =
    sure_then _ _ (sure_gives _) λ known.
    sure_then _ _ (sure_listen file) λ listen.
    sure_then _ _ (sure_paths file) λ files.
    sure_then _ _ (sure_repository file) λ prefix.
    sure_then _ _ (sure_limits file) λ limits.
    sure_then _ _ (sure_log file) λ log.
    sure_then _ _ (sure_peers listen.udp file) λ peers.
    sure_gives _

sure_entries : (octets : List ℕ) → IsSure (EntriesOf octets)
sure_entries octets = sure_then _ _ (sure_needs _ _) λ text. sure_gives _

pub sure_file : (octets : List ℕ) → IsSure (FileOf octets)
sure_file octets = sure_then _ _ (sure_entries octets) λ entries. sure_config (blocks_of 0 entries)
