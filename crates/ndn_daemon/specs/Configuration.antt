-- Nodes that a file configures: the options that a configuration stands for.
use Rattle.std.specs.Prelude.{◌≡◌, ◌⊎◌, ℕ, ◌<◌, ◌≤◌, List, [], Err, None, not, codes, length, map, count_by, string_bytes}
use Rattle.std.specs.Option.{option_map}
use Rattle.node_config.specs.declared.config.LogLevel.{LogLevel as ConfigLevel}
use Rattle.node_config.specs.declared.config.LogLevel.TheVariants as config_levels
use Rattle.node_config.specs.declared.fault.ConfigFaultKind.TheVariants.{TooLarge}
use Rattle.node_config.specs.File.{FileOf}
use Rattle.node_config.specs.Paths.{placed}
use Rattle.node_config.specs.Plain.{PlainConfig, is_local}
use Rattle.node_config.specs.Faults.{fault_on, memory_fault}
use Rattle.ndn_daemon.specs.declared.fault.Fault.{Fault}
use Rattle.ndn_daemon.specs.declared.fault.Fault.TheVariants.{Config}
use Rattle.ndn_daemon.specs.declared.options.Options.{Options}
use Rattle.ndn_daemon.specs.declared.udp_options.LogLevel.{LogLevel}
use Rattle.ndn_daemon.specs.declared.udp_options.LogLevel.TheVariants as levels
use Rattle.ndn_daemon.specs.declared.udp_options.UdpOptions.{UdpOptions}
use Rattle.ndn_daemon.specs.Files.{IsUnread}

-- the fault is that of a configuration file with these octets, or it reports that memory ran out
abbrev pub IsConfigFault : List ℕ → Fault → Type 0
IsConfigFault octets (Config why) = FileOf octets (Err why) ⊎ (why ≡ memory_fault)
IsConfigFault octets why = ⊥

-- the fault of a configuration file: the file has more than 65,536 octets, or the octets of the
-- file have a fault, or the file cannot be read, or memory ran out
abbrev pub IsConfigFileFault : List ℕ → List ℕ → Fault → Type 0
IsConfigFileFault path octets why =
    ((65536 < length octets) × (why ≡ Config (fault_on TooLarge 0)))
    ⊎ ((length octets ≤ 65536) × IsConfigFault octets why)
    ⊎ IsUnread (codes "configuration file") path why

abbrev pub level_of : ConfigLevel → LogLevel
level_of config_levels.None = levels.None
level_of config_levels.Events = levels.Events
level_of config_levels.All = levels.All

-- the options of the node that the configuration describes; its paths are taken from the folder
pub record AreConfigured (folder : List ℕ) (config : PlainConfig) (node : Options)
    (options : UdpOptions) : Type 0 where
  pub rules : option_map string_bytes node.rules ≡ option_map (placed folder) config.files.rules
  pub keys : option_map string_bytes node.keys ≡ option_map (placed folder) config.files.keys
  pub repo : node.repo ≡ config.prefix
  pub cache : node.cache ≡ config.limits.cache
  pub listen : options.listen ≡ config.listen.udp
  pub turns : options.turns ≡ config.limits.turns
  pub peers : options.peers.items ≡ map (λ peer. peer.endpoint) config.peers
  pub local : options.local ≡ count_by (λ peer. is_local peer.scope) config.peers
  pub idle : options.idle ≡ config.limits.idle
  pub is_open : options.«open» ≡ config.listen.strangers
  pub log : options.log ≡ level_of config.log.level
  pub journal : option_map string_bytes options.journal
      ≡ option_map (placed folder) config.files.journal
  pub quiet : options.quiet ≡ not config.log.answers
  pub tcp : options.tcp ≡ config.listen.tcp
  pub unix : option_map string_bytes options.unix ≡ option_map (placed folder) config.listen.unix
  pub websocket : options.websocket ≡ None
  pub origins : options.origins.items ≡ []
