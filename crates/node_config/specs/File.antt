-- Configuration files: which file is which configuration, and which fault another file has.
use Rattle.std.specs.Prelude.{ℕ, List, [], ◌∷◌, Result, Ok, Err, IsUtf8, codes}
use Rattle.info_rules.specs.Tree.{Block, PlainEntry, blocks_of}
use Rattle.info_rules.specs.TreeReading.{tree_in}
use Rattle.info_rules.specs.declared.fault.RulesFault.{RulesFault}
use Rattle.node_config.specs.declared.fault.ConfigFault.{ConfigFault}
use Rattle.node_config.specs.declared.fault.ConfigFaultKind.TheVariants.{Syntax}
use Rattle.node_config.specs.Faults.{fault_on, of_syntax}
use Rattle.node_config.specs.Keys.{known_in}
use Rattle.node_config.specs.Peers.{PeersOf}
use Rattle.node_config.specs.Plain.{PlainConfig}
use Rattle.node_config.specs.Reading.{Reading, ◌>>=◌, Gives, Needs}
use Rattle.node_config.specs.Sections.{FilesOf, LimitsOf, ListenOf, LogOf, RepositoryOf}

-- the configuration of the keys outside all blocks
abbrev pub ConfigOf : List Block → Reading PlainConfig
ConfigOf file = do
  known ← Gives (known_in (codes "listen" ∷ codes "peers" ∷ codes "rules" ∷ codes "keys"
      ∷ codes "journal" ∷ codes "repository" ∷ codes "cache" ∷ codes "limits" ∷ codes "log" ∷ [])
      file)
  listen ← ListenOf file
  files ← FilesOf file
  prefix ← RepositoryOf file
  limits ← LimitsOf file
  log ← LogOf file
  peers ← PeersOf listen.udp file
  Gives (Ok (record {
    listen = listen;
    files = files;
    prefix = prefix;
    limits = limits;
    log = log;
    peers = peers;
  }))

abbrev pub of_tree : Result (List PlainEntry) RulesFault → Result (List PlainEntry) ConfigFault
of_tree (Ok entries) = Ok entries
of_tree (Err fault) = Err (of_syntax fault)

-- the entries of the octets of a file
abbrev pub EntriesOf : List ℕ → Reading (List PlainEntry)
EntriesOf octets = do
  text ← Needs (IsUtf8 octets) (fault_on Syntax 0)
  Gives (of_tree (tree_in octets))

-- The configuration of the octets of a file: the one relation of a file to its configuration, or to
-- the fault that is reported.
abbrev pub FileOf : List ℕ → Reading PlainConfig
FileOf octets = do
  entries ← EntriesOf octets
  ConfigOf (blocks_of 0 entries)
