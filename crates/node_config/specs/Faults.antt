-- The faults of configuration files, and their names.
use Rattle.std.specs.Prelude.{ℕ, List, codes}
use Rattle.info_rules.specs.Tree.{Block}
use Rattle.info_rules.specs.declared.fault.RulesFault.{RulesFault}
use Rattle.info_rules.specs.declared.fault.RulesFaultKind.{RulesFaultKind}
use Rattle.info_rules.specs.declared.fault.RulesFaultKind.TheVariants as syntax_kinds
use Rattle.node_config.specs.declared.fault.ConfigFault.{ConfigFault}
use Rattle.node_config.specs.declared.fault.ConfigFaultKind.{ConfigFaultKind}
use Rattle.node_config.specs.declared.fault.ConfigFaultKind.TheVariants.{Syntax, TooDeep, TooLarge, UnknownKey, KeyTwice, Missing, BadShape, BadEndpoint, BadNumber, BadWord, BadPath, BadPrefix, TooManyPeers, BadPeerName, NameTwice, BadFaceUri, UriTwice, OwnUri, NoAddress, OtherFamily, NotLoopback, LocalAfterFar, Memory}

abbrev pub fault_name : ConfigFaultKind → List ℕ
fault_name Syntax = codes "Syntax"
fault_name TooDeep = codes "TooDeep"
fault_name TooLarge = codes "TooLarge"
fault_name UnknownKey = codes "UnknownKey"
fault_name KeyTwice = codes "KeyTwice"
fault_name Missing = codes "Missing"
fault_name BadShape = codes "BadShape"
fault_name BadEndpoint = codes "BadEndpoint"
fault_name BadNumber = codes "BadNumber"
fault_name BadWord = codes "BadWord"
fault_name BadPath = codes "BadPath"
fault_name BadPrefix = codes "BadPrefix"
fault_name TooManyPeers = codes "TooManyPeers"
fault_name BadPeerName = codes "BadPeerName"
fault_name NameTwice = codes "NameTwice"
fault_name BadFaceUri = codes "BadFaceUri"
fault_name UriTwice = codes "UriTwice"
fault_name OwnUri = codes "OwnUri"
fault_name NoAddress = codes "NoAddress"
fault_name OtherFamily = codes "OtherFamily"
fault_name NotLoopback = codes "NotLoopback"
fault_name LocalAfterFar = codes "LocalAfterFar"
fault_name Memory = codes "Memory"

-- a fault of this kind at this line
abbrev pub fault_on : ConfigFaultKind → ℕ → ConfigFault
fault_on kind line = record { line = line; kind = kind }

-- a fault of this kind at the line of the key
abbrev pub fault_at : ConfigFaultKind → Block → ConfigFault
fault_at kind key = fault_on kind key.0.line

-- the fault of a failed allocation, which has no line in the file
abbrev pub memory_fault : ConfigFault
memory_fault = fault_on Memory 0

-- the kind of the fault of a text that does not spell entries
abbrev pub syntax_kind : RulesFaultKind → ConfigFaultKind
syntax_kind syntax_kinds.Syntax = Syntax
syntax_kind syntax_kinds.TooDeep = TooDeep
syntax_kind syntax_kinds.TooLarge = TooLarge
syntax_kind syntax_kinds.UnknownKey = Syntax
syntax_kind syntax_kinds.Missing = Syntax
syntax_kind syntax_kinds.BadValue = Syntax
syntax_kind syntax_kinds.TwiceNamed = Syntax
syntax_kind syntax_kinds.Pattern = Syntax
syntax_kind syntax_kinds.AnyAnchor = Syntax
syntax_kind syntax_kinds.Memory = Memory

-- the fault of a configuration file whose text has this fault
abbrev pub of_syntax : RulesFault → ConfigFault
of_syntax fault = fault_on (syntax_kind fault.kind) fault.line
