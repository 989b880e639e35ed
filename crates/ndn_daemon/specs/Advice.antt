-- The texts that explain the faults of a rule file or a configuration file.
use Rattle.std.specs.Prelude.{ℕ, zero, suc, Bool, true, false, List, codes}
use Rattle.info_rules.specs.declared.fault.RulesFaultKind.{RulesFaultKind}
use Rattle.info_rules.specs.declared.fault.RulesFaultKind.TheVariants as rules
use Rattle.node_config.specs.declared.fault.ConfigFaultKind.{ConfigFaultKind}
use Rattle.node_config.specs.declared.fault.ConfigFaultKind.TheVariants as config

-- the text for a fault at this line; a Syntax fault at line 0 means that the file is not UTF-8
unfoldable pub advice_on_rules : ℕ → RulesFaultKind → List ℕ
advice_on_rules zero rules.Syntax = codes "the file is not UTF-8 text: write it in UTF-8 or ASCII"
advice_on_rules (suc line) rules.Syntax =
    codes "a word, quote or brace is wrong: lines are KEY, KEY VALUE, { or }; close each quote and each {"
advice_on_rules line rules.TooDeep = codes "blocks may nest at most 8 deep"
advice_on_rules line rules.TooLarge =
    codes "at most 65536 octets, 256 rules, and 16 filters and 16 checkers in a rule are allowed"
advice_on_rules line rules.UnknownKey =
    codes "a key of this name is not allowed in this block: docs/RULES.md lists the keys"
advice_on_rules line rules.Missing =
    codes "this block lacks a key, such as the id or for of a rule, or the type of a checker: see docs/RULES.md"
advice_on_rules line rules.BadValue =
    codes "the value or block of this key is wrong or missing, or the key is not allowed beside another key"
advice_on_rules line rules.TwiceNamed =
    codes "this block already has this key, or an earlier rule has this id: give it once"
advice_on_rules line rules.Pattern =
    codes "not a pattern, or not a template for its pattern: <lab> is a component, <> any one, <>* any number"
advice_on_rules line rules.AnyAnchor =
    codes "a trust anchor of type any would allow packets without a rule: write rules in its place"
advice_on_rules line rules.Memory = codes "out of memory"

-- the text for a fault at this line of a configuration file; a Syntax fault at line 0 means that
-- the file is not UTF-8
unfoldable pub advice_on_config : ℕ → ConfigFaultKind → List ℕ
advice_on_config zero config.Syntax = codes "the file is not UTF-8 text: write it in UTF-8 or ASCII"
advice_on_config (suc line) config.Syntax =
    codes "a word, quote or brace is wrong: lines are KEY, KEY VALUE, { or }; close each quote and each {"
advice_on_config line config.TooDeep = codes "blocks may nest at most 8 deep"
advice_on_config line config.TooLarge = codes "at most 65536 octets are allowed"
advice_on_config line config.UnknownKey =
    codes "a key of this name is not allowed here: docs/CONFIG.md lists the keys"
advice_on_config line config.KeyTwice = codes "this key was given on an earlier line: give it once"
advice_on_config line config.Missing =
    codes "the block listen must say where the node listens: udp ENDPOINT, such as udp 6363"
advice_on_config line config.BadShape =
    codes "this key must have a value and no block, or a block and no value: see docs/CONFIG.md"
advice_on_config line config.BadEndpoint =
    codes "an endpoint is a port from 1 to 65535, or an address and a port, such as 192.0.2.1:6363"
advice_on_config line config.BadNumber =
    codes "capacity is 1 to 65536, idle_timeout 1 to 4294967295, and turns below 2^64, in decimal digits"
advice_on_config line config.BadWord =
    codes "strangers and answers are yes or no, scope is local or far, and level is none, events or all"
advice_on_config line config.BadPath = codes "a path must not be empty"
advice_on_config line config.BadPrefix = codes "the prefix must be the URI of a name, such as /repo"
advice_on_config line config.TooManyPeers = codes "at most 64 peers are allowed"
advice_on_config line config.BadPeerName =
    codes "the name of a peer has 1 to 64 letters, digits, hyphens, underscores and dots"
advice_on_config line config.NameTwice =
    codes "an earlier peer has this name: give each peer its own"
advice_on_config line config.BadFaceUri =
    codes "a FaceUri is udp4://ADDRESS:PORT or udp6://[ADDRESS]:PORT, such as udp4://192.0.2.1:6363"
advice_on_config line config.UriTwice =
    codes "an earlier peer has this address and port: give each peer once"
advice_on_config line config.OwnUri =
    codes "this is the endpoint of the node itself: give other peers"
advice_on_config line config.NoAddress = codes "0.0.0.0 and :: are not addresses of a machine"
advice_on_config line config.OtherFamily =
    codes "give an address of the family of udp in the block listen: IPv4 and IPv6 cannot reach each other"
advice_on_config line config.NotLoopback =
    codes "a Local peer must be on this machine (127.0.0.0/8 or ::1), since it may send commands"
advice_on_config line config.LocalAfterFar = codes "give the Local peers before the Far ones"
advice_on_config line config.Memory = codes "out of memory"

-- whether the fault is that memory ran out
abbrev pub is_memory : RulesFaultKind → Bool
is_memory rules.Memory = true
is_memory kind = false

-- whether the fault of a configuration file is that memory ran out
abbrev pub is_config_memory : ConfigFaultKind → Bool
is_config_memory config.Memory = true
is_config_memory kind = false
