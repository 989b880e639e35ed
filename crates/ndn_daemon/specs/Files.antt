-- The results of reading rule files and key files: the keys and the faults.
use Rattle.std.specs.Prelude.{◌≡◌, ◌⊎◌, ◌<◌, ◌≤◌, ℕ, List, codes, length, string_bytes, ⊤}
use Rattle.std.specs.declared.io.ErrorKind.{ErrorKind}
use Rattle.key_files.specs.KeyFile.{NamedKey}
use Rattle.key_files.specs.KeyReading.{AreKeys, IsFaultOfOctets}
use Rattle.info_rules.specs.declared.fault.RulesFaultKind.TheVariants.{TooLarge}
use Rattle.limited_reads.specs.declared.TheConstants.{MAX_KEY_FILE}
use Rattle.node_core.specs.Files.{IsFaultOfRules}
use Rattle.node_core.specs.declared.script.RunFault.TheVariants.{Memory}
use Rattle.ndn_daemon.specs.declared.fault.Fault.{Fault}
use Rattle.ndn_daemon.specs.declared.fault.Fault.TheVariants.{Rules, Keys, LargeKeys, Unread, Script}

-- the fault is a fault of a rule file with these octets, or it reports that memory ran out
abbrev pub IsRuleFault : List ℕ → Fault → Type 0
IsRuleFault octets (Rules why) = IsFaultOfRules octets why
IsRuleFault octets why = ⊥

-- the fault is a fault of a key file with these octets, or it reports that memory ran out
abbrev pub IsKeyFault : List ℕ → Fault → Type 0
IsKeyFault octets (Keys why) = IsFaultOfOctets octets why
IsKeyFault octets why = ⊥

-- ---- the results of reading the file at a path

-- the fault is that the file of this kind at this path cannot be read, or that memory ran out
abbrev pub IsUnread : List ℕ → List ℕ → Fault → Type 0
IsUnread file path (Unread which place kind) = (which.now ≡ file) × (string_bytes place ≡ path)
IsUnread file path (Script why) = why ≡ Memory
IsUnread file path why = ⊥

-- if the fault is that a file cannot be read, then `kind` is the cause
abbrev pub HasCause : ErrorKind → Fault → Type 0
HasCause kind (Unread file path cause) = cause ≡ kind
HasCause kind why = ⊤

-- the fault of a rule file: the file has more than 65,536 octets, or the octets of the file have a
-- fault, or the file cannot be read, or memory ran out
abbrev pub IsRuleFileFault : List ℕ → List ℕ → Fault → Type 0
IsRuleFileFault path octets why =
    ((65536 < length octets) × (why ≡ Rules (record { line = 0; kind = TooLarge })))
    ⊎ ((length octets ≤ 65536) × IsRuleFault octets why)
    ⊎ IsUnread (codes "rule file") path why

-- the keys of a key file of at most 8,388,608 octets
abbrev pub AreKeysOfFile : List ℕ → List NamedKey → Type 0
AreKeysOfFile octets keys = (length octets ≤ MAX_KEY_FILE) × AreKeys octets keys

-- the fault of a key file: the file has more than 8,388,608 octets, or the octets of the file have
-- a fault, or the file cannot be read, or memory ran out
abbrev pub IsKeyFileFault : List ℕ → List ℕ → Fault → Type 0
IsKeyFileFault path octets why =
    ((MAX_KEY_FILE < length octets) × (why ≡ LargeKeys))
    ⊎ ((length octets ≤ MAX_KEY_FILE) × IsKeyFault octets why)
    ⊎ IsUnread (codes "key file") path why
