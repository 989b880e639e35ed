-- Reading the octets of a key file, and why a key file is refused.
use Rattle.std.specs.Prelude.{◌≡◌, ◌⊎◌, ◌<◌, ◌≤◌, ℕ, List, length, string_bytes, ⊤}
use Rattle.std.specs.declared.io.ErrorKind.{ErrorKind}
use Rattle.key_files.specs.KeyFile.{NamedKey}
use Rattle.key_files.specs.KeyReading.{AreKeys, IsFaultOfOctets}
use Rattle.limited_reads.specs.declared.TheConstants.{MAX_KEY_FILE}
use Rattle.ndn_jobs.specs.declared.fault.ToolFault.TheVariants.{Memory}
use Rattle.ndn_client.specs.declared.fault.Fault.{Fault}
use Rattle.ndn_client.specs.declared.fault.Fault.TheVariants.{Keys, LargeKeys, Unread, Tool}

abbrev pub IsFileFault : List ℕ → Fault → Type 0
IsFileFault octets (Keys why) = IsFaultOfOctets octets why
IsFileFault octets why = ⊥

-- `keys` are the keys in the octets, and the number of octets is at most `MAX_KEY_FILE`
abbrev pub AreKeysOfFile : List ℕ → List NamedKey → Type 0
AreKeysOfFile octets keys = (length octets ≤ MAX_KEY_FILE) × AreKeys octets keys

-- the key file at this path cannot be read, or memory ran out
abbrev pub IsUnread : List ℕ → Fault → Type 0
IsUnread path (Unread place kind) = string_bytes place ≡ path
IsUnread path (Tool why) = why ≡ Memory
IsUnread path why = ⊥

-- if the fault is `Unread`, the cause in the fault is `kind`
abbrev pub HasCause : ErrorKind → Fault → Type 0
HasCause kind (Unread path cause) = cause ≡ kind
HasCause kind why = ⊤

-- there are more than `MAX_KEY_FILE` octets, the octets are refused as a key file, the file cannot
-- be read, or memory ran out
abbrev pub IsKeyFileFault : List ℕ → List ℕ → Fault → Type 0
IsKeyFileFault path octets why =
    ((MAX_KEY_FILE < length octets) × (why ≡ LargeKeys))
    ⊎ ((length octets ≤ MAX_KEY_FILE) × IsFileFault octets why) ⊎ IsUnread path why
