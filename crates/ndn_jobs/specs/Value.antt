-- The values that texts of a command line spell, and the fault of a text that spells no value.
use Rattle.std.specs.Prelude.{◌≡◌, ℕ, ◌<◌, ◌^◌, List, length, codes, Option, None, Some, Result, Ok, Err, Vec, ⊤}
use Rattle.std.specs.Str.Parse.{IsNumeral, digits_value}
use Rattle.hex.specs.Hex.{decode_of}
use Rattle.ndn_packets.specs.Link.{IsToken}
use Rattle.ndn_jobs.specs.declared.fault.Usage.TheVariants.{BadValue}
use Rattle.ndn_jobs.specs.declared.fault.ToolFault.{ToolFault}
use Rattle.ndn_jobs.specs.declared.fault.ToolFault.TheVariants as fault

-- the text is a number below 2^64 in decimal digits; leading zeros are allowed
abbrev pub IsNumber : List ℕ → ℕ → Type 0
IsNumber text n = IsNumeral 10 text × (digits_value 10 text ≡ n) × (n < 2 ^ 64)

-- the text is a number below 256 in decimal digits; leading zeros are allowed
abbrev pub IsHops : List ℕ → ℕ → Type 0
IsHops text n = IsNumeral 10 text × (digits_value 10 text ≡ n) × (n < 256)

-- the text is a number of milliseconds from 1 to 2^32 - 1 in decimal digits; leading zeros are
-- allowed
abbrev pub IsPeriod : List ℕ → ℕ → Type 0
IsPeriod text n = IsNumeral 10 text × (digits_value 10 text ≡ n) × (0 < n) × (n < 2 ^ 32)

-- the text is a port from 1 to 65535 in decimal digits; leading zeros are allowed
abbrev pub IsPort : List ℕ → ℕ → Type 0
IsPort text n = IsNumeral 10 text × (digits_value 10 text ≡ n) × (0 < n) × (n < 65536)

-- the text has two hexadecimal digits, of either case, for each octet
abbrev pub IsOctets : List ℕ → List ℕ → Type 0
IsOctets text octets = decode_of text ≡ Ok octets

abbrev pub AreOctets : {Z : Type 0} → List ℕ → Vec ℕ Z → Type 0
AreOctets text octets = IsOctets text octets.items

-- the text spells the octets of a packet, or is a dash for no packet
abbrev pub IsPacket : {Z : Type 0} → List ℕ → Option (Vec ℕ Z) → Type 0
IsPacket text None = text ≡ codes "-"
IsPacket text (Some octets) = AreOctets text octets

-- the text spells the 4 octets of a Nonce
abbrev pub IsNonce : List ℕ → List ℕ → Type 0
IsNonce text octets = IsOctets text octets × (length octets ≡ 4)

-- the text spells the 1 to 32 octets of a PIT token
abbrev pub IsTokenText : List ℕ → List ℕ → Type 0
IsTokenText text octets = IsOctets text octets × IsToken octets

-- the fault is BadValue
abbrev pub IsUsage : ToolFault → Type 0
IsUsage (fault.Usage (BadValue place wanted)) = ⊤
IsUsage why = ⊥

-- the fault is BadValue, and no value satisfies `Spell`
abbrev pub IsWrong : {A : Type 0} → (A → Type 0) → ToolFault → Type 0
IsWrong {A} Spell (fault.Usage (BadValue place wanted)) = (x : A) → Spell x → ⊥
IsWrong Spell why = ⊥

-- the fault is Memory, or it is BadValue and no value satisfies `Spell`
abbrev pub IsRefused : {A : Type 0} → (A → Type 0) → ToolFault → Type 0
IsRefused Spell fault.Memory = ⊤
IsRefused Spell why = IsWrong Spell why

-- the result is a value that satisfies `Spell`, or BadValue if there is no such value
abbrev pub Reads : {A : Type 0} → (A → Type 0) → Result A ToolFault → Type 0
Reads Spell (Ok value) = Spell value
Reads Spell (Err fault) = IsWrong Spell fault

-- the result is a value that satisfies `Spell`, or BadValue if there is no such value, or Memory
abbrev pub ReadsInMemory : {A : Type 0} → (A → Type 0) → Result A ToolFault → Type 0
ReadsInMemory Spell (Ok value) = Spell value
ReadsInMemory Spell (Err fault) = IsRefused Spell fault
