-- The values of the options, and the faults of texts that spell no valid value.
use Rattle.std.specs.Prelude.{◌≡◌, ℕ, ◌<◌, ◌^◌, List, [], Option, None, Some, Result, Ok, Err, String, codes, string_bytes, ⊤}
use Rattle.std.specs.Str.Parse.{IsNumeral, digits_value}
use Rattle.clap.specs.declared.parser.matches.ArgMatches.{ArgMatches}
use Rattle.clap.specs.Matches.{found_of}
use Rattle.clap.specs.Walk.{Row, rows_of, first_of}
use Rattle.ndn_names.specs.ReadsAs.{ReadsAs}
use Rattle.node_core.specs.declared.script.RunFault.TheVariants.{Memory}
use Rattle.ndn_daemon.specs.declared.fault.Fault.{Fault}
use Rattle.ndn_daemon.specs.declared.fault.Fault.TheVariants.{BadValue, Script}
use Rattle.ndn_daemon.specs.declared.options.Options.{Options}
use Rattle.ndn_daemon.specs.declared.options.ShorteningOptions.{ShorteningOptions}

-- the options that the parser found, as rows
abbrev pub rows_in : ArgMatches → List Row
rows_in options = rows_of (found_of options)

-- the first value of an option, or None if the option has no value
abbrev pub value_at : List Row → List ℕ → Option (List ℕ)
value_at rows id = first_of id rows

-- the text in `given`, or the default `text` if `given` is None
abbrev pub given_or : List ℕ → Option (List ℕ) → List ℕ
given_or text None = text
given_or text (Some given) = given

-- the text spells a number below 2^32 in decimal digits; leading zeros are allowed
abbrev pub IsCapacity : List ℕ → ℕ → Type 0
IsCapacity text n = IsNumeral 10 text × (digits_value 10 text ≡ n) × (n < 2 ^ 32)

-- the path `path` has the octets `given`, or both are None
abbrev pub MayBePath : {Z : Type 0} → Option (List ℕ) → Option (String Z) → Type 0
MayBePath None None = ⊤
MayBePath (Some given) (Some path) = string_bytes path ≡ given
MayBePath given path = ⊥

-- the options of a node; by default, the prefix of its repository is `/repo` and the capacity of
-- its cache is 1024
pub record IsOptions (rows : List Row) (options : Options) : Type 0 where
  pub rules : MayBePath (value_at rows (codes "rules")) options.rules
  pub keys : MayBePath (value_at rows (codes "keys")) options.keys
  pub repo : ReadsAs (given_or (codes "/repo") (value_at rows (codes "repo"))) options.repo
  pub cache : IsCapacity (given_or (codes "1024") (value_at rows (codes "cache"))) options.cache

-- the options of the shortening of a journal; the parser refuses a command line without the path of
-- the journal, so the default `[]` is never used
pub record IsShorteningOptions (rows : List Row) (options : ShorteningOptions) : Type 0 where
  pub journal : string_bytes options.journal ≡ given_or [] (value_at rows (codes "shorten"))
  pub repo : ReadsAs (given_or (codes "/repo") (value_at rows (codes "repo"))) options.repo

-- the fault is `BadValue`, and the text spells no valid value, that is, no value satisfies `Spell`
abbrev pub IsWrong : {A : Type 0} → (A → Type 0) → Fault → Type 0
IsWrong {A} Spell (BadValue place wanted) = (x : A) → Spell x → ⊥
IsWrong Spell why = ⊥

-- memory ran out, or the fault is `BadValue` and the text spells no valid value, that is, no value
-- satisfies `Spell`
abbrev pub IsRefused : {A : Type 0} → (A → Type 0) → Fault → Type 0
IsRefused Spell (Script Memory) = ⊤
IsRefused Spell why = IsWrong Spell why

-- the result is the value that the text spells, or the fault of a text that spells no valid value
abbrev pub Reads : {A : Type 0} → (A → Type 0) → Result A Fault → Type 0
Reads Spell (Ok value) = Spell value
Reads Spell (Err fault) = IsWrong Spell fault

-- the result is the value that the text spells, or the fault of a text that spells no valid value,
-- or the fault that memory ran out
abbrev pub ReadsInMemory : {A : Type 0} → (A → Type 0) → Result A Fault → Type 0
ReadsInMemory Spell (Ok value) = Spell value
ReadsInMemory Spell (Err fault) = IsRefused Spell fault
