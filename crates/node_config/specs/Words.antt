-- Numbers, words and paths.
use Rattle.std.specs.Prelude.{◌≡◌, ◌≢◌, ℕ, ◌<◌, ◌≤◌, ◌^◌, List, [], Bool, true, false, codes}
use Rattle.std.specs.Str.Parse.{IsNumeral, digits_value}
use Rattle.node_config.specs.declared.config.LogLevel.{LogLevel}
use Rattle.node_config.specs.declared.config.LogLevel.TheVariants as levels
use Rattle.node_config.specs.declared.config.Scope.{Scope}
use Rattle.node_config.specs.declared.config.Scope.TheVariants as scopes
use Rattle.node_config.specs.declared.words.Capacity.{Capacity}
use Rattle.node_config.specs.declared.words.Consent.{Consent}
use Rattle.node_config.specs.declared.words.Seconds.{Seconds}
use Rattle.node_config.specs.declared.words.Turns.{Turns}

-- the text spells the number in decimal digits; leading zeros are allowed
abbrev pub IsDecimal : List ℕ → ℕ → Type 0
IsDecimal text n = IsNumeral 10 text × (digits_value 10 text ≡ n)

-- a number from 1 to 65,536
abbrev pub IsCapacity : List ℕ → Capacity → Type 0
IsCapacity text capacity = IsDecimal text capacity.0 × (0 < capacity.0) × (capacity.0 ≤ 65536)

-- a number from 1 to 2^32 - 1
abbrev pub IsSeconds : List ℕ → Seconds → Type 0
IsSeconds text seconds = IsDecimal text seconds.0 × (0 < seconds.0) × (seconds.0 < 2 ^ 32)

-- a number below 2^64
abbrev pub IsTurns : List ℕ → Turns → Type 0
IsTurns text turns = IsDecimal text turns.0 × (turns.0 < 2 ^ 64)

abbrev pub IsLevel : List ℕ → LogLevel → Type 0
IsLevel text levels.None = text ≡ codes "none"
IsLevel text levels.Events = text ≡ codes "events"
IsLevel text levels.All = text ≡ codes "all"

abbrev pub IsScope : List ℕ → Scope → Type 0
IsScope text scopes.Local = text ≡ codes "local"
IsScope text scopes.Far = text ≡ codes "far"

abbrev pub word_of : Bool → List ℕ
word_of true = codes "yes"
word_of false = codes "no"

-- the word `yes` or `no`
abbrev pub IsConsent : List ℕ → Consent → Type 0
IsConsent text consent = text ≡ word_of consent.0

-- a path is any text that is not empty
abbrev pub IsPath : List ℕ → List ℕ → Type 0
IsPath text path = (path ≡ text) × (text ≢ [])
