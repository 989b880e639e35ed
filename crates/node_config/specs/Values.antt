-- The values of keys.
use Rattle.std.specs.Prelude.{ℕ, List, Option, None, Some, Ok, codes}
use Rattle.ndn_tlv.specs.Element.{Field}
use Rattle.ndn_names.specs.ReadsAs.{ReadsAs}
use Rattle.info_rules.specs.Tree.{Block}
use Rattle.node_config.specs.declared.fault.ConfigFaultKind.{ConfigFaultKind}
use Rattle.node_config.specs.declared.fault.ConfigFaultKind.TheVariants.{BadPath, BadPrefix}
use Rattle.node_config.specs.Faults.{fault_on}
use Rattle.node_config.specs.Keys.{text_in}
use Rattle.node_config.specs.Reading.{Reading, ◌>>=◌, Finds, Gives}
use Rattle.node_config.specs.Words.{IsPath}

-- the value that the text spells, or a fault of this kind at its line
abbrev pub Spelled : {A : Type 0} → (List ℕ → A → Type 0) → ConfigFaultKind → ℕ × List ℕ → Reading A
Spelled Spells kind text = Finds (Spells text.1) (fault_on kind text.0)

-- the value that the text spells, or None without a text
abbrev pub SpelledIfGiven : {A : Type 0} → (List ℕ → A → Type 0) → ConfigFaultKind
    → Option (ℕ × List ℕ) → Reading (Option A)
SpelledIfGiven Spells kind None = Gives (Ok None)
SpelledIfGiven Spells kind (Some text) = Spelled Spells kind text >>= λ x. Gives (Ok (Some x))

-- the value of the key `word`, or None if there is no such key
abbrev pub ValueAt : {A : Type 0} → (List ℕ → A → Type 0) → ConfigFaultKind → List ℕ → List Block
    → Reading (Option A)
ValueAt Spells kind word keys = Gives (text_in word keys) >>= SpelledIfGiven Spells kind

abbrev pub given_or : {A : Type 0} → A → Option A → A
given_or default None = default
given_or default (Some x) = x

-- the value of the key `word`, or the default value if there is no such key
abbrev pub ValueOr : {A : Type 0} → (List ℕ → A → Type 0) → ConfigFaultKind → A → List ℕ
    → List Block → Reading A
ValueOr Spells kind default word keys =
    ValueAt Spells kind word keys >>= λ given. Gives (Ok (given_or default given))

-- the path that is the value of the key `word`, or None if there is no such key
abbrev pub PathAt : List ℕ → List Block → Reading (Option (List ℕ))
PathAt word keys = ValueAt IsPath BadPath word keys

-- the name whose URI is the text, or the name `/repo` without a text
abbrev pub PrefixIfGiven : Option (ℕ × List ℕ) → Reading (List Field)
PrefixIfGiven None = Finds (ReadsAs (codes "/repo")) (fault_on BadPrefix 0)
PrefixIfGiven (Some text) = Spelled ReadsAs BadPrefix text

-- the name whose URI is the value of the key `word`, or the name `/repo` if there is no such key
abbrev pub PrefixAt : List ℕ → List Block → Reading (List Field)
PrefixAt word keys = Gives (text_in word keys) >>= PrefixIfGiven
