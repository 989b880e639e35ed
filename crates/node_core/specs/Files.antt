-- Reading the octets of rule files.
use Rattle.std.specs.Prelude.{◌≡◌, ◌⊎◌, ℕ, List, Err, IsUtf8}
use Rattle.info_rules.specs.declared.fault.RulesFault.{RulesFault}
use Rattle.info_rules.specs.declared.fault.RulesFaultKind.TheVariants.{Syntax}
use Rattle.info_rules.specs.Faults.{memory_fault}
use Rattle.info_rules.specs.Meaning.{IsRuleFile}
use Rattle.info_rules.specs.Rule.{PlainRule}
use Rattle.info_rules.specs.RuleFile.{rules_in}
use Rattle.info_rules.specs.Tree.{PlainEntry}
use Rattle.info_rules.specs.TreeGrammar.{TreeOf}
use Rattle.info_rules.specs.TreeReading.{tree_in, IsTreeFaultOf}

-- the octets are UTF-8 text whose entries define these rules
abbrev pub AreRules : List ℕ → List PlainRule → Type 0
AreRules octets rules =
    IsUtf8 octets × ((entries : List PlainEntry) × TreeOf octets entries × IsRuleFile entries rules)

-- the octets are the text of some entries, and `why` is either the first fault of these entries or
-- the report that memory ran out
abbrev pub IsFaultOfEntries : List ℕ → RulesFault → Type 0
IsFaultOfEntries octets why =
    (entries : List PlainEntry) × TreeOf octets entries
    × ((rules_in entries ≡ Err why) ⊎ (why ≡ memory_fault))

-- `why` is a fault of reading the octets as a rule file. If the octets are not UTF-8, `why` is a
-- `Syntax` fault at line 0. Otherwise `why` is a fault of the text, a fault of the entries in the
-- text, or the report that memory ran out.
abbrev pub IsFaultOfRules : List ℕ → RulesFault → Type 0
IsFaultOfRules octets why =
    (IsUtf8 octets × (IsTreeFaultOf (tree_in octets) why ⊎ IsFaultOfEntries octets why))
    ⊎ (¬ (IsUtf8 octets) × (why ≡ record { line = 0; kind = Syntax }))
