-- Words that encode no valid rule file, or no valid key file.
use Rattle.std.proofs.Common.{◌≡◌, ℕ, List, ap, subst, inl, inr}
use Rattle.key_files.specs.KeyFile.{NamedKey}
use Rattle.key_files.specs.KeyReading.{AreKeys, IsFaultOfOctets}
use Rattle.key_files.specs.declared.fault.KeyFault.{KeyFault}
use Rattle.key_files.specs.declared.fault.KeyFault.TheVariants as keys
use Rattle.key_files.proofs.Files.{again}
use Rattle.info_rules.specs.Meaning.{IsRuleFile}
use Rattle.info_rules.specs.Rule.{PlainRule}
use Rattle.info_rules.specs.Tree.{PlainEntry}
use Rattle.info_rules.specs.declared.fault.RulesFault.{RulesFault}
use Rattle.info_rules.specs.declared.fault.RulesFaultKind.TheVariants as kinds
use Rattle.info_rules.proofs.FileMeanings.{file_meant}
use Rattle.info_rules.proofs.TreeFinding.{one_tree, tree_again}
use Rattle.node_core.specs.Files.{AreRules, IsFaultOfRules}
use Rattle.node_core.specs.Script.Line.{HexSpells, SpellsKeys, SpellsRules}
use Rattle.node_core.proofs.OneReading.{HexSpells_once}

-- if reading octets as a rule file has a fault other than Memory, the octets define no rules
rules_or_fault : (octets : List ℕ) (why : RulesFault) (rules : List PlainRule) → IsFaultOfRules octets why → (why.kind ≡ kinds.Memory → ⊥) → AreRules octets rules → ⊥
rules_or_fault octets why rules (inl (utf8, inl (inl tree))) other are = let read = tree_again octets are.1.0 are.1.1 in cc (tree, read)
rules_or_fault octets why rules (inl (utf8, inl (inr memory))) other are = other (ap (λ (f : RulesFault). f.kind) memory)
rules_or_fault octets why rules (inl (utf8, inr (entries, tree, inl refused))) other are =
    let same = one_tree octets are.1.0 entries are.1.1 tree in
    let read = file_meant entries rules (subst (λ (es : List PlainEntry). IsRuleFile es rules) same are.1.2) in cc (refused, read)
rules_or_fault octets why rules (inl (utf8, inr (entries, tree, inr memory))) other are = other (ap (λ (f : RulesFault). f.kind) memory)
rules_or_fault octets why rules (inr (bad, is)) other are = bad are.0

pub no_rules : (octets word : List ℕ) (why : RulesFault) → HexSpells octets word → IsFaultOfRules octets why → (why.kind ≡ kinds.Memory → ⊥)
    → (rules : List PlainRule) → SpellsRules rules word → ⊥
no_rules octets word why spelled fault other rules h =
    let same = HexSpells_once h.0 octets word h.1 spelled in
    rules_or_fault octets why rules fault other (subst (λ (o : List ℕ). AreRules o rules) same h.2)

-- if reading octets as a key file has a fault other than Memory, the octets define no keys
keys_or_fault : (octets : List ℕ) (why : KeyFault) (book : List NamedKey) → IsFaultOfOctets octets why → (why ≡ keys.Memory → ⊥) → AreKeys octets book → ⊥
keys_or_fault octets why book (inl (utf8, inl refused)) other are = let read = again octets book are.1 in cc (refused, read)
keys_or_fault octets why book (inl (utf8, inr memory)) other are = other memory.0
keys_or_fault octets why book (inr (bad, is)) other are = bad are.0

pub no_keys : (octets word : List ℕ) (why : KeyFault) → HexSpells octets word → IsFaultOfOctets octets why → (why ≡ keys.Memory → ⊥)
    → (book : List NamedKey) → SpellsKeys book word → ⊥
no_keys octets word why spelled fault other book h =
    let same = HexSpells_once h.0 octets word h.1 spelled in
    keys_or_fault octets why book fault other (subst (λ (o : List ℕ). AreKeys o book) same h.2)
