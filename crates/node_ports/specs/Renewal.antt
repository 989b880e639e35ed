-- Rules and keys that replace those in force, with the octets of their files.
use Rattle.std.specs.Prelude.{ℕ, List}
use Rattle.key_files.specs.KeyFile.{NamedKey}
use Rattle.key_files.specs.KeyReading.{AreKeys}
use Rattle.info_rules.specs.Rule.{PlainRule}
use Rattle.node_core.specs.Files.{AreRules}

pub record RenewalValue : Type 0 where
  pub rules : List PlainRule
  pub keys : List NamedKey
  pub rule_octets : List ℕ
  pub key_octets : List ℕ

-- the rules are those of the rule file with the octets `rule_octets`, and the keys are those of the
-- key file with the octets `key_octets`
abbrev pub AreOfFiles : List PlainRule → List NamedKey → List ℕ → List ℕ → Type 0
AreOfFiles rules keys rule_octets key_octets = AreRules rule_octets rules × AreKeys key_octets keys
