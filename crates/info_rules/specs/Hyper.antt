-- Relations between a key's name and a packet's name, as plain data.
use Rattle.std.specs.Prelude.{List, length}
use Rattle.name_patterns.specs.Pattern.{PlainPattern}
use Rattle.name_patterns.specs.Template.{PlainPart, NeedAtMost}
use Rattle.info_rules.specs.declared.rule.Relation.{Relation}

-- a pattern and a template for the key's name, a pattern and a template for the packet's name, and
-- the relation that the first expanded name must have to the second
pub record PlainHyper : Type 0 where
  pub key_pattern : PlainPattern
  pub key_template : List PlainPart
  pub relation : Relation
  pub packet_pattern : PlainPattern
  pub packet_template : List PlainPart

-- each template uses only groups that its pattern has
abbrev pub HasGroups : PlainHyper → Type 0
HasGroups hyper =
    NeedAtMost (length hyper.key_pattern.groups) hyper.key_template
    × NeedAtMost (length hyper.packet_pattern.groups) hyper.packet_template
