-- Relations between names.
use Rattle.std.specs.Prelude.{◌≡◌, List}
use Rattle.ndn_tlv.specs.Element.{Field}
use Rattle.ndn_names.specs.Name.{IsPrefix}
use Rattle.ndn_names.specs.Order.{IsProperPrefix}
use Rattle.info_rules.specs.declared.rule.Relation.{Relation}
use Rattle.info_rules.specs.declared.rule.Relation.TheVariants as relations

-- the first name has the relation to the second; `IsPrefixOf` includes equal names, and
-- `IsStrictPrefixOf` excludes them
abbrev pub Related : Relation → List Field → List Field → Type 0
Related relations.Equal a b = a ≡ b
Related relations.IsPrefixOf a b = IsPrefix a b
Related relations.IsStrictPrefixOf a b = IsProperPrefix a b
