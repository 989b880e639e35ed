use Rattle.ndn_names.specs.View.{components}
use Rattle.info_rules.proofs.KeyNames.{hierarchical_by, not_hierarchical}
use Rattle.info_rules.proofs.locator.is_hierarchical.Goals as goal

pub returns-in-Some : goal.returns-in-Some
returns-in-Some c =
    hierarchical_by (components c.in-Some.prefix) (components c.args.key) (components c.args.packet) c.is_prefix_of.result c.in-Some.ensures.0 c.in-Some.ensures.1 c.is_prefix_of.ensures

pub returns-in-None : goal.returns-in-None
returns-in-None c = not_hierarchical (components c.args.key) (components c.args.packet) c.in-None.ensures
