use Rattle.std.proofs.Common.{ap, ◌∙◌, drop}
use Rattle.std.specs.Prelude.{bytes_eq}
use Rattle.ndn_names.specs.View.{components}
use Rattle.mgmt_core.proofs.Strategies.{same_octets, value_begins}
use Rattle.mgmt_core.proofs.strategy_name.is_name_of.Goals as goal

pub returns : goal.returns
returns c =
    c.eq.ensures
    ∙ ap (bytes_eq c.as_octets.result.now) (c.split_at.ensures.back ∙ ap (drop 2) c.strategy_value.ensures ∙ value_begins c.args.strategy)
    ∙ same_octets c.as_octets.result.now (components c.args.name) c.args.strategy c.as_octets.ensures
