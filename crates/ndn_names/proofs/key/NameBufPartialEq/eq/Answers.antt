use Rattle.std.proofs.Common.{ap, ◌∙◌}
use Rattle.std.specs.Ordering.{eq_by_cmp}
use Rattle.ndn_names.specs.Order.{name_cmp}
use Rattle.ndn_names.specs.View.{components}
use Rattle.ndn_names.proofs.OctetOrder.{values_equal}
use Rattle.ndn_names.proofs.key.NameBufPartialEq.eq.Goals as goal

pub returns : goal.returns
returns c =
    c.eq.ensures
    ∙ values_equal c.as_octets.result.now c.as_octets-2.result.now (components c.view.result) (components c.view-2.result) c.as_octets.ensures c.as_octets-2.ensures
    ∙ ap (λ name. eq_by_cmp name_cmp name (components c.view-2.result)) c.view.ensures
    ∙ ap (eq_by_cmp name_cmp c.args.self.now) c.view-2.ensures
