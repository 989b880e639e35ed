use Rattle.std.proofs.Common.{◌≡◌, Ok, rules, sym, ap, ◌∙◌}
use Rattle.ndn_tlv.specs.Reading.{element_at}
use Rattle.ndn_packets.specs.Reading.{name_first}
use Rattle.ndn_packets.proofs.Cuts.{next_other}
use Rattle.ndn_packets.proofs.Rules.{elements_of-empty}
use Rattle.ndn_packets.proofs.field_reader.leading_value.Goals as goal

pub returns-then-is_empty-clause-exact : goal.returns-then-is_empty-clause-exact
returns-then-is_empty-clause-exact c = sym (ap name_first (elements_of-empty c.args.value.now (sym c.is_empty.ensures ∙ c.if-is_empty.true)))

pub returns-clause-place : goal.returns-clause-place
returns-clause-place c =
    let first = c.in_ok-first.first in
    let here : Ok ((first.kind, first.value.now), c.in_ok-first.rest.now) ≡ element_at c.args.value.now = search rules in
    λ kind other. next_other kind c.args.value.now (first.kind, first.value.now) c.in_ok-first.rest.now here (λ is. other (sym is ∙ c.if-first-ne-NAME.false))
