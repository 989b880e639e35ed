use Rattle.std.proofs.Common.{take, sym, ap, ◌∙◌}
use Rattle.ndn_names.specs.Reading.{component_of}
use Rattle.ndn_names.specs.ComponentText.{value_in}
use Rattle.ndn_names.proofs.ComponentTexts.{plain_said}
use Rattle.ndn_names.proofs.component_text.plain_text.Goals as goal

pub returns : goal.returns
returns c =
    let counted = c.in_ok-count.ensures in
    let value = take c.in_ok-len.len counted.0 in
    let cut = c.in_ok-len.ensures.read counted.0 counted.2 counted.3 in
    plain_said c.args.kind c.in_ok-kind.kind c.in_ok-len.len c.args.text.now counted.0 (value_in c.in_ok-len.len c.value_text-value.result) counted.1 cut.0 cut.1
    (ap (λ k. component_of (k, value)) (sym c.from.ensures) ∙ sym (c.in_ok-kind.ensures value cut.1))
    (c.value_text-value.ensures counted.0 counted.1 counted.2)
