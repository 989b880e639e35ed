use Rattle.std.proofs.Common.{ap, sym, ◌∙◌, arith}
use Rattle.ndn_tlv.specs.Fields.{single}
use Rattle.ndn_tlv.proofs.Singles.{single_none, single_alone, single_other, single_longer}
use Rattle.ndn_tlv.proofs.field.single_element.Goals as goal
use Rattle.ndn_tlv.proofs.field.single_element.Goals.{else-element-kind-via-then-element-kind+else-is_empty, else-element-kind-via-else-element-kind}

pub returns-in_default-clause-exact : goal.returns-in_default-clause-exact
returns-in_default-clause-exact c = sym (single_none c.args.kind c.args.octets.now c.in_default.field-0 c.in_default.ensures.walk)

pub returns-then-is_empty-clause-exact : goal.returns-then-is_empty-clause-exact
returns-then-is_empty-clause-exact c =
    let e = c.in-Ok.element in
    let empty = single_alone c.args.kind (e.kind, e.value.now) c.in-Ok.rest.now (grind (arith, c.if-is_empty.ensures)) in
    sym (ap (single c.args.kind) c.in-Ok.ensures.walk ∙ empty ∙ grind (arith, c.if-element-kind.true))

pub returns-clause-exact : goal.returns-clause-exact
returns-clause-exact c =
    let e = c.in-Ok.element in
    elim c.else-element-kind.branch [
      | else-element-kind-via-then-element-kind+else-is_empty w ↦
          sym (ap (single c.args.kind) c.in-Ok.ensures.walk ∙ single_longer c.args.kind (e.kind, e.value.now) c.in-Ok.rest.now (grind (arith, w.is_empty.ensures, w.if-is_empty.false)))
      | else-element-kind-via-else-element-kind w ↦
          sym (ap (single c.args.kind) c.in-Ok.ensures.walk ∙ single_other c.args.kind (e.kind, e.value.now) c.in-Ok.rest.now (grind (arith, w.if-element-kind.false)))
    ]
