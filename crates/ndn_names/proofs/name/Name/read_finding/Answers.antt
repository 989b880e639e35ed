use Rattle.std.proofs.Common.{List, sym, subst, arith}
use Rattle.ndn_tlv.specs.Element.{Field}
use Rattle.ndn_names.specs.FirstOfType.{FindsFirst}
use Rattle.ndn_names.proofs.Names.{components_of-found}
use Rattle.ndn_names.proofs.name.Name.read_finding.Goals as goal

pub invariant_of-result : goal.invariant_of-result
invariant_of-result c =
    let e = c.in_ok-first.ensures in
    record { spelled = (components_of-found c.args.value.now e.0 (λ i. omega (arith, c.type_inv.value i)) e.1).1 }

pub returns-clause-exact : goal.returns-clause-exact
returns-clause-exact c =
    let e = c.in_ok-first.ensures in
    let found = components_of-found c.args.value.now e.0 (λ i. omega (arith, c.type_inv.value i)) e.1 in
    cc

pub returns-clause-first : goal.returns-clause-first
returns-clause-first c =
    let e = c.in_ok-first.ensures in
    let found = components_of-found c.args.value.now e.0 (λ i. omega (arith, c.type_inv.value i)) e.1 in
    subst (λ (cs : List Field). FindsFirst c.args.kind cs c.in_ok-first.first) (sym found.0) e.2
