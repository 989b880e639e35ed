use Rattle.std.proofs.Common.{arith}
use Rattle.std.proofs.lemmas.Grind.{common_steps}
use Rattle.ndn_names.proofs.Names.{refused, components_of-found, components_of-is, name_at-caused}
use Rattle.ndn_names.proofs.name.Name.read.Goals as goal

pub returns-in_err-check_components-clause-only : goal.returns-in_err-check_components-clause-only
returns-in_err-check_components-clause-only c =
    λ cs h. absurd (refused c.args.value.now c.in_err-check_components.field-0.0 c.in_err-check_components.ensures cs h)

pub returns-in_err-check_components-clause-takes_no_memory :
    goal.returns-in_err-check_components-clause-takes_no_memory
returns-in_err-check_components-clause-takes_no_memory c =
    let e = c.in_err-check_components.ensures in
    let none = name_at-caused c.args.value.now in
    grind (arith, common_steps)

pub invariant_of-result : goal.invariant_of-result
invariant_of-result c =
    let e = c.in_ok-check_components.ensures in
    let found = components_of-found c.args.value.now e.0 (λ i. omega (arith, c.type_inv.value i)) e.1 in
    record { spelled = found.1 }

pub returns-clause-only : goal.returns-clause-only
returns-clause-only c = λ cs h. components_of-is c.args.value.now cs h

pub returns-clause-exact : goal.returns-clause-exact
returns-clause-exact c =
    let e = c.in_ok-check_components.ensures in
    let found = components_of-found c.args.value.now e.0 (λ i. omega (arith, c.type_inv.value i)) e.1 in
    cc
