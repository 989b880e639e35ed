use Rattle.std.proofs.Common.{sym, arith}
use Rattle.std.proofs.lemmas.Result.{err_from_is_err_and}
use Rattle.ndn_tlv.proofs.Fields.{whole_is, only_read, never_refused, element_fault, elements_of-ok, elements_of-err}
use Rattle.ndn_tlv.proofs.element.first_element.Goals as goal

pub returns-in_err-kind-clause-only : goal.returns-in_err-kind-clause-only
returns-in_err-kind-clause-only c =
    let p = err_from_is_err_and c.from_residual.result c.from_residual.ensures.1 in
    rw p.1 (never_refused c.args.octets.now c.in_err-kind.field-0.0 c.in_err-kind.ensures)

pub returns-in_err-kind-clause-fault : goal.returns-in_err-kind-clause-fault
returns-in_err-kind-clause-fault c =
    let p = err_from_is_err_and c.from_residual.result c.from_residual.ensures.1 in
    rw (p.1, p.2) (element_fault c.args.octets.now c.in_err-kind.field-0.0 (λ i. omega (arith, c.type_inv.octets i)) (sym c.in_err-kind.ensures))

pub returns-in_err-kind-clause-walk : goal.returns-in_err-kind-clause-walk
returns-in_err-kind-clause-walk c =
    let p = err_from_is_err_and c.from_residual.result c.from_residual.ensures.1 in
    rw (p.1, p.2) (λ some. elements_of-err c.args.octets.now c.in_err-kind.field-0.0 some (sym c.in_err-kind.ensures))

pub slice_bounds-whole-count : goal.slice_bounds-whole-count
slice_bounds-whole-count c =
    let w = whole_is c.args.octets.now c.in_ok-kind.kind c.in_ok-kind.value.now c.in_ok-kind.rest.now (λ i. omega (arith, c.type_inv.octets i)) c.in_ok-kind.ensures in
    omega (arith, w.2)

pub invariant_of-result : goal.invariant_of-result
invariant_of-result c =
    let w = whole_is c.args.octets.now c.in_ok-kind.kind c.in_ok-kind.value.now c.in_ok-kind.rest.now (λ i. omega (arith, c.type_inv.octets i)) c.in_ok-kind.ensures in
    record { spelled = w.0 }

pub returns-clause-found : goal.returns-clause-found
returns-clause-found c = whole_is c.args.octets.now c.in_ok-kind.kind c.in_ok-kind.value.now c.in_ok-kind.rest.now (λ i. omega (arith, c.type_inv.octets i)) c.in_ok-kind.ensures

pub returns-clause-only : goal.returns-clause-only
returns-clause-only c = only_read c.args.octets.now c.in_ok-kind.kind c.in_ok-kind.value.now c.in_ok-kind.rest.now c.in_ok-kind.ensures

pub returns-clause-walk : goal.returns-clause-walk
returns-clause-walk c = elements_of-ok c.args.octets.now (c.in_ok-kind.kind, c.in_ok-kind.value.now) c.in_ok-kind.rest.now (sym c.in_ok-kind.ensures)
