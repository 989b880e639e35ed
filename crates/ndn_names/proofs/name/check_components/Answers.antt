use Rattle.std.proofs.Common.{◌<◌, length, ap, ◌∙◌, sym, arith}
use Rattle.std.proofs.lemmas.Bool.{eqb-true, eqb-false}
use Rattle.std.proofs.lemmas.List.{nil_from_length}
use Rattle.ndn_names.proofs.Names.{begins, goes_on, is_done, too_many}
use Rattle.ndn_names.proofs.name.check_components.Goals as goal

pub loop-rest-init : goal.loop-rest-init
loop-rest-init c = (omega arith, begins c.args.octets.now)

pub returns-then-count-eq-MAX_COMPONENTS : goal.returns-then-count-eq-MAX_COMPONENTS
returns-then-count-eq-MAX_COMPONENTS c =
    let some = eqb-false (length c.loop-rest.rest.now) 0 (sym c.is_empty.ensures ∙ c.loop-rest-test.true) in
    too_many c.loop-rest.count c.loop-rest.rest.now c.args.octets.now c.if-count-eq-MAX_COMPONENTS.true (λ e. some (ap length e)) c.loop-rest.invariant.1

pub loop-rest-preserved : goal.loop-rest-preserved
loop-rest-preserved c =
    let ne = c.if-count-eq-MAX_COMPONENTS.false in
    let on = c.loop-rest.invariant in
    let w = c.in_ok-rest.ensures.walk in
    let below : c.loop-rest.count < 64 = omega arith in
    (omega arith, goes_on c.loop-rest.count c.loop-rest.rest.now c.in_ok-rest.field-0-1.now c.args.octets.now (c.in_ok-rest.field-0-0.kind, c.in_ok-rest.field-0-0.value.now) below w.0 w.1 on.1)

pub returns : goal.returns
returns c =
    let none = nil_from_length c.loop-rest.rest.now (eqb-true (length c.loop-rest.rest.now) 0 (sym c.is_empty.ensures ∙ c.loop-rest-test.false)) in
    is_done c.loop-rest.count c.loop-rest.rest.now c.args.octets.now none c.loop-rest.invariant.1
