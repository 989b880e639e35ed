use Rattle.std.proofs.Common.{◌≢◌, ◌<◌, ◌+◌, List, [], ◌∷◌, ◌++◌, length, ap, ◌∙◌, sym, arith}
use Rattle.std.proofs.lemmas.Bool.{eqb-true, eqb-false}
use Rattle.std.proofs.lemmas.List.{nil_from_length}
use Rattle.ndn_tlv.specs.Element.{Field}
use Rattle.ndn_names.proofs.Names.{Reads, reads_on, reads_all, too_many}
use Rattle.ndn_names.proofs.Findings.{begins_finding, finding_past, finding_more, found_all, is_nothing}
use Rattle.ndn_names.proofs.first_of_type.first_of_type.Goals as goal
use Rattle.ndn_names.proofs.first_of_type.first_of_type.Goals.{then-component-kind, else-component-kind}

pub loop-rest-init : goal.loop-rest-init
loop-rest-init c = (omega arith, begins_finding c.args.kind c.args.octets.now)

pub returns-then-count-eq-MAX_COMPONENTS : goal.returns-then-count-eq-MAX_COMPONENTS
returns-then-count-eq-MAX_COMPONENTS c =
    let on = c.loop-rest.invariant.1 in
    let some = eqb-false (length c.loop-rest.rest.now) 0 (sym c.is_empty.ensures ∙ c.loop-rest-test.true) in
    too_many c.loop-rest.count c.loop-rest.rest.now c.args.octets.now c.if-count-eq-MAX_COMPONENTS.true (λ e. some (ap length e)) (on.front, on.reads)

pub loop-rest-preserved : goal.loop-rest-preserved
loop-rest-preserved c =
    let ne = c.if-count-eq-MAX_COMPONENTS.false in
    let at = c.loop-rest in
    let on = at.invariant in
    let value = c.args.octets.now in
    let after = c.in_ok-component.after.now in
    let first : Field = (c.in_ok-component.component.kind, c.in_ok-component.component.value.now) in
    let w = c.in_ok-component.ensures.walk in
    let below : at.count < 64 = omega arith in
    let empty = eqb-false (length at.rest.now) 0 (sym c.is_empty.ensures ∙ c.loop-rest-test.true) in
    let some : at.rest.now ≢ [] = λ e. empty (ap length e) in
    let step : (front : List Field) → Reads at.count at.rest.now value front → Reads (at.count + 1) after value (front ++ first ∷ []) = λ front reads. reads_on at.count at.rest.now after value first front below w.0 w.1 reads in (
      omega arith,
      elim c.if-component-kind.branch [
        | then-component-kind w ↦ rw (w.found-is)
            (finding_more c.args.kind at.count at.rest.now after value first at.found w.is_empty-then-component-kind.result w.with_another.result some w.if-component-kind.true (is_nothing after _ w.is_empty-then-component-kind.ensures) w.with_another.ensures step on.1)
        | else-component-kind w ↦ rw (w.found-is) (finding_past c.args.kind at.count at.rest.now after value first at.found some w.if-component-kind.false step on.1)
      ],
    )

pub returns : goal.returns
returns c =
    let at = c.loop-rest in
    let on = at.invariant.1 in
    let none = nil_from_length at.rest.now (eqb-true (length at.rest.now) 0 (sym c.is_empty.ensures ∙ c.loop-rest-test.false)) in
    (on.front, reads_all at.count at.rest.now c.args.octets.now on.front none on.reads, found_all c.args.kind on.front at.rest.now at.found none on.first)
