use Rattle.std.proofs.Common.{◌≡◌, Some, sym, ◌∙◌, arith}
use Rattle.ndn_packets.specs.Covered.{from_first}
use Rattle.ndn_packets.proofs.Cuts.{next_is, next_other, next_none, cut_within}
use Rattle.ndn_packets.proofs.covered.from_first.Goals as goal
use Rattle.ndn_packets.proofs.covered.from_first.Goals.{Then-element-kind}

pub loop-element-preserved : goal.loop-element-preserved
loop-element-preserved c =
    sym (next_other c.args.kind c.loop-element.rest.now (c.in-Ok.element.kind, c.in-Ok.element.value.now) c.in-Ok.after.now c.in-Ok.ensures.exact c.if-element-kind.false) ∙ c.loop-element.invariant

cut_here : (c : Then-element-kind) → from_first c.args.kind c.args.octets.now ≡ Some c.loop-element.rest.now
cut_here c = sym c.loop-element.invariant ∙ next_is c.args.kind c.loop-element.rest.now (c.in-Ok.element.kind, c.in-Ok.element.value.now) c.in-Ok.after.now c.in-Ok.ensures.exact c.if-element-kind.true

pub returns-then-element-kind : goal.returns-then-element-kind
returns-then-element-kind c = record {
  exact = sym (cut_here c);
  within = cut_within c.args.kind c.args.octets.now c.loop-element.rest.now (λ i. omega (arith, c.type_inv.octets i)) (cut_here c);
}

pub returns-clause-exact : goal.returns-clause-exact
returns-clause-exact c = sym (next_none c.args.kind c.loop-element.rest.now c.in_default.field-0 c.in_default.ensures.exact) ∙ c.loop-element.invariant
