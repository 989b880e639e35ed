use Rattle.std.proofs.Common.{◌∙◌, subst, List}
use Rattle.ndn_names.specs.View.{components}
use Rattle.info_rules.specs.Rule.{PlainRule}
use Rattle.info_rules.specs.First.{NoneApplies, First}
use Rattle.info_rules.proofs.Firsts.{first_here, none_more, none_applies}
use Rattle.info_rules.proofs.rules.Rules.first_match.Goals as goal

pub returns-then-applies : goal.returns-then-applies
returns-then-applies c =
    let shown = c.deref-rule-items.ensures.value ∙ c.self.view_is in
    subst (λ (rules : List PlainRule). First rules c.args.kind (components c.args.name) c.loop-number.number) shown
    (first_here c.deref-rule-items.result.now c.args.kind (components c.args.name) c.loop-number.number c.rule-item.result c.loop-number-test.true c.rule-item.is
    (c.applies.ensures.0 c.if-applies.true) c.loop-number.invariant)

pub loop-number-preserved : goal.loop-number-preserved
loop-number-preserved c =
    none_more c.deref-rule-items.result.now c.args.kind (components c.args.name) c.loop-number.number c.rule-item.result c.loop-number-test.true c.rule-item.is
    (λ h.
    let is = c.applies.ensures.1 h in
    let other = c.if-applies.false in
    absurd cc)
    c.loop-number.invariant

pub returns : goal.returns
returns c =
    let shown = c.deref-rule-items.ensures.value ∙ c.self.view_is in
    subst (λ (rules : List PlainRule). NoneApplies rules c.args.kind (components c.args.name)) shown
    (none_applies c.deref-rule-items.result.now c.args.kind (components c.args.name) c.loop-number.number c.loop-number-test.false c.loop-number.invariant)
