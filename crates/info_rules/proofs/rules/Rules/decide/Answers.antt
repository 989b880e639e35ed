use Rattle.std.proofs.Common.{◌≡◌, List, get_or, rules, subst, ap, ◌∙◌}
use Rattle.ndn_names.specs.View.{components}
use Rattle.info_rules.specs.declared.rule.Checker.{Checker}
use Rattle.info_rules.specs.declared.decision.Decision.TheVariants as decisions
use Rattle.info_rules.specs.Rule.{PlainRule}
use Rattle.info_rules.specs.Decides.{Allow, Deny, AnyExpands, MayRefuse}
use Rattle.info_rules.specs.Shown.{frame_of, seen_of}
use Rattle.info_rules.proofs.Outcomes.{decides_shown, first_item, refusal_shown}
use Rattle.info_rules.proofs.rules.Rules.decide.Goals as goal

pub returns-in-Some-reason : goal.returns-in-Some-reason
returns-in-Some-reason c =
    let against = rw c.in-Some-reason.is at c.in_ok-reason.ensures in
    let item = subst (λ (rules : List PlainRule). c.index.result.now ≡ get_or rules c.in-Some.rule.0 c.index.result.now) c.self.view_is c.index.ensures in
    let deny = subst (λ (all : List Checker). Deny c.args.keys.now all (seen_of c.args.packet) c.in-Some-reason.reason) (c.deref.ensures.value ∙ ap (λ (rule : PlainRule). rule.checkers) c.behind-self.view_is) against in
    let first = first_item c.args.self.now c.args.packet c.kind.result (components c.name-name.result) c.in-Some.rule.0 c.index.result.now c.kind.ensures c.name-name.ensures item c.in-Some.ensures in
    decides_shown c.args.self.now c.args.keys.now c.args.packet (decisions.Denied c.in-Some.rule c.in-Some-reason.reason) (c.index.result.now, first, deny)

pub returns-in-None : goal.returns-in-None
returns-in-None c =
    let against = rw c.in-None.is at c.in_ok-reason.ensures in
    let item = subst (λ (rules : List PlainRule). c.index.result.now ≡ get_or rules c.in-Some.rule.0 c.index.result.now) c.self.view_is c.index.ensures in
    let allow = subst (λ (all : List Checker). Allow c.args.keys.now all (seen_of c.args.packet)) (c.deref.ensures.value ∙ ap (λ (rule : PlainRule). rule.checkers) c.behind-self.view_is) against in
    let first = first_item c.args.self.now c.args.packet c.kind.result (components c.name-name.result) c.in-Some.rule.0 c.index.result.now c.kind.ensures c.name-name.ensures item c.in-Some.ensures in
    decides_shown c.args.self.now c.args.keys.now c.args.packet (decisions.Allowed c.in-Some.rule) (c.index.result.now, first, allow)

pub returns-in_err-reason : goal.returns-in_err-reason
returns-in_err-reason c =
    let item = subst (λ (rules : List PlainRule). c.index.result.now ≡ get_or rules c.in-Some.rule.0 c.index.result.now) c.self.view_is c.index.ensures in
    let expands = subst (λ (all : List Checker). AnyExpands all (seen_of c.args.packet)) (c.deref.ensures.value ∙ ap (λ (rule : PlainRule). rule.checkers) c.behind-self.view_is) c.in_err-reason.ensures in
    let first = first_item c.args.self.now c.args.packet c.kind.result (components c.name-name.result) c.in-Some.rule.0 c.index.result.now c.kind.ensures c.name-name.ensures item c.in-Some.ensures in
    let refuses : MayRefuse c.args.self.now (frame_of c.args.packet) = refusal_shown c.args.self.now c.args.packet (c.in-Some.rule.0, c.index.result.now, first, expands) in
    search rules
