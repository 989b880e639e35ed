use Rattle.ndn_names.specs.View.{components}
use Rattle.name_patterns.proofs.Expansion.{is_long, is_short}
use Rattle.info_rules.proofs.Matches.{too_long, not_too_long}
use Rattle.info_rules.proofs.locator.captured.Goals as goal

pub returns-then-is_too_long-clause-none : goal.returns-then-is_too_long-clause-none
returns-then-is_too_long-clause-none c =
    let there = c.in_ok-captures.ensures.there c.args.template.now c.requires in
    too_long c.args.pattern.now c.args.template.now (components c.args.name) c.in_ok-captures.captures c.in_ok-captures.ensures.found
    (is_long c.in_ok-captures.captures (components c.args.name) c.args.template.now there c.if-is_too_long.ensures)

pub returns-clause-made : goal.returns-clause-made
returns-clause-made c =
    let there = c.in_ok-captures.ensures.there c.args.template.now c.requires in
    not_too_long c.args.pattern.now c.args.template.now (components c.args.name) c.in_ok-captures.captures c.in_ok-captures.ensures.found
    (is_short c.in_ok-captures.captures (components c.args.name) c.args.template.now there c.if-is_too_long.ensures)

pub returns-clause-there : goal.returns-clause-there
returns-clause-there c = c.in_ok-captures.ensures.there c.args.template.now c.requires
