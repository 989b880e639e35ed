use Rattle.std.proofs.Common.{List, refl}
use Rattle.std.specs.Prelude.{Option, Some, None, Ok, Err, IfOk, IfSome}
use Rattle.std.specs.Option.{option_zip}
use Rattle.name_patterns.specs.Pattern.{PlainPattern}
use Rattle.name_patterns.specs.Template.{PlainPart, NeedAtMost}
use Rattle.info_rules.specs.Found.{Found, both, shown}
use Rattle.info_rules.specs.HyperBlock.{HasGroups, groups_of, half_in}
use Rattle.info_rules.proofs.hyper_block.read_half.Goals as goal

-- if both the pattern and the template are present, the template uses only groups that the pattern
-- has
with_groups : (pattern : Found (Option PlainPattern)) (template : Found (Option (List PlainPart))) → IfOk template (λ t. IfSome t (NeedAtMost (groups_of pattern)))
    → IfOk (shown (λ (p : Option PlainPattern × Option (List PlainPart)). option_zip p.0 p.1) (both pattern template)) HasGroups
with_groups (Ok (Some p)) (Ok (Some t)) h = h
with_groups (Ok (Some p)) (Ok None) h = tt
with_groups (Ok None) (Ok t) h = tt
with_groups (Ok p) (Err f) h = tt
with_groups (Err e) (Ok t) h = tt
with_groups (Err e) (Err f) h = tt

pub returns-clause-read : goal.returns-clause-read
unfolding half_in
returns-clause-read c = rw (c.zipped.ensures, c.both.ensures, c.in_ok-template.ensures.read, c.groups_of.ensures, c.in_ok-pattern.ensures) refl

pub returns-clause-groups : goal.returns-clause-groups
returns-clause-groups c = rw (c.zipped.ensures, c.both.ensures) (with_groups c.in_ok-pattern.pattern c.in_ok-template.template (rw c.groups_of.ensures at c.in_ok-template.ensures.groups))
