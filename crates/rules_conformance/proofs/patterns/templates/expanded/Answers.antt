use Rattle.rules_conformance.proofs.patterns.templates.expanded.Goals as goal

pub expand-made-requires : goal.expand-made-requires
expand-made-requires c = c.in-Some.ensures.there c.in_ok-template.template (rw c.groups.ensures.exact at c.in_ok-template.ensures.groups)
