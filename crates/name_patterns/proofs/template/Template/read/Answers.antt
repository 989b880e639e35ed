use Rattle.std.proofs.Common.{map, Ok, Err}
use Rattle.std.proofs.lemmas.Result.{err_from_is_err_and}
use Rattle.name_patterns.specs.Shown.{part_of}
use Rattle.name_patterns.proofs.TemplateReading.{template_found, template_only, template_stands, template_needs}
use Rattle.name_patterns.proofs.template.Template.read.Goals as goal

pub returns-in_err-parts-clause-only : goal.returns-in_err-parts-clause-only
returns-in_err-parts-clause-only c =
    let p = err_from_is_err_and c.from_residual.result c.from_residual.ensures.1 in
    rw (p.1, p.2) (template_only c.args.groups c.args.text.now (Err c.in_err-parts.field-0.0) c.in_err-parts.ensures)

pub invariant_of-result : goal.invariant_of-result
invariant_of-result c =
    let parts = map part_of c.in_ok-parts.parts.items in
    template_stands c.args.groups c.args.text.now parts (template_found c.args.groups c.args.text.now parts c.in_ok-parts.ensures)

pub returns-clause-found : goal.returns-clause-found
returns-clause-found c = template_found c.args.groups c.args.text.now (map part_of c.in_ok-parts.parts.items) c.in_ok-parts.ensures

pub returns-clause-only : goal.returns-clause-only
returns-clause-only c = template_only c.args.groups c.args.text.now (Ok (map part_of c.in_ok-parts.parts.items)) c.in_ok-parts.ensures

pub returns-clause-groups : goal.returns-clause-groups
returns-clause-groups c =
    let parts = map part_of c.in_ok-parts.parts.items in
    template_needs c.args.groups c.args.text.now parts (template_found c.args.groups c.args.text.now parts c.in_ok-parts.ensures)
