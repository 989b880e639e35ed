use Rattle.std.proofs.Common.{◌≡◌, ◌≤◌, ◌∙◌, List, length, map, Err, refl, ap, sym, subst, arith, inr}
use Rattle.std.specs.List.{AllByRecursion}
use Rattle.std.proofs.lemmas.Result.{err_from_is_err_and}
use Rattle.ndn_tlv.specs.Element.{Field}
use Rattle.ndn_names.specs.declared.fault.NameFault.{NameFault}
use Rattle.ndn_names.specs.View.{components}
use Rattle.name_patterns.specs.Template.{PlainPart, expansion_of, CanStand}
use Rattle.name_patterns.specs.Shown.{part_of}
use Rattle.name_patterns.proofs.Expansion.{is_long, is_short, part_fits}
use Rattle.name_patterns.proofs.template.Template.expand.Goals as goal

pub returns-then-is_too_long-clause-long : goal.returns-then-is_too_long-clause-long
returns-then-is_too_long-clause-long c =
    let long = is_long c.args.captures.now (components c.args.name) c.args.self.now c.requires (sym c.if-is_too_long.true ∙ c.is_too_long.ensures) in
    (λ e. long, λ more. refl)

-- after `is_too_long` has returned false, the expanded name has at most 64 components, and a fault
-- of appending a part is `Memory`
memory : (c : goal.After-drop-expanded-inside)
    → (length (expansion_of c.args.self.now c.args.captures.now (components c.args.name)) ≤ 64) × (c.from_residual.result ≡ Err NameFault.Memory)
memory c =
    let captures = c.args.captures.now in
    let cs = components c.args.name in
    let parts = c.deref-part-items.result.now in
    let short = is_short captures cs c.args.self.now c.requires (sym c.if-is_too_long.false ∙ c.is_too_long.ensures) in
    let same : map part_of parts ≡ map part_of c.self.inside.parts.items = ap (map part_of) c.deref-part-items.ensures.value in
    let stand : AllByRecursion CanStand (map part_of parts) = subst (AllByRecursion CanStand) (sym same) c.self.invariant in
    let whole : length (expansion_of (map part_of parts) captures cs) ≤ 64
    = subst (λ (shown : List PlainPart). length (expansion_of shown captures cs) ≤ 64) (sym (same ∙ c.self.view_is)) short in
    let fits = part_fits captures cs part_of parts c.loop-part.part-index c.part-item.result c.loop-part-test.true c.part-item.is stand whole in
    let before = ap (λ (fields : List Field). length fields) c.loop-part.invariant in
    let refused = c.in_err-append_part.ensures.room fits.0 (omega (arith, before, fits.1)) in
    let p = err_from_is_err_and c.from_residual.result c.from_residual.ensures.1 in
    (short, p.1 ∙ ap Err (p.2 ∙ refused))

pub returns-in_err-append_part-clause-long : goal.returns-in_err-append_part-clause-long
returns-in_err-append_part-clause-long c =
    let m = memory c in
    (λ e. let no = sym m.1 ∙ e in absurd cc, λ more. let short = m.0 in absurd (omega (arith, short)))

pub returns-in_err-append_part-clause-fault : goal.returns-in_err-append_part-clause-fault
returns-in_err-append_part-clause-fault c = rw (memory c).1 (inr refl)

pub returns-clause-long : goal.returns-clause-long
returns-clause-long c =
    let short = is_short c.args.captures.now (components c.args.name) c.args.self.now c.requires (sym c.if-is_too_long.false ∙ c.is_too_long.ensures) in
    (λ e. absurd cc, λ more. absurd (omega (arith, short)))
