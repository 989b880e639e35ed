use Rattle.std.proofs.Common.{ap, ◌∙◌, ◌++◌}
use Rattle.scenarios.proofs.Meanings.{spells_on, spells_last}
use Rattle.scenarios.proofs.words.put_spelled.Goals as goal

pub loop-name-preserved : goal.loop-name-preserved
loop-name-preserved c =
    spells_on c.args.words.now c.loop-name.text.items c.loop-name.rest.now c.in-Some.name.now c.in-Some.after.now _ _ _
    c.loop-name.invariant c.in-Some.ensures.found.0 c.in-Some.ensures.found.1
    (c.in_ok-extend_from_slice.ensures.items ∙ ap (λ m. c.loop-name.text.items ++ m) c.meaning_of.ensures)
    c.in_ok-push.ensures.items

pub returns : goal.returns
returns c =
    spells_last c.args.words.now c.loop-name.text.items c.loop-name.rest.now _ _ c.loop-name.invariant
    c.in_default.ensures.none
    (c.in_ok-extend_from_slice-2.ensures.items ∙ ap (λ m. c.loop-name.text.items ++ m) c.meaning_of-2.ensures)
