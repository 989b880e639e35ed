use Rattle.std.proofs.Common.{◌∙◌}
use Rattle.std.specs.Option.{option_and_then}
use Rattle.pit_fib.specs.Kept.{by_flags, row_of}
use Rattle.pit_fib.proofs.Rows.{changed_is}
use Rattle.pit_fib.proofs.slots.Slots.revise.Goals as goal

pub returns : goal.returns
returns g c =
    let after = g.R.Revision.after c.args.how.now in
    (λ i. row_of (by_flags
    ((c.revised.ensures ∙ (λ j. option_and_then (after (c.new.ensures j)) (c.take.ensures.value j))) i)
    ((c.revised-2.ensures ∙ (λ j. option_and_then (after (c.new-2.ensures j)) (c.take-2.ensures.value j))) i)
    ((c.revised-3.ensures ∙ (λ j. option_and_then (after (c.new-3.ensures j)) (c.take-3.ensures.value j))) i)
    ((c.revised-4.ensures ∙ (λ j. option_and_then (after (c.new-4.ensures j)) (c.take-4.ensures.value j))) i)))
    ∙ changed_is after c.self.inside.exact c.self.inside.exact_fresh c.self.inside.prefix c.self.inside.prefix_fresh c.args.self.now c.self.view_is
