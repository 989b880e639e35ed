use Rattle.scenarios.proofs.Answering.{AreAnswersTo-parts}
use Rattle.scenarios.proofs.play.played.Goals as goal

pub returns : goal.returns
returns c =
    let parts = c.in-Some.parts in
    let made = c.in-Some.ensures in
    AreAnswersTo-parts (λ v. v.items) c.args.scenario.now parts.rules parts.keys parts.repo parts.cache c.as_slice.result.now c.answers_to.result
    made.rules made.keys made.repo made.cache c.as_slice.ensures.value c.answers_to.ensures.valid c.answers_to.ensures.answers
