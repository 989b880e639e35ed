use Rattle.std.proofs.Common.{arith}
use Rattle.std.proofs.lemmas.List.{get_or_default}
use Rattle.std.proofs.lemmas.List.Edits.{map_over_more}
use Rattle.interest_pipeline.specs.Places.{expire}
use Rattle.interest_pipeline.specs.declared.place.Place.TheVariants.{Answered}
use Rattle.interest_pipeline.proofs.flight.expire_all.Goals as goal

pub loop-place-preserved : goal.loop-place-preserved
loop-place-preserved c =
    let places = c.loop-place.places in
    let index = c.loop-place.place-index in
    rw c.expired.ensures (map_over_more (expire c.args.now) c.args.places.now places index _ (omega arith) c.loop-place.invariant (get_or_default places index Answered _ (omega arith)))
