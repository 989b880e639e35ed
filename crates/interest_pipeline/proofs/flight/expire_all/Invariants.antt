use Rattle.std.proofs.Common.{◌≡◌, ◌++◌, take, drop, map}
use Rattle.interest_pipeline.specs.Places.{expire}
use Rattle.interest_pipeline.proofs.flight.expire_all.Given as goal

abbrev pub invariant-loop-place : goal.invariant-loop-place
invariant-loop-place l =
    l.places ≡ map (expire l.now) (take l.place-index l.initial.places) ++ drop l.place-index l.initial.places
