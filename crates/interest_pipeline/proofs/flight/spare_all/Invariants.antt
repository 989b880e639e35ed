use Rattle.std.proofs.Common.{◌≡◌, ◌++◌, take, drop, map}
use Rattle.interest_pipeline.specs.Places.{spare}
use Rattle.interest_pipeline.proofs.flight.spare_all.Given as goal

abbrev pub invariant-loop-place : goal.invariant-loop-place
invariant-loop-place l =
    l.places ≡ map spare (take l.place-index l.initial.places) ++ drop l.place-index l.initial.places
