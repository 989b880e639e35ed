use Rattle.std.proofs.Common.{◌≡◌, drop}
use Rattle.interest_pipeline.specs.Places.{sooner, soonest}
use Rattle.interest_pipeline.proofs.flight.soonest.Given as goal

abbrev pub invariant-loop-place : goal.invariant-loop-place
invariant-loop-place l = sooner l.least (soonest (drop l.place-index l.places)) ≡ soonest l.places
