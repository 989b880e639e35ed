use Rattle.std.proofs.Common.{ap, ◌∙◌}
use Rattle.interest_pipeline.specs.Flight.{FlightState}
use Rattle.interest_pipeline.specs.Places.{soonest}
use Rattle.interest_pipeline.proofs.Soonest.{soonest-append}
use Rattle.interest_pipeline.proofs.flight.Flight.soonest.Goals as goal

pub returns : goal.returns
returns c =
    c.sooner.ensures
    ∙ rw (c.soonest.ensures, c.soonest-2.ensures) (soonest-append c.as_slices.result.0.now c.as_slices.result.1.now)
    ∙ ap soonest c.as_slices.ensures.items
    ∙ ap (λ (f : FlightState). soonest f.places) c.self.view_is
