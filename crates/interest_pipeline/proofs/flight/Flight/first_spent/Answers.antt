use Rattle.std.proofs.Common.{ap, sym, arith, ◌∙◌}
use Rattle.std.specs.Prelude.{position}
use Rattle.interest_pipeline.specs.Flight.{FlightState}
use Rattle.interest_pipeline.specs.Places.{is_spent}
use Rattle.interest_pipeline.proofs.NoneLost.{none_spent}
use Rattle.interest_pipeline.proofs.flight.Flight.first_spent.Goals as goal

pub returns-then-self-eq0-clause-exact : goal.returns-then-self-eq0-clause-exact
returns-then-self-eq0-clause-exact c =
    sym (none_spent c.self.inside.places.items (omega arith)) ∙ ap (λ (f : FlightState). position is_spent f.places) c.self.view_is
