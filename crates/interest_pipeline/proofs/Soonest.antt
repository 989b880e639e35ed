-- The least deadline of two lists.
use Rattle.std.proofs.Common.{◌≡◌, ℕ, List, [], ◌∷◌, ◌++◌, min, Some, None, refl, ap, ◌∙◌, arith}
use Rattle.std.specs.Prelude.{Option}
use Rattle.interest_pipeline.specs.declared.place.Place.{Place}
use Rattle.interest_pipeline.specs.Places.{deadline_of, sooner, soonest}

sooner_assoc : (a b c : Option ℕ) → sooner (sooner a b) c ≡ sooner a (sooner b c)
sooner_assoc None b c = refl
sooner_assoc (Some a) None c = refl
sooner_assoc (Some a) (Some b) None = refl
sooner_assoc (Some a) (Some b) (Some c) = ap Some (least a b c)
  where
    least : (a b c : ℕ) → min (min a b) c ≡ min a (min b c)
    least a b c = omega arith

pub soonest-append : (front back : List Place) → sooner (soonest front) (soonest back) ≡ soonest (front ++ back)
soonest-append [] back = refl
soonest-append (place ∷ front) back =
    sooner_assoc (deadline_of place) (soonest front) (soonest back) ∙ ap (sooner (deadline_of place)) (soonest-append front back)
