-- The choice that a strategy returns.
use Rattle.std.specs.Prelude.{ℕ, List, [], ◌∷◌, if◌then◌else◌}
use Rattle.std.specs.List.{list_any}
use Rattle.pit_fib.specs.declared.hops.Hop.{Hop}
use Rattle.pit_fib.specs.FaceSet.{has_face, with_face}
use Rattle.pit_fib.specs.Tables.{ByFace}
use Rattle.strategies.specs.declared.strategy.Ask.{Ask}
use Rattle.strategies.specs.declared.strategy.Choice.{Choice}
use Rattle.strategies.specs.declared.strategy.Choice.TheVariants.{NoRoute, Send}
use Rattle.strategies.specs.Eligible.{is_eligible, eligible}
use Rattle.strategies.specs.Selection.{Selection}

-- the faces of the hops; the list has each face once, and the faces are in ascending order
abbrev pub faces_of : List Hop → List ℕ
faces_of [] = []
faces_of (hop ∷ hops) =
    let rest = faces_of hops in
    if has_face hop.face rest then rest else with_face hop.face rest

-- NoRoute if no hop is eligible; otherwise Send with the faces of those eligible hops that the
-- strategy selects; the list of faces may be empty
abbrev pub chosen : Selection → List Hop → ByFace → Ask → Choice
chosen selection hops asked ask =
    if list_any (is_eligible ask) hops
    then Send (faces_of (selection (eligible ask hops) asked ask.now))
    else NoRoute
