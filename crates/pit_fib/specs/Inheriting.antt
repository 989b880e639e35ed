-- How the effective next hops of a name are collected on a walk along the name, for the contracts
-- of private functions.
use Rattle.std.specs.Prelude.{ℕ, List, Bool, true, false, not, Option, None, Some, fold, ◌==◌, ◌&&◌, ◌||◌, if◌then◌else◌}
use Rattle.std.specs.List.{list_any}
use Rattle.std.specs.FinMap as map
use Rattle.pit_fib.specs.declared.inheriting.Inheriting.{Inheriting}
use Rattle.pit_fib.specs.declared.route.Route.{Route}
use Rattle.pit_fib.specs.declared.route.RouteKey.{RouteKey}
use Rattle.pit_fib.specs.Effective.{lesser}
use Rattle.pit_fib.specs.Fib.{Entry}
use Rattle.pit_fib.specs.Route.{is_capture, is_child_inherit, is_due}
use Rattle.pit_fib.specs.Tables.{ByFace}
use Rattle.pit_fib.specs.Within.{set_within}

-- the costs in `second`, overwritten by the costs in `first`; a cost in `first` is left out if its
-- face is new and 64 faces already have a cost
abbrev pub laid_over : ByFace → ByFace → ByFace
laid_over first second =
    fold {A = ℕ × ℕ} {B = ByFace} (λ costs e. set_within costs e.0 e.1) second (map.entries first)

-- whether a route counts: if `at` is a moment, routes that expire by that moment do not count
abbrev pub counts_at : Option ℕ → Route → Bool
counts_at None r = true
counts_at (Some now) r = not (is_due now r)

-- whether a route of a name counts for this name or, if `below` is true, for the longer names below
-- this name; for the longer names, only child-inherit routes count
abbrev pub counts_for : Option ℕ → Bool → Route → Bool
counts_for at below r = counts_at at r && (not below || is_child_inherit r)

abbrev pub least_within : Option ℕ → Bool → List (RouteKey × Route) → ByFace
least_within at below rows =
    fold {A = RouteKey × Route} {B = ByFace} (λ costs e. if counts_for at below e.1
    then set_within costs e.0.face (lesser e.1.cost (map.get costs e.0.face)) else costs)
    map.empty rows

abbrev pub has_route_at : Option ℕ → List (RouteKey × Route) → Bool
has_route_at at rows = list_any (λ e. counts_at at e.1) rows

abbrev pub has_capture_at : Option ℕ → List (RouteKey × Route) → Bool
has_capture_at at rows = list_any (λ e. counts_at at e.1 && is_capture e.1) rows

-- the state of the walk after the entry `e`, where `s` is the state of the walk before `e`
abbrev pub past_entry : Inheriting → Entry → Inheriting
past_entry s e =
    let rows = map.entries e.registered in
    let is_open = not (has_capture_at s.at rows) in
    if map.len e.registered == 0 then record s { costs = e.hops } else
    record s {
      inherited = laid_over (least_within s.at true rows)
          (if is_open then s.inherited else map.empty);
      costs = laid_over e.hops (laid_over (least_within s.at false rows)
          (if has_route_at s.at rows && is_open then s.inherited else map.empty));
    }
