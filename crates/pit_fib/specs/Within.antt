-- How a value is set if a limit on the number of values permits it, for the contracts of private
-- functions.
use Rattle.std.specs.Prelude.{ℕ, nat_lt, ◌||◌, if◌then◌else◌}
use Rattle.std.specs.FinMap as map
use Rattle.pit_fib.specs.declared.face_set.TheConstants.{MAX_FACES}
use Rattle.pit_fib.specs.declared.route.Route.{Route}
use Rattle.pit_fib.specs.declared.route.RouteKey.{RouteKey}
use Rattle.pit_fib.specs.Fib.{Entry}
use Rattle.pit_fib.specs.Route.{Registered}
use Rattle.pit_fib.specs.Tables.{ByFace}

-- `costs` with the cost of `face` set to `cost`; unchanged if the face has no cost in `costs` and
-- 64 other faces have a cost
abbrev pub set_within : ByFace → ℕ → ℕ → ByFace
set_within costs face cost =
    if map.contains_key costs face || nat_lt (map.len costs) MAX_FACES
    then map.insert costs face cost else costs

abbrev pub entry_with_hop_within : ℕ → ℕ → Entry → Entry
entry_with_hop_within face cost e = record e { hops = set_within e.hops face cost }

-- the routes with `route` set under `key`; unchanged if there are already `room` routes or more
abbrev pub with_route_within : ℕ → RouteKey → Route → Registered → Registered
with_route_within room key route registered =
    if nat_lt (map.len registered) room then map.insert registered key route else registered

abbrev pub entry_with_route_within : ℕ → RouteKey → Route → Entry → Entry
entry_with_route_within room key route e =
    record e { registered = with_route_within room key route e.registered }
