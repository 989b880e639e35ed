-- The effective next hops of a name: its own next hops and routes, and the routes that it inherits
-- from shorter names (NFD Developer's Guide, "Routing Information Base", "RIB to FIB update").
use Rattle.std.specs.Prelude.{◌≡◌, ℕ, zero, suc, ◌<◌, ◌≤◌, List, ◌++◌, length, take, map as list_map, fold, min, Bool, true, false, not, Option, None, Some, ◌==◌, ◌&&◌, if◌then◌else◌}
use Rattle.std.specs.List.{list_any}
use Rattle.std.specs.FinMap as map
use Rattle.ndn_tlv.specs.Element.{Field}
use Rattle.pit_fib.specs.declared.hops.Hop.{Hop}
use Rattle.pit_fib.specs.declared.route.Route.{Route}
use Rattle.pit_fib.specs.declared.route.RouteKey.{RouteKey}
use Rattle.pit_fib.specs.Fib.{Entry, Routes, costs_at, entry_at, registered_at}
use Rattle.pit_fib.specs.Hops.{hops_of}
use Rattle.pit_fib.specs.Route.{Registered, is_capture, is_child_inherit}
use Rattle.pit_fib.specs.Tables.{ByFace}

-- the costs in `first` and, for faces without a cost in `first`, the costs in `second`
abbrev pub prefer : ByFace → ByFace → ByFace
prefer first second = map.from_entries (map.entries first ++ map.entries second)

-- the lesser of `cost` and the cost that a face already has, or `cost` if the face has none
abbrev pub lesser : ℕ → Option ℕ → ℕ
lesser cost None = cost
lesser cost (Some other) = min cost other

abbrev pub with_lesser : ByFace → ℕ → ℕ → ByFace
with_lesser costs face cost = map.insert costs face (lesser cost (map.get costs face))

-- for each face, the least cost of those routes on the face that are in the list and pass the test
-- `wanted`
abbrev pub least_costs : (Route → Bool) → List (RouteKey × Route) → ByFace
least_costs wanted routes =
    fold {A = RouteKey × Route} {B = ByFace}
    (λ costs e. if wanted e.1 then with_lesser costs e.0.face e.1.cost else costs)
    map.empty routes

abbrev pub has_capture : Registered → Bool
has_capture registered = list_any (λ e. is_capture e.1) (map.entries registered)

-- The costs that the names below an entry inherit. For a face with child-inherit routes in the
-- entry, the names below inherit the least cost of these routes. For every other face, the names
-- below inherit the cost in `above`, unless the entry has a capture route. If there is no entry,
-- the names below inherit the costs in `above`.
abbrev pub passed_on : Option Entry → ByFace → ByFace
passed_on None above = above
passed_on (Some e) above =
    prefer (least_costs is_child_inherit (map.entries e.registered))
    (if has_capture e.registered then map.empty else above)

-- the costs that a name inherits from its prefixes with fewer than n components
abbrev pub handed_down : Routes → List Field → ℕ → ByFace
handed_down routes name zero = map.empty
handed_down routes name (suc n) =
    passed_on (map.get routes (take n name)) (handed_down routes name n)

-- whether a name with these routes inherits: there is at least one route, and none of the routes is
-- a capture route
abbrev pub does_inherit : Registered → Bool
does_inherit registered = not (map.len registered == 0) && not (has_capture registered)

-- The effective cost of a face is the cost of the entry's next hop on the face or, without a next
-- hop, the least cost of the entry's routes on the face. If the entry has routes but no capture
-- route, the effective cost of every other face is the face's cost in `above`. Otherwise, no other
-- face has an effective cost.
abbrev pub effective_of : Entry → ByFace → ByFace
effective_of e above =
    prefer e.hops (prefer (least_costs (λ _. true) (map.entries e.registered))
    (if does_inherit e.registered then above else map.empty))

-- the costs of the effective next hops of a name
abbrev pub effective : Routes → List Field → ByFace
effective routes name =
    effective_of (entry_at routes name) (handed_down routes name (length name))

-- The costs of the effective next hops of one prefix of the name: the longest prefix that has an
-- entry and at most n components. There are no costs if no prefix of at most n components has an
-- entry.
abbrev pub longest_costs : Routes → List Field → ℕ → ByFace
longest_costs routes name zero =
    if map.contains_key routes (take 0 name) then effective routes (take 0 name) else map.empty
longest_costs routes name (suc n) =
    if map.contains_key routes (take (suc n) name) then effective routes (take (suc n) name)
    else longest_costs routes name n

-- the effective next hops of the longest prefix that has an entry, or no next hops if no prefix has
-- an entry
abbrev pub longest_hops : Routes → List Field → List Hop
longest_hops routes name = hops_of (longest_costs routes name (length name))

-- the name of an entry, with the name's effective next hops
abbrev pub entry_listed : Routes → List Field × Entry → List Field × List Hop
entry_listed routes e = (e.0, hops_of (effective routes e.0))

-- all names that have an entry, in canonical order, each with its effective next hops
abbrev pub listed : Routes → List (List Field × List Hop)
listed routes = list_map (entry_listed routes) (map.entries routes)

-- ---- the effective costs, defined face by face

-- Some route on this face passes the test and has this cost. All routes on this face that pass the
-- test have at least this cost.
pub record IsLeastCost (wanted : Route → Bool) (registered : Registered) (face cost : ℕ) : Type 0
  where
    pub origin : ℕ
    pub route : Route
    pub there : map.get registered (record { face = face; origin = origin }) ≡ Some route
    pub is_wanted : wanted route ≡ true
    pub of_cost : route.cost ≡ cost
    pub least : (other : ℕ) (r : Route)
        → map.get registered (record { face = face; origin = other }) ≡ Some r
        → wanted r ≡ true → cost ≤ r.cost

-- no route on this face passes the test
abbrev pub HasNone : (Route → Bool) → Registered → ℕ → Type 0
HasNone wanted registered face =
    (origin : ℕ) (r : Route)
    → map.get registered (record { face = face; origin = origin }) ≡ Some r → wanted r ≡ false

-- The name inherits `cost` for `face` from one of its proper prefixes. This prefix is the longest
-- proper prefix with a child-inherit route on `face`, and the field `from` is the number of
-- components of this prefix. `cost` is the least cost of the prefix's child-inherit routes on
-- `face`. All longer proper prefixes of the name are without capture routes.
pub record IsInherited (routes : Routes) (name : List Field) (face cost : ℕ) : Type 0 where
  pub from : ℕ
  pub shorter : from < length name
  pub least : IsLeastCost is_child_inherit (registered_at routes (take from name)) face cost
  pub nearest : (m : ℕ) → from < m → m < length name
      → HasNone is_child_inherit (registered_at routes (take m name)) face
  pub unbroken : (m : ℕ) → from < m → m < length name
      → has_capture (registered_at routes (take m name)) ≡ false

-- why the face has this cost among the effective next hops of the name
pub data IsEffective (routes : Routes) (name : List Field) (face cost : ℕ) : Type 0 where
  OwnHop : map.get (costs_at routes name) face ≡ Some cost → IsEffective routes name face cost
  OwnRoute : map.get (costs_at routes name) face ≡ None
      → IsLeastCost (λ _. true) (registered_at routes name) face cost
      → IsEffective routes name face cost
  InheritedRoute : map.get (costs_at routes name) face ≡ None
      → HasNone (λ _. true) (registered_at routes name) face
      → does_inherit (registered_at routes name) ≡ true
      → IsInherited routes name face cost → IsEffective routes name face cost
