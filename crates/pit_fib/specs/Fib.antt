-- Routes by name: next hops, and registered routes (NFD Developer's Guide, "Forwarding Information
-- Base", "Routing Information Base").
use Rattle.std.specs.Prelude.{◌≡◌, ℕ, ◌⊎◌, ◌-◌, List, Bool, not, Option, None, Some, IsSome, refl, unwrap_or, length, nat_lt, nat_le, ◌==◌, ◌&&◌, ◌||◌, if◌then◌else◌}
use Rattle.std.specs.Coded.{Coded, code_by, coded×, coded_ℕ}
use Rattle.std.specs.FinMap as map
use Rattle.ndn_tlv.specs.Element.{Field}
use Rattle.name_trie.specs.ByName.{ByName, revise, with_value}
use Rattle.name_trie.specs.Flat.{total}
use Rattle.pit_fib.specs.declared.fault.TableFault.{TableFault}
use Rattle.pit_fib.specs.declared.fault.TableFault.TheVariants.{TooDeep, TableFull}
use Rattle.pit_fib.specs.declared.fib.TheConstants.{MAX_DEPTH, MAX_ENTRIES, MAX_ROUTES}
use Rattle.pit_fib.specs.declared.route.Route.{Route}
use Rattle.pit_fib.specs.declared.route.RouteKey.{RouteKey}
use Rattle.pit_fib.specs.FaceSet.{AtMost64}
use Rattle.pit_fib.specs.Route.{Registered, registered_code, until_due}
use Rattle.pit_fib.specs.Tables.{ByFace}

pub record Entry : Type 0 where
  -- the costs of the next hops, by face
  pub hops : ByFace
  -- the registered routes, by face and origin
  pub registered : Registered

abbrev pub entry_code : Coded Entry
entry_code =
    code_by (ByFace × Registered) (coded× (map.code coded_ℕ coded_ℕ) registered_code)
    (λ e. (e.hops, e.registered)) (λ p. record { hops = p.0; registered = p.1 }) (λ _. refl)

abbrev pub Routes : Type 0
Routes = ByName Entry

-- an entry with neither next hops nor routes
abbrev pub no_entry : Entry
no_entry = record { hops = map.empty; registered = map.empty }

abbrev pub entry_at : Routes → List Field → Entry
entry_at routes name = unwrap_or (map.get routes name) no_entry

-- the costs of the next hops of a name
abbrev pub costs_at : Routes → List Field → ByFace
costs_at routes name = (entry_at routes name).hops

-- the registered routes of a name
abbrev pub registered_at : Routes → List Field → Registered
registered_at routes name = (entry_at routes name).registered

-- how many routes are registered in the table
abbrev pub route_count : Routes → ℕ
route_count routes = total (λ e. map.len e.registered) (map.entries routes)

-- some name has a next hop or a route on this face
abbrev pub LeadsTo : Routes → ℕ → Type 0
LeadsTo routes face =
    (name : List Field) × (IsSome (map.get (costs_at routes name) face)
    ⊎ ((origin : ℕ) × IsSome (map.get (registered_at routes name)
    (record { face = face; origin = origin }))))

-- at most 64 different faces have a next hop or a route, or are equal to `face`
abbrev pub HasRoomFor : Routes → ℕ → Type 0
HasRoomFor routes face = AtMost64 (λ f. LeadsTo routes f ⊎ (f ≡ face))

-- ---- changes of the table

-- whether an entry has neither next hops nor routes; the table removes an entry that has neither
abbrev pub is_vacant : Entry → Bool
is_vacant e = (map.len e.hops == 0) && (map.len e.registered == 0)

abbrev pub unless_vacant : Entry → Option Entry
unless_vacant e = if is_vacant e then None else Some e

-- the entry `e` with the cost of its next hop on this face set to `cost`
abbrev pub entry_with_hop : ℕ → ℕ → Entry → Entry
entry_with_hop face cost e = record e { hops = map.insert e.hops face cost }

abbrev pub with_next_hop : Routes → List Field → ℕ → ℕ → Routes
with_next_hop routes name face cost =
    map.insert routes name (entry_with_hop face cost (entry_at routes name))

-- the entry without the next hop on this face, or None if it then has neither next hops nor routes
abbrev pub entry_without_hop : ℕ → Entry → Option Entry
entry_without_hop face e = unless_vacant (record e { hops = map.remove e.hops face })

abbrev pub without_next_hop : Routes → List Field → ℕ → Routes
without_next_hop routes name face =
    with_value routes name (entry_without_hop face (entry_at routes name))

-- the entry `e` with `route` registered under `key`; `route` replaces an older route with the same
-- face and origin
abbrev pub entry_with_route : RouteKey → Route → Entry → Entry
entry_with_route key route e = record e { registered = map.insert e.registered key route }

abbrev pub with_route : Routes → List Field → RouteKey → Route → Routes
with_route routes name key route =
    map.insert routes name (entry_with_route key route (entry_at routes name))

-- the entry without the route of this face and origin, or None if it then has neither next hops nor
-- routes
abbrev pub entry_without_route : RouteKey → Entry → Option Entry
entry_without_route key e = unless_vacant (record e { registered = map.remove e.registered key })

abbrev pub without_route : Routes → List Field → RouteKey → Routes
without_route routes name key =
    with_value routes name (entry_without_route key (entry_at routes name))

-- the entry without the next hops and routes of a face that was closed, or None if it then has
-- neither next hops nor routes
abbrev pub entry_without_face : ℕ → Entry → Option Entry
entry_without_face face e =
    unless_vacant (record {
      hops = map.remove e.hops face;
      registered = map.retain_keys e.registered (λ k. not (k.face == face));
    })

abbrev pub without_face : Routes → ℕ → Routes
without_face routes face = revise (entry_without_face face) routes

-- the entry without the routes that expire by the moment `now`, or None if it then has neither next
-- hops nor routes
abbrev pub entry_left_at : ℕ → Entry → Option Entry
entry_left_at now e =
    unless_vacant (record e { registered = revise (until_due now) e.registered })

abbrev pub left_at : ℕ → Routes → Routes
left_at now routes = revise (entry_left_at now) routes

-- how many routes expire by the moment `now`
abbrev pub due_count : ℕ → Routes → ℕ
due_count now routes = route_count routes - route_count (left_at now routes)

-- ---- why a route is refused

-- whether the table has no room for the route: the name is new and the table already has 4,096
-- names, or the route is new and the table already has 16,384 routes
abbrev pub is_full_for_route : Routes → List Field → RouteKey → Bool
is_full_for_route routes name key =
    (not (map.contains_key routes name) && nat_le MAX_ENTRIES (map.len routes))
    || (not (map.contains_key (registered_at routes name) key)
    && nat_le MAX_ROUTES (route_count routes))

-- Why the table refuses a route for the name: the name has more than 32 components, or the table
-- has no room for the route. None means that the table accepts the route.
abbrev pub route_refusal : Routes → List Field → RouteKey → Option TableFault
route_refusal routes name key =
    if nat_lt MAX_DEPTH (length name) then Some TooDeep else (
    if is_full_for_route routes name key then Some TableFull else
    None)
