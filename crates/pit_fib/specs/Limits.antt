-- The limits of tables that map names to values.
use Rattle.std.specs.Prelude.{◌≡◌, ℕ, ◌<◌, ◌≤◌, List, false, Option, None, Some, IsSome, length}
use Rattle.std.specs.FinMap as map
use Rattle.ndn_tlv.specs.Element.{Field}
use Rattle.name_trie.specs.ByName.{ByName}
use Rattle.name_trie.specs.NameTable.{NameTable}
use Rattle.pit_fib.specs.declared.fib.TheConstants.{MAX_DEPTH, MAX_ENTRIES, MAX_ROUTES}
use Rattle.pit_fib.specs.declared.route.Route.{Route}
use Rattle.pit_fib.specs.declared.route.RouteKey.{RouteKey}
use Rattle.pit_fib.specs.FaceSet.{AtMost64}
use Rattle.pit_fib.specs.Fib.{Entry, LeadsTo, Routes, is_vacant, registered_at, route_count}

-- each name in the table has at most 32 components
abbrev pub AreShallow : {X : Type 0} → ByName X → Type 0
AreShallow table =
    (name : List Field) → IsSome (map.get table name) → length name ≤ MAX_DEPTH

-- the table has at most 4,096 names, each of at most 32 components
pub record IsWithinLimits {X : Type 0} (table : ByName X) : Type 0 where
  pub bounded : map.len table ≤ MAX_ENTRIES
  pub shallow : AreShallow table

-- each name in the table has next hops or routes
abbrev pub HaveSome : Routes → Type 0
HaveSome routes =
    (name : List Field) (e : Entry) → map.get routes name ≡ Some e → is_vacant e ≡ false

-- The table has at most 4,096 names, at most 16,384 routes, and at most 64 faces with next hops or
-- routes. Each name in the table has at most 32 components, and has next hops or routes.
pub record IsWithinFib (routes : Routes) : Type 0 where
  pub names : IsWithinLimits routes
  pub some : HaveSome routes
  pub registered : route_count routes ≤ MAX_ROUTES
  pub faces : AtMost64 (LeadsTo routes)

-- no route expires before `moment`
abbrev pub NoneEndsBefore : ℕ → Routes → Type 0
NoneEndsBefore moment routes =
    (name : List Field) (e : Entry) → map.get routes name ≡ Some e
    → (key : RouteKey) (r : Route) → map.get e.registered key ≡ Some r
    → (deadline : ℕ) → r.deadline ≡ Some deadline → moment ≤ deadline

-- the table has `count` routes, and none of them expires before `next_due`
pub record IsTallied (routes : Routes) (count next_due : ℕ) : Type 0 where
  pub counted : count ≡ route_count routes
  pub later : NoneEndsBefore next_due routes

-- if a name is given, `room` is greater than the number of its registered routes
abbrev pub IsRoomFor : Routes → ℕ → Option (List Field) → Type 0
IsRoomFor routes room None = Unit {0}
IsRoomFor routes room (Some name) = map.len (registered_at routes name) < room

abbrev pub HasRouteRoom : NameTable Entry → ℕ → Type 0
HasRouteRoom t room = IsRoomFor t.table room t.prepared
