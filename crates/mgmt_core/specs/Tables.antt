-- The effects of commands on the tables, and the refusals of commands (NFD Management, "FIB
-- Management", "RIB Management", "Strategy Choice Management", "Content Store Management").
use Rattle.std.specs.Prelude.{◌≡◌, ℕ, ◌+◌, ◌-◌, ◌^◌, min, List, [], ◌∷◌, length, Bool, true, not, is_none, nat_lt, nat_le, ◌==◌, ◌&&◌, Option, None, Some, find, codes, if◌then◌else◌}
use Rattle.std.specs.FinMap as map
use Rattle.std.specs.Option.{option_map}
use Rattle.std.specs.Ordering.{eq_by_cmp}
use Rattle.ndn_tlv.specs.Element.{Field}
use Rattle.ndn_names.specs.declared.component_type.TheConstants.{GENERIC, VERSION}
use Rattle.ndn_names.specs.Order.{name_cmp}
use Rattle.pit_fib.specs.declared.fib.TheConstants.{MAX_DEPTH, MAX_ENTRIES}
use Rattle.pit_fib.specs.declared.strategy_table.StrategyId.{StrategyId}
use Rattle.pit_fib.specs.declared.strategy_table.StrategyId.TheVariants.{BestRoute, Multicast}
use Rattle.pit_fib.specs.FaceSet.{has_face}
use Rattle.pit_fib.specs.declared.route.Route.{Route}
use Rattle.pit_fib.specs.declared.route.RouteKey.{RouteKey}
use Rattle.pit_fib.specs.Fib.{LeadsTo, Routes, is_full_for_route, with_next_hop, with_route, without_next_hop, without_route}
use Rattle.pit_fib.specs.StrategyTable.{Choices, without_choice}
use Rattle.pit_fib.specs.ByName.{ByName}
use Rattle.content_store.specs.Store.{CachedData, Erases}
use Rattle.mgmt_core.specs.declared.action.Action.TheVariants.{AddNexthop, RemoveNexthop, Register, Unregister, SetStrategy, UnsetStrategy, EraseCache}
use Rattle.mgmt_core.specs.declared.types.TheConstants.{FACE_NOT_OPEN, OK, PREFIX_TOO_LONG, TABLE_FULL, UNKNOWN_STRATEGY}
use Rattle.mgmt_core.specs.Commands.{Refusal, PrefixTooLong, FaceNotOpen, UnknownStrategy, TableFull, row_of}
use Rattle.ndn_tlv.specs.Options.{◌>>=◌}
use Rattle.mgmt_core.specs.Reading.{PlainCommand, without_last}

-- ---- strategies

abbrev pub strategy_word : StrategyId → List ℕ
strategy_word BestRoute = codes "best-route"
strategy_word Multicast = codes "multicast"

abbrev pub generic : List ℕ → Field
generic value = (GENERIC, value)

abbrev pub strategy_name : StrategyId → List Field
strategy_name strategy =
    generic (codes "localhost") ∷ generic (codes "nfd") ∷ generic (codes "strategy")
    ∷ generic (strategy_word strategy) ∷ []

abbrev pub is_strategy : List Field → StrategyId → Bool
is_strategy name strategy = eq_by_cmp name_cmp name (strategy_name strategy)

-- the strategy with this name, or None; a Version component may follow the strategy's name
abbrev pub strategy_named : List Field → Option StrategyId
strategy_named name = find (is_strategy (without_last VERSION name)) (BestRoute ∷ Multicast ∷ [])

abbrev pub strategy_asked : PlainCommand → Option StrategyId
strategy_asked c = c.strategy >>= strategy_named

-- ---- routes

-- the face that the command applies to, if the command came from `face`
abbrev pub face_of : PlainCommand → ℕ → ℕ
face_of c face = if c.face == 0 then face else c.face

-- the face and the origin of the command's route
abbrev pub key_of : PlainCommand → ℕ → RouteKey
key_of c face = record { face = face_of c face; origin = c.origin }

-- the deadline of a route that is registered at `now` with the lifetime `expires` in milliseconds;
-- the deadline is at most 2^64 - 1; None if the route has no lifetime
abbrev pub deadline_of : ℕ → Option ℕ → Option ℕ
deadline_of now expires = option_map (λ period. min (now + period) (2 ^ 64 - 1)) expires

-- the route that the command registers at `now`
abbrev pub route_asked : PlainCommand → ℕ → Route
route_asked c now = record {
  cost = c.cost;
  flags = c.flags;
  deadline = deadline_of now c.expires;
}

-- ---- refusals

-- whether the name is new, and the table already has 4,096 names
abbrev pub is_full : {X : Type 0} → ByName X → List Field → Bool
is_full table name = not (map.contains_key table name) && nat_le MAX_ENTRIES (map.len table)

-- whether the table has no room for the command `c`: the name `c.name` is new and the table already
-- has 4,096 names, or the command registers a new route and the table already has 16,384 routes
abbrev pub is_full_for : PlainCommand → ℕ → Routes → Choices → Bool
is_full_for c face routes choices =
    elim c.action [
      | Register ↦ is_full_for_route routes c.name (key_of c face)
      | SetStrategy ↦ is_full choices c.name
      | _ ↦ is_full routes c.name
    ]

abbrev pub refuses : PlainCommand → ℕ → List ℕ → Routes → Choices → Refusal → Bool
refuses c face up routes choices PrefixTooLong = nat_lt MAX_DEPTH (length c.name)
refuses c face up routes choices FaceNotOpen = not (has_face (face_of c face) up)
refuses c face up routes choices UnknownStrategy = is_none (strategy_asked c)
refuses c face up routes choices TableFull = is_full_for c face routes choices

abbrev pub code_of : Refusal → ℕ
code_of PrefixTooLong = PREFIX_TOO_LONG
code_of FaceNotOpen = FACE_NOT_OPEN
code_of UnknownStrategy = UNKNOWN_STRATEGY
code_of TableFull = TABLE_FULL

-- the status code of the first applicable refusal in the list, or OK if no refusal applies
abbrev pub first_status : (Refusal → Bool) → List Refusal → ℕ
first_status refused [] = OK
first_status refused (r ∷ rs) = if refused r then code_of r else first_status refused rs

-- the status of a command that came from `face`, while the faces `up` are up
abbrev pub status_of : PlainCommand → ℕ → List ℕ → Routes → Choices → ℕ
status_of c face up routes choices =
    first_status (refuses c face up routes choices) (row_of c.action).refusals

-- each face that has a next hop or a route is up
abbrev pub AllAreUp : Routes → List ℕ → Type 0
AllAreUp routes up = (face : ℕ) → LeadsTo routes face → has_face face up ≡ true

-- ---- the effects of commands

-- the routes once the command `c`, which came from `face`, has taken effect at `now`; only `fib`
-- and `rib` commands change the routes
abbrev pub routes_after : PlainCommand → ℕ → ℕ → Routes → Routes
routes_after c face now routes =
    elim c.action [
      | AddNexthop ↦ with_next_hop routes c.name (face_of c face) c.cost
      | RemoveNexthop ↦ without_next_hop routes c.name (face_of c face)
      | Register ↦ with_route routes c.name (key_of c face) (route_asked c now)
      | Unregister ↦ without_route routes c.name (key_of c face)
      | _ ↦ routes
    ]

abbrev pub with_choice : Choices → List Field → Option StrategyId → Choices
with_choice choices name None = choices
with_choice choices name (Some strategy) = map.insert choices name strategy

abbrev pub choices_after : PlainCommand → Choices → Choices
choices_after c choices =
    elim c.action [
      | SetStrategy ↦ with_choice choices c.name (strategy_asked c)
      | UnsetStrategy ↦ without_choice choices c.name
      | _ ↦ choices
    ]

abbrev pub CachedAfter : PlainCommand → List CachedData → List CachedData → Type 0
CachedAfter c before after =
    elim c.action [
      | EraseCache ↦ (gone : ℕ) × Erases c.name c.count before after gone
      | _ ↦ after ≡ before
    ]

-- the value `after` if the status is 200 (OK), otherwise the value `before`
abbrev pub if_done : {X : Type 0} → ℕ → X → X → X
if_done status after before = if status == OK then after else before
