-- Counts and the earliest deadline of registered routes, for the contracts of private functions.
use Rattle.std.specs.Prelude.{ℕ, ◌+◌, ◌-◌, ◌^◌, List, Option, None, Some, fold, length, min}
use Rattle.std.specs.FinMap as map
use Rattle.name_trie.specs.ByName.{revised}
use Rattle.pit_fib.specs.declared.route.Route.{Route}
use Rattle.pit_fib.specs.declared.route.RouteKey.{RouteKey}
use Rattle.pit_fib.specs.declared.tally.Left.{Left}
use Rattle.pit_fib.specs.declared.tally.Tally.{Tally}
use Rattle.pit_fib.specs.Fib.{Entry}
use Rattle.pit_fib.specs.Route.{until_due}

-- a sum of two numbers, or the greatest u64 if the sum is greater
abbrev pub stopped_sum : ℕ → ℕ → ℕ
stopped_sum a b = min (a + b) (2 ^ 64 - 1)

abbrev pub sooner : ℕ → Option ℕ → ℕ
sooner moment None = moment
sooner moment (Some deadline) = min moment deadline

-- the earliest moment among `moment` and the deadlines of the routes
abbrev pub earliest : ℕ → List (RouteKey × Route) → ℕ
earliest moment rows =
    fold {A = RouteKey × Route} {B = ℕ} (λ m e. sooner m e.1.deadline) moment rows

abbrev pub tallied : Tally → Entry → Tally
tallied t e = record {
  count = stopped_sum t.count (map.len e.registered);
  next_due = earliest t.next_due (map.entries e.registered);
}

-- how many of the routes do not expire by the moment `now`
abbrev pub left_of : ℕ → List (RouteKey × Route) → ℕ
left_of now rows = length (revised (until_due now) rows)

abbrev pub left_after : Left → Entry → Left
left_after t e =
    record t { count = stopped_sum t.count (left_of t.now (map.entries e.registered)) }
