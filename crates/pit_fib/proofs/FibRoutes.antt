-- Registering a route: why the table may refuse the route, and what the table is afterwards.
use Rattle.std.proofs.Common.{◌≡◌, ◌⊎◌, inl, inr, ◌+◌, ◌<◌, ◌≤◌, ℕ, Bool, true, false, not, cond, List, length, refl, sym, ap, ◌∙◌, arith, ltb, leb}
use Rattle.std.proofs.lemmas.Bool.{leb-false, ltb-false, lt-ltb}
use mir.Val.{bool_byte}
use Rattle.std.specs.Prelude.{Option, None, Some, IsSome, ◌&&◌, ◌||◌}
use Rattle.std.specs.Ordering.{eq_by_cmp}
use Rattle.std.specs.FinMap.{contains_key, get, get-insert, insert, len, len-insert}
use Rattle.ndn_tlv.specs.Element.{Field}
use Rattle.pit_fib.specs.declared.fault.TableFault.TheVariants.{TooDeep, TableFull}
use Rattle.pit_fib.specs.declared.route.Route.{Route}
use Rattle.pit_fib.specs.declared.route.RouteKey.{RouteKey}
use Rattle.pit_fib.specs.Fib.{Entry, Routes, entry_at, entry_with_route, is_full_for_route, registered_at, route_count, route_refusal, with_route}
use Rattle.pit_fib.specs.Limits.{IsWithinFib, NoneEndsBefore}
use Rattle.pit_fib.specs.Route.{route_cmp, route_cmp-total}
use Rattle.pit_fib.specs.Tally.{sooner}
use Rattle.pit_fib.specs.Within.{entry_with_route_within}
use Rattle.pit_fib.proofs.FibTables.{count_insert, earlier_none, later_set}

-- if there is memory for one more route, `entry_with_route_within` sets the route
pub set_route : (room : ℕ) (key : RouteKey) (r : Route) (e : Entry) → len e.registered < room → entry_with_route_within room key r e ≡ entry_with_route key r e
set_route room key r e fits = λ i. record e { registered = ap (λ b. cond b (insert e.registered key r) e.registered) (lt-ltb (len e.registered) room fits) i }

pub count_route : (t : Routes) (name : List Field) (key : RouteKey) (r : Route) → route_count (with_route t name key r) ≡ route_count t + cond (contains_key (registered_at t name) key) 0 1
count_route t name key r =
    let more = count_insert t name (entry_with_route key r (entry_at t name)) in
    let longer = len-insert route_cmp-total (registered_at t name) key r in
    elim (contains_key (registered_at t name) key) as (λ b. len (insert (registered_at t name) key r) ≡ cond b (len (registered_at t name)) (len (registered_at t name) + 1) → route_count (with_route t name key r) ≡ route_count t + cond b 0 1) [
      | true ↦ λ n. omega (arith, more, n)
      | false ↦ λ n. omega (arith, more, n)
    ] longer

pub route_new : (n : ℕ) (b : Bool) → n ≡ bool_byte (not b) → n ≡ cond b 0 1
route_new n true is = is
route_new n false is = is

-- ---- what follows if the route is not refused

module _ (t : Routes) (name : List Field) (key : RouteKey) (none : route_refusal t name key ≡ None) where
  both : (ltb 32 (length name) ≡ false) × (is_full_for_route t name key ≡ false)
  both =
      elim (ltb 32 (length name)) as (λ a. cond a (Some TooDeep) (cond (is_full_for_route t name key) (Some TableFull) None) ≡ None → (a ≡ false) × (is_full_for_route t name key ≡ false)) [
        | true ↦ λ e. absurd cc
        | false ↦ λ e.
            elim (is_full_for_route t name key) as (λ b. cond b (Some TableFull) None ≡ None → (false ≡ false) × (b ≡ false)) [ true ↦ λ f. absurd cc | false ↦ λ f. (refl, refl) ] e
      ] none

  pub route_shallow : length name ≤ 32
  route_shallow = ltb-false 32 (length name) both.0

  or_false : (a b : Bool) → (a || b) ≡ false → (a ≡ false) × (b ≡ false)
  or_false true b e = absurd cc
  or_false false b e = (refl, e)

  known_or_room : (known full : Bool) → (not known && full) ≡ false → (known ≡ true) ⊎ (full ≡ false)
  known_or_room true full e = inl refl
  known_or_room false full e = inr e

  parts : ((not (contains_key t name) && leb 4096 (len t)) ≡ false) × ((not (contains_key (registered_at t name) key) && leb 16384 (route_count t)) ≡ false)
  parts = or_false _ _ both.1

  pub names_if_taken : IsSome (get t name) ⊎ (len t < 4096)
  names_if_taken =
      elim (known_or_room (contains_key t name) (leb 4096 (len t)) parts.0) as (λ _. IsSome (get t name) ⊎ (len t < 4096)) [
        | (inl there) ↦ inl there
        | (inr few) ↦ inr (leb-false 4096 (len t) few)
      ]

  pub few_routes : (r : Route) → IsWithinFib t → route_count (with_route t name key r) ≤ 16384
  few_routes r within =
      let count = count_route t name key r in
      let most = within.registered in
      elim (known_or_room (contains_key (registered_at t name) key) (leb 16384 (route_count t)) parts.1) as (λ _. route_count (with_route t name key r) ≤ 16384) [
        | (inl there) ↦ (
            let n : cond (contains_key (registered_at t name) key) 0 1 ≡ 0 = ap (λ (b : Bool). cond {A = ℕ} b 0 1) there in
            omega (arith, count, most, n)
            )
        | (inr few) ↦ (let less = leb-false 16384 (route_count t) few in let one = at_most_one (contains_key (registered_at t name) key) in omega (arith, count, less, one))
      ]
    where
      at_most_one : (b : Bool) → cond {A = ℕ} b 0 1 ≤ 1
      at_most_one true = omega arith
      at_most_one false = omega arith

-- ---- the earliest deadline of the routes, updated when a route is added

sooner_was : (moment : ℕ) (deadline : Option ℕ) → sooner moment deadline ≤ moment
sooner_was moment None = omega arith
sooner_was moment (Some d) = omega arith

sooner_ends : (moment : ℕ) (deadline : Option ℕ) (d : ℕ) → deadline ≡ Some d → sooner moment deadline ≤ d
sooner_ends moment None d is = absurd cc
sooner_ends moment (Some e) d is = (let same : e ≡ d = cc in omega (arith, same))

pub later_route : (t : Routes) (name : List Field) (key : RouteKey) (r : Route) (was now : ℕ) → now ≡ sooner was r.deadline → IsWithinFib t → NoneEndsBefore was t
    → NoneEndsBefore now (with_route t name key r)
later_route t name key r was now is within later =
    let less : now ≤ was = (let s = sooner_was was r.deadline in omega (arith, is, s)) in
    later_set t within name (entry_with_route key r (entry_at t name)) now (earlier_none t now was less later) (λ k x there.
    elim (eq_by_cmp route_cmp k key) as (λ b. cond b (Some r) (get (registered_at t name) k) ≡ Some x → (get (registered_at t name) k ≡ Some x) ⊎ ((deadline : ℕ) → x.deadline ≡ Some deadline → now ≤ deadline)) [
      | true ↦ λ e. (let same : r ≡ x = cc in inr (λ d ends. (let s = sooner_ends was r.deadline d (ap (λ (y : Route). y.deadline) same ∙ ends) in omega (arith, is, s))))
      | false ↦ λ e. inl e
    ] (sym (get-insert route_cmp-total (registered_at t name) key r k) ∙ there))
