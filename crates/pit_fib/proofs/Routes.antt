-- The registered routes of a name.
use Rattle.std.proofs.Common.{◌≡◌, ℕ, zero, suc, ◌+◌, ◌<◌, Bool, true, false, cond, List, [], ◌∷◌, ◌++◌, length, take, get_or, refl, sym, ap, ◌∙◌, arith}
use Rattle.std.proofs.lemmas.List.{take_more}
use Rattle.std.specs.List.{list_any}
use lib.Dec.{T}
use Rattle.std.specs.Prelude.{Some, None, filter, not, ◌&&◌, ◌||◌}
use Rattle.std.specs.FinMap.{from_sorted, is_sorted, retain_keys, same_map, get-from_sorted, get-retain_keys}
use Rattle.std.specs.FinMap.Entries.{find-where_key, is_sorted-where_key}
use Rattle.name_trie.specs.ByName.{revised, with_entry}
use Rattle.pit_fib.specs.declared.route.Route.{Route}
use Rattle.pit_fib.specs.declared.route.RouteKey.{RouteKey}
use Rattle.pit_fib.specs.Tally.{left_of}
use Rattle.pit_fib.specs.Route.{is_due, route_cmp, route_cmp-antisymmetric, route_cmp-total, until_due}

-- the rows whose routes do not expire by the moment `now` are the rows that `revised` with
-- `until_due` leaves
pub left_rows : (now : ℕ) (rows : List (RouteKey × Route)) → filter (λ row. not (is_due now row.1)) rows ≡ revised (until_due now) rows
left_rows now [] = refl
left_rows now (row ∷ rows) =
    let rest = left_rows now rows in
    elim (is_due now row.1) as (λ b. cond (not b) (row ∷ filter (λ row. not (is_due now row.1)) rows) (filter (λ row. not (is_due now row.1)) rows)
    ≡ with_entry row.0 (cond b None (Some row.1)) (revised (until_due now) rows)) [ true ↦ rest | false ↦ ap (λ l. row ∷ l) rest ]

-- if all routes whose keys fail a test are removed, sorted routes stay sorted
pub sorted_kept : (test : RouteKey → Bool) (rows : List (RouteKey × Route)) → T (is_sorted route_cmp rows) → T (is_sorted route_cmp (filter (λ row. test row.0) rows))
sorted_kept test rows sorted = is_sorted-where_key route_cmp test rows sorted

pub from_kept : (test : RouteKey → Bool) (rows : List (RouteKey × Route)) → T (is_sorted route_cmp rows) → from_sorted {R = route_cmp} (filter (λ row. test row.0) rows) ≡ retain_keys (from_sorted rows) test
from_kept test rows sorted =
    same_map route_cmp-total route_cmp-antisymmetric _ _ (λ q.
    get-from_sorted route_cmp (filter (λ row. test row.0) rows) q (sorted_kept test rows sorted)
    ∙ find-where_key route_cmp test q (λ x t. ap test (sym (route_cmp-antisymmetric q x t))) rows
    ∙ sym (get-retain_keys (from_sorted rows) test q (λ x t. ap test (sym (route_cmp-antisymmetric q x t))) ∙ ap (λ o. cond (test q) o None) (get-from_sorted route_cmp rows q sorted)))

-- the default value for an index at which there is no row
abbrev pub no_row : RouteKey × Route
no_row = (record { face = 0; origin = 0 }, record { cost = 0; flags = 0; deadline = None })

-- if the row at index `at` passes the test, some row passes the test
pub any_at : (test : RouteKey × Route → Bool) (rows : List (RouteKey × Route)) (at : ℕ) (d : RouteKey × Route) → at < length rows → test (get_or rows at d) ≡ true → list_any test rows ≡ true
any_at test [] at d lt passes = absurd (omega arith)
any_at test (row ∷ rows) zero d lt passes = ap (λ b. b || list_any test rows) passes
any_at test (row ∷ rows) (suc at) d lt passes = later (test row) (any_at test rows at d (omega arith) passes)
  where
    later : (b : Bool) → list_any test rows ≡ true → (b || list_any test rows) ≡ true
    later true e = refl
    later false e = e

pub both_true : {a b : Bool} → a ≡ true → b ≡ true → (a && b) ≡ true
both_true {a} {b} p q = ap (λ x. x && b) p ∙ q

-- the row at index `at` adds one to the number of remaining routes, unless its route expires by
-- `now`
pub left_more : (now : ℕ) (rows : List (RouteKey × Route)) (at : ℕ) (d : RouteKey × Route) → at < length rows
    → left_of now (take (at + 1) rows) ≡ left_of now (take at rows) + cond (is_due now (get_or rows at d).1) 0 1
left_more now rows at d lt = ap (left_of now) (take_more rows at d lt) ∙ counted (take at rows) (get_or rows at d)
  where
    one : (row : RouteKey × Route) → left_of now (row ∷ []) ≡ cond (is_due now row.1) 0 1
    one row = elim (is_due now row.1) as (λ b. length (with_entry row.0 (cond b None (Some row.1)) []) ≡ cond b 0 1) [ true ↦ refl | false ↦ refl ]

    counted : (front : List (RouteKey × Route)) (row : RouteKey × Route) → left_of now (front ++ row ∷ []) ≡ left_of now front + cond (is_due now row.1) 0 1
    counted [] row = (let e = one row in omega (arith, e))
    counted (r ∷ front) row =
        let rest = counted front row in
        elim (until_due now r.1) as (λ o. length (with_entry r.0 o (revised (until_due now) (front ++ row ∷ []))) ≡ length (with_entry r.0 o (revised (until_due now) front)) + cond (is_due now row.1) 0 1) [
          | None ↦ rest
          | (Some x) ↦ omega (arith, rest)
        ]
