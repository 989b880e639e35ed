-- The number of all routes, the earliest deadline of a route, and the number of routes that remain
-- after an expiry.
use Rattle.std.proofs.Common.{◌≡◌, ◌+◌, ◌^◌, ◌<◌, ◌≤◌, ℕ, true, false, cond, List, [], ◌∷◌, length, refl, sym, ap, subst, ◌∙◌, arith}
use Rattle.std.proofs.lemmas.Bool.{lt-leb}
use Rattle.std.specs.Prelude.{Option, None, Some, fold, map}
use Rattle.std.specs.Option.{option_and_then}
use Rattle.std.specs.List.{AllByRecursion}
use Rattle.std.specs.declared.cmp.Ordering.{Ordering}
use Rattle.std.specs.Ordering.{eq_by_cmp}
use Rattle.std.specs.FinMap.{FinMap, entries, find, get, get-entries, len, len-entries, same_map, values}
use Rattle.ndn_tlv.specs.Element.{Field}
use Rattle.ndn_names.specs.Order.{name_cmp}
use Rattle.ndn_names.specs.Key.{name_cmp-total, name_cmp-antisymmetric}
use Rattle.name_trie.specs.ByName.{revise, revised, with_entry}
use Rattle.name_trie.specs.Flat.{size_of, total}
use Rattle.name_trie.proofs.Least.{entries-revise}
use Rattle.name_trie.proofs.Revised.{get-revise}
use Rattle.pit_fib.specs.declared.route.Route.{Route}
use Rattle.pit_fib.specs.declared.route.RouteKey.{RouteKey}
use Rattle.pit_fib.specs.declared.tally.Left.{Left}
use Rattle.pit_fib.specs.declared.tally.Tally.{Tally}
use Rattle.pit_fib.specs.Fib.{Entry, Routes, entry_left_at, is_vacant, left_at, route_count}
use Rattle.pit_fib.specs.Limits.{HaveSome, IsTallied, NoneEndsBefore}
use Rattle.pit_fib.specs.Route.{has_come, is_due, route_cmp, route_cmp-antisymmetric, route_cmp-total, until_due}
use Rattle.pit_fib.specs.Tally.{earliest, left_after, left_of, sooner, tallied}
use Rattle.pit_fib.proofs.FibEntries.{size, size_left}

-- if all values in the list have the property `P`, each value that a lookup in the list finds has
-- this property
all_found : {K X : Type 0} (R : K → K → Ordering) (P : X → Type 0) (es : List (K × X)) → AllByRecursion (λ (e : K × X). P e.1) es → (q : K) (x : X) → find R q es ≡ Some x → P x
all_found R P [] all q x is = absurd cc
all_found R P (e ∷ es) all q x is =
    elim (eq_by_cmp R q e.0) as (λ b. cond b (Some e.1) (find R q es) ≡ Some x → P x) [
      | true ↦ λ f. (let same : e.1 ≡ x = cc in subst P same all.0)
      | false ↦ λ f. all_found R P es all.1 q x f
    ] is

pub all_got : {K X : Type 0} {R : K → K → Ordering} (P : X → Type 0) (m : FinMap R X) → AllByRecursion (λ (e : K × X). P e.1) (entries m) → (q : K) (x : X) → get m q ≡ Some x → P x
all_got {R = R} P m all q x is = all_found R P (entries m) all q x (sym (get-entries m q) ∙ is)

-- ---- the earliest of a moment and the deadlines of routes

sooner_le : (m : ℕ) (o : Option ℕ) → sooner m o ≤ m
sooner_le m None = omega arith
sooner_le m (Some d) = omega arith

sooner_end : (m : ℕ) (o : Option ℕ) (d : ℕ) → o ≡ Some d → sooner m o ≤ d
sooner_end m None d is = absurd cc
sooner_end m (Some e) d is = (let same : e ≡ d = cc in omega (arith, same))

earliest_le : (m : ℕ) (rows : List (RouteKey × Route)) → earliest m rows ≤ m
earliest_le m [] = omega arith
earliest_le m (row ∷ rows) = (let rest = earliest_le (sooner m row.1.deadline) rows in let first = sooner_le m row.1.deadline in omega (arith, rest, first))

-- the route does not expire before the moment `m`
abbrev Ends : ℕ → Route → Type 0
Ends m r = (d : ℕ) → r.deadline ≡ Some d → m ≤ d

ends_earlier : (a b : ℕ) → a ≤ b → (rows : List (RouteKey × Route)) → AllByRecursion (λ (row : RouteKey × Route). Ends b row.1) rows → AllByRecursion (λ (row : RouteKey × Route). Ends a row.1) rows
ends_earlier a b le [] all = tt
ends_earlier a b le (row ∷ rows) all = ((λ d is. (let late = all.0 d is in omega (arith, le, late))), ends_earlier a b le rows all.1)

earliest_ends : (m : ℕ) (rows : List (RouteKey × Route)) → AllByRecursion (λ (row : RouteKey × Route). Ends (earliest m rows) row.1) rows
earliest_ends m [] = tt
earliest_ends m (row ∷ rows) = (
  (λ d is. (let rest = earliest_le (sooner m row.1.deadline) rows in let first = sooner_end m row.1.deadline d is in omega (arith, rest, first))),
  earliest_ends (sooner m row.1.deadline) rows,
)

-- ---- the number of routes and the earliest deadline in all entries

abbrev sizes : List (List Field × Entry) → ℕ
sizes es = total size es

abbrev of_all : Tally → List (List Field × Entry) → Tally
of_all t es = fold {A = Entry} {B = Tally} tallied t (map (λ e. e.1) es)

tally_count : (t : Tally) (es : List (List Field × Entry)) → t.count + sizes es < 2 ^ 64 → (of_all t es).count ≡ t.count + sizes es
tally_count t [] less = omega arith
tally_count t (e ∷ es) less =
    let next = tallied t e.1 in
    let here : next.count ≡ t.count + len e.1.registered = omega (arith, less) in
    let rest = tally_count next es (omega (arith, less, here)) in
    omega (arith, rest, here)

tally_le : (t : Tally) (es : List (List Field × Entry)) → (of_all t es).next_due ≤ t.next_due
tally_le t [] = omega arith
tally_le t (e ∷ es) =
    let rest = tally_le (tallied t e.1) es in
    let here = earliest_le t.next_due (entries e.1.registered) in
    omega (arith, rest, here)

abbrev EntryEnds : ℕ → Entry → Type 0
EntryEnds m e = AllByRecursion (λ (row : RouteKey × Route). Ends m row.1) (entries e.registered)

tally_ends : (t : Tally) (es : List (List Field × Entry)) → AllByRecursion (λ (e : List Field × Entry). EntryEnds (of_all t es).next_due e.1) es
tally_ends t [] = tt
tally_ends t (e ∷ es) = (
  ends_earlier (of_all t (e ∷ es)).next_due (tallied t e.1).next_due (tally_le (tallied t e.1) es) (entries e.1.registered) (earliest_ends t.next_due (entries e.1.registered)),
  tally_ends (tallied t e.1) es,
)

pub tally_is : (t : Routes) (start : Tally) → start.count ≡ 0 → route_count t ≤ 16384 → IsTallied t (fold {A = Entry} {B = Tally} tallied start (values t)).count (fold {A = Entry} {B = Tally} tallied start (values t)).next_due
tally_is t start zero few = record {
  counted = (let all = tally_count start (entries t) (omega (arith, zero, few)) in omega (arith, all, zero));
  later = λ q e is key r there.
      all_got (Ends (of_all start (entries t)).next_due) e.registered
      (all_got (EntryEnds (of_all start (entries t)).next_due) t (tally_ends start (entries t)) q e is) key r there;
}

-- ---- routes that do not expire by a moment

same_row : (now : ℕ) (r : Route) → ((d : ℕ) → r.deadline ≡ Some d → now < d) → is_due now r ≡ false
same_row now r later =
    elim r.deadline as (λ o. r.deadline ≡ o → has_come now o ≡ false) [
      | None ↦ λ is. refl
      | (Some d) ↦ λ is. lt-leb d now (later d is)
    ] refl

-- if no route expires before `moment`, and each name has next hops or routes, then an expiry before
-- `moment` leaves the table unchanged
pub none_due : (t : Routes) (now moment : ℕ) → HaveSome t → NoneEndsBefore moment t → now < moment → left_at now t ≡ t
none_due t now moment some later less =
    same_map name_cmp-total name_cmp-antisymmetric _ _ (λ q.
    get-revise name_cmp-antisymmetric (entry_left_at now) t q
    ∙ elim (get t q) as (λ o. get t q ≡ o → option_and_then (entry_left_at now) o ≡ o) [
      | None ↦ λ is. refl
      | (Some e) ↦ λ is.
          let rows : revise (until_due now) e.registered ≡ e.registered =
          same_map route_cmp-total route_cmp-antisymmetric _ _ (λ k.
          get-revise route_cmp-antisymmetric (until_due now) e.registered k
          ∙ elim (get e.registered k) as (λ o. get e.registered k ≡ o → option_and_then (until_due now) o ≡ o) [
            | None ↦ λ at. refl
            | (Some r) ↦ λ at. ap (λ b. cond b None (Some r)) (same_row now r (λ d ends. (let after = later q e is k r at d ends in omega (arith, after, less))))
          ] refl) in
          ap (λ m. entry_of (record e { registered = m })) rows ∙ ap (λ b. cond b None (Some e)) (some q e is)
    ] refl)
  where
    entry_of : Entry → Option Entry
    entry_of e = cond (is_vacant e) None (Some e)

-- ---- how many routes remain after an expiry

pub left_total : (now : ℕ) (es : List (List Field × Entry)) → total size (revised (entry_left_at now) es) ≡ total (λ (e : Entry). left_of now (entries e.registered)) es
left_total now [] = refl
left_total now (e ∷ es) =
    let rest = left_total now es in
    let left : len (revise (until_due now) e.1.registered) ≡ left_of now (entries e.1.registered) =
    len-entries (revise (until_due now) e.1.registered) ∙ ap length (entries-revise route_cmp (until_due now) e.1.registered) in
    let here : size_of size (entry_left_at now e.1) ≡ left_of now (entries e.1.registered) = size_left (record e.1 { registered = revise (until_due now) e.1.registered }) ∙ left in
    elim (entry_left_at now e.1) as (λ o. size_of size o ≡ left_of now (entries e.1.registered) → total size (with_entry e.0 o (revised (entry_left_at now) es)) ≡ left_of now (entries e.1.registered) + total (λ (e : Entry). left_of now (entries e.registered)) es) [
      | None ↦ λ n. omega (arith, rest, n)
      | (Some x) ↦ λ n. omega (arith, rest, n)
    ] here

pub left_count : (t : Routes) (now : ℕ) → route_count (left_at now t) ≡ total (λ (e : Entry). left_of now (entries e.registered)) (entries t)
left_count t now = ap (total size) (entries-revise name_cmp (entry_left_at now) t) ∙ left_total now (entries t)

sum_left : (l : Left) (es : List (List Field × Entry)) → l.count + total (λ (e : Entry). left_of l.now (entries e.registered)) es < 2 ^ 64
    → (fold {A = Entry} {B = Left} left_after l (map (λ e. e.1) es)).count ≡ l.count + total (λ (e : Entry). left_of l.now (entries e.registered)) es
sum_left l [] less = omega arith
sum_left l (e ∷ es) less =
    let next = left_after l e.1 in
    let here : next.count ≡ l.count + left_of l.now (entries e.1.registered) = omega (arith, less) in
    let rest = sum_left next es (omega (arith, less, here)) in
    omega (arith, rest, here)

pub left_is_counted : (t : Routes) (l : Left) → l.count ≡ 0 → route_count (left_at l.now t) ≤ 16384 → (fold {A = Entry} {B = Left} left_after l (values t)).count ≡ route_count (left_at l.now t)
left_is_counted t l zero few =
    let is = left_count t l.now in
    let all = sum_left l (entries t) (omega (arith, is, zero, few)) in
    omega (arith, is, all, zero)
