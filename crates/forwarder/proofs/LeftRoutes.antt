-- The routes that remain at a moment, and how many routes expire by that moment.
use Rattle.std.proofs.Common.{◌≡◌, ℕ, suc, ◌+◌, ◌≤◌, true, false, cond, List, [], ◌∷◌, length, refl, sym, ap, subst, ◌∙◌, Option, None, Some, arith}
use Rattle.std.proofs.lemmas.Bool.{le-leb, leb-true}
use Rattle.std.specs.Prelude.{option_and_then}
use Rattle.std.specs.declared.cmp.Ordering.{Ordering}
use Rattle.std.specs.Ordering.{nat_cmp}
use Rattle.std.specs.FinMap as map
use Rattle.std.specs.FinMap.{FinMap, len-empty, len-entries, same_map}
use Rattle.ndn_tlv.specs.Element.{Field}
use Rattle.ndn_names.specs.Key.{name_cmp-antisymmetric, name_cmp-total}
use Rattle.ndn_names.specs.Order.{name_cmp}
use Rattle.name_trie.specs.ByName.{revise, revised, with_entry}
use Rattle.name_trie.specs.Flat.{size_of, total}
use Rattle.name_trie.proofs.Least.{entries-revise}
use Rattle.name_trie.proofs.Revised.{get-revise, revise-empty}
use Rattle.pit_fib.specs.declared.route.Route.{Route}
use Rattle.pit_fib.specs.declared.route.RouteKey.{RouteKey}
use Rattle.pit_fib.specs.Fib.{Entry, Routes, due_count, entry_left_at, is_vacant, left_at, no_entry, route_count, unless_vacant}
use Rattle.pit_fib.specs.Route.{Registered, has_come, is_due, route_cmp, route_cmp-antisymmetric, route_cmp-total, until_due}
use Rattle.forwarder.proofs.RouteChanges.{vacant_is}

-- ---- the routes that remain at two moments, one after the other

came_before : (m n : ℕ) (deadline : Option ℕ) → m ≤ n → has_come m deadline ≡ true → has_come n deadline ≡ true
came_before m n None le is = absurd cc
came_before m n (Some deadline) le is = le-leb deadline n (omega (arith, leb-true deadline m is, le))

still_due : (m n : ℕ) → m ≤ n → (o : Option Route) → option_and_then (until_due n) (option_and_then (until_due m) o) ≡ option_and_then (until_due n) o
still_due m n le None = refl
still_due m n le (Some r) =
    elim (is_due m r) as (λ b. is_due m r ≡ b → option_and_then (until_due n) (cond b None (Some r)) ≡ until_due n r) [
      | true ↦ λ is. sym (ap (λ b. cond b None (Some r)) (came_before m n r.deadline le is))
      | false ↦ λ is. refl
    ] refl

registered_twice : (m n : ℕ) → m ≤ n → (g : Registered) → revise (until_due n) (revise (until_due m) g) ≡ revise (until_due n) g
registered_twice m n le g =
    same_map route_cmp-total route_cmp-antisymmetric _ _ (λ (k : RouteKey).
    get-revise route_cmp-antisymmetric (until_due n) (revise (until_due m) g) k
    ∙ ap (option_and_then (until_due n)) (get-revise route_cmp-antisymmetric (until_due m) g k)
    ∙ still_due m n le (map.get g k)
    ∙ sym (get-revise route_cmp-antisymmetric (until_due n) g k))

-- what is left of the entry `e` at the moment `n` does not change if `unless_vacant` is first
-- applied to `e`
vacant_goes : (n : ℕ) (e : Entry) → option_and_then (entry_left_at n) (unless_vacant e) ≡ entry_left_at n e
vacant_goes n e =
    elim (is_vacant e) as (λ b. is_vacant e ≡ b → option_and_then (entry_left_at n) (cond b None (Some e)) ≡ entry_left_at n e) [
      | true ↦ λ is. sym (ap (entry_left_at n) (vacant_is e is) ∙ none_left)
      | false ↦ λ is. refl
    ] refl
  where
    none_left : entry_left_at n no_entry ≡ None
    none_left =
        ap (λ (g : Registered). unless_vacant (record { hops = map.empty; registered = g })) (revise-empty route_cmp (until_due n))
        ∙ rw (len-empty nat_cmp ℕ, len-empty route_cmp Route) refl

entry_twice : (m n : ℕ) → m ≤ n → (o : Option Entry) → option_and_then (entry_left_at n) (option_and_then (entry_left_at m) o) ≡ option_and_then (entry_left_at n) o
entry_twice m n le None = refl
entry_twice m n le (Some e) =
    vacant_goes n (record e { registered = revise (until_due m) e.registered })
    ∙ ap (λ (g : Registered). unless_vacant (record e { registered = g })) (registered_twice m n le e.registered)

-- removing the routes that expire by `m`, and then the routes that expire by the later moment `n`,
-- leaves the routes that remain at `n`
pub left_twice : (m n : ℕ) (routes : Routes) → m ≤ n → left_at n (left_at m routes) ≡ left_at n routes
left_twice m n routes le =
    same_map name_cmp-total name_cmp-antisymmetric _ _ (λ (k : List Field).
    get-revise name_cmp-antisymmetric (entry_left_at n) (left_at m routes) k
    ∙ ap (option_and_then (entry_left_at n)) (get-revise name_cmp-antisymmetric (entry_left_at m) routes k)
    ∙ entry_twice m n le (map.get routes k)
    ∙ sym (get-revise name_cmp-antisymmetric (entry_left_at n) routes k))

-- ---- how many routes remain at a moment

module _ {K X : Type 0} (change : X → Option X) where
  fewer_revised : (es : List (K × X)) → length (revised change es) ≤ length es
  fewer_revised [] = omega arith
  fewer_revised (e ∷ es) =
      let rest = fewer_revised es in
      elim (change e.1) as (λ o. length (with_entry e.0 o (revised change es)) ≤ suc (length es)) [ None ↦ omega (arith, rest) | (Some x) ↦ omega (arith, rest) ]

  module _ (size : X → ℕ) (falls : (x : X) → size_of size (change x) ≤ size x) where
    total_revised : (es : List (K × X)) → total size (revised change es) ≤ total size es
    total_revised [] = omega arith
    total_revised (e ∷ es) =
        let rest = total_revised es in
        elim (change e.1) as (λ o. size_of size o ≤ size e.1 → total size (with_entry e.0 o (revised change es)) ≤ size e.1 + total size es) [
          | None ↦ λ less. omega (arith, rest)
          | (Some x) ↦ λ less. omega (arith, rest, less)
        ] (falls e.1)

len-revise : {K X : Type 0} {R : K → K → Ordering} (change : X → Option X) (m : FinMap R X) → map.len (revise change m) ≤ map.len m
len-revise {R = R} change m =
    omega (arith, len-entries (revise change m), len-entries m, ap length (entries-revise R change m), fewer_revised change (map.entries m))

entry_falls : (now : ℕ) (e : Entry) → size_of (λ (x : Entry). map.len x.registered) (entry_left_at now e) ≤ map.len e.registered
entry_falls now e =
    let left = record e { registered = revise (until_due now) e.registered } in
    let few = len-revise (until_due now) e.registered in
    elim (is_vacant left) as (λ b. size_of (λ (x : Entry). map.len x.registered) (cond b None (Some left)) ≤ map.len e.registered) [ true ↦ omega arith | false ↦ few ]

-- advancing time does not increase the number of routes
pub count-left : (now : ℕ) (routes : Routes) → route_count (left_at now routes) ≤ route_count routes
count-left now routes =
    subst (λ es. total (λ (e : Entry). map.len e.registered) es ≤ route_count routes) (sym (entries-revise name_cmp (entry_left_at now) routes))
    (total_revised (entry_left_at now) (λ e. map.len e.registered) (entry_falls now) (map.entries routes))

-- the number of routes that expire by the moment `m`, plus the number of remaining routes that
-- expire by the later moment `n`, is the number of all routes that expire by `n`
pub due_twice : (m n : ℕ) (routes : Routes) → m ≤ n → due_count m routes + due_count n (left_at m routes) ≡ due_count n routes
due_twice m n routes le =
    let twice = ap route_count (left_twice m n routes le) in
    let first = count-left m routes in
    let second = count-left n (left_at m routes) in
    omega (arith, twice, first, second)
