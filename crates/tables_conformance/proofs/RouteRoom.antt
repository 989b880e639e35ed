-- Suppose that each face of a table, and a further face `face`, is below 63 or is 2^64 - 1. Then
-- the table and `face` together have at most 64 different faces (`HasRoomFor`).
use Rattle.std.proofs.Common.{◌≡◌, ◌⊎◌, inl, inr, ℕ, suc, ◌+◌, ◌-◌, ◌^◌, ◌<◌, ◌≤◌, Bool, true, false, not, cond, List, [], ◌∷◌, length, refl, sym, ap, subst, ◌∙◌, arith, eqb}
use Rattle.std.proofs.lemmas.Bool.Decides.{nat_tests}
use Rattle.std.proofs.lemmas.Cmp.{nat_cmp_total}
use Rattle.std.specs.Prelude.{Option, Some, None, Result, Ok, Err, unwrap_or, IsSome, OnOk, OnErr, option_and_then}
use Rattle.std.specs.List.{AllByRecursion}
use Rattle.std.specs.Ordering.{nat_cmp, eq_by_cmp}
use Rattle.std.specs.FinMap as map
use Rattle.std.specs.FinMap.{get-empty, get-insert, get-remove, get-retain_keys}
use Rattle.ndn_tlv.specs.Element.{Field}
use Rattle.ndn_names.specs.Order.{name_cmp}
use Rattle.ndn_names.specs.Key.{name_cmp-antisymmetric, name_cmp-total}
use Rattle.name_trie.specs.ByName.{revise, with_value}
use Rattle.name_trie.proofs.Revised.{equal, get-revise}
use Rattle.pit_fib.specs.declared.route.Route.{Route}
use Rattle.pit_fib.specs.declared.route.RouteKey.{RouteKey}
use Rattle.pit_fib.specs.FaceSet.{IsRising}
use Rattle.pit_fib.specs.Fib.{Entry, Routes, HasRoomFor, LeadsTo, entry_at, entry_left_at, entry_with_hop, entry_with_route, entry_without_face, is_vacant, left_at, no_entry, unless_vacant, with_next_hop, with_route, without_face, without_next_hop, without_route}
use Rattle.pit_fib.specs.Route.{route_cmp, route_cmp-antisymmetric, route_cmp-total, until_due}

-- the face is below 63, or is the greatest face number
abbrev pub IsOurs : ℕ → Type 0
IsOurs face = (face < 63) ⊎ (face ≡ 2 ^ 64 - 1)

-- all next hops and routes are on faces that are below 63 or are the greatest face number
abbrev pub AreOurs : Routes → Type 0
AreOurs routes = (face : ℕ) → LeadsTo routes face → IsOurs face

-- ---- the limit of 64 faces

-- if `f` is the greatest face number, a list is empty if all its faces are greater than `f` and
-- `IsOurs` holds for each of them
none_above : (f : ℕ) (l : List ℕ) → f ≡ 2 ^ 64 - 1 → AllByRecursion (λ g. f < g) l → AllByRecursion IsOurs l → length l ≤ 0
none_above f [] last above ours = omega arith
none_above f (g ∷ l) last above ours =
    let more = above.0 in
    elim ours.0 [ (inl less) ↦ absurd (omega (arith, last, more, less)) | (inr same) ↦ absurd (omega (arith, last, more, same)) ]

spread : (m : ℕ) (faces : List ℕ) → IsRising faces → AllByRecursion (λ f. m ≤ f) faces → AllByRecursion IsOurs faces → m ≤ 63 → length faces + m ≤ 64
spread m [] rising low ours le = omega (arith, le)
spread m (f ∷ faces) rising low ours le =
    let first = low.0 in
    elim ours.0 [
      | (inl less) ↦
          let rest = spread (suc f) faces rising.1 (after faces rising.0) ours.1 (omega (arith, less)) in
          omega (arith, rest, first)
      | (inr last) ↦
          let none = none_above f faces last rising.0 ours.1 in
          omega (arith, none, le)
    ]
  where
    after : (l : List ℕ) → AllByRecursion (λ g. f < g) l → AllByRecursion (λ g. suc f ≤ g) l
    after [] h = tt
    after (g ∷ l) h = ((let lt = h.0 in omega arith), after l h.1)

pub room_ours : (routes : Routes) (face : ℕ) → AreOurs routes → IsOurs face → HasRoomFor routes face
room_ours routes face all here faces rising each = omega (arith, spread 0 faces rising (from_0 faces) (ours faces each) (omega arith))
  where
    from_0 : (l : List ℕ) → AllByRecursion (λ f. 0 ≤ f) l
    from_0 [] = tt
    from_0 (f ∷ l) = (omega arith, from_0 l)

    one : (f : ℕ) → LeadsTo routes f ⊎ (f ≡ face) → IsOurs f
    one f (inl leads) = all f leads
    one f (inr same) = subst IsOurs (sym same) here

    ours : (l : List ℕ) → AllByRecursion (λ f. LeadsTo routes f ⊎ (f ≡ face)) l → AllByRecursion IsOurs l
    ours [] h = tt
    ours (f ∷ l) h = (one f h.0, ours l h.1)

-- ---- the faces of one entry

-- the entry has a next hop or a route on this face
abbrev Leads : Entry → ℕ → Type 0
Leads e face =
    IsSome (map.get e.hops face)
    ⊎ ((origin : ℕ) × IsSome (map.get e.registered (record { face = face; origin = origin })))

abbrev Ours : Entry → Type 0
Ours e = (face : ℕ) → Leads e face → IsOurs face

abbrev OursIn : Option Entry → Type 0
OursIn o = Ours (unwrap_or o no_entry)

same : (f face : ℕ) → eq_by_cmp nat_cmp f face ≡ true → f ≡ face
same f face e = grind (arith, nat_tests, e)

same_key : (k key : RouteKey) → eq_by_cmp route_cmp k key ≡ true → k ≡ key
same_key k key e = route_cmp-antisymmetric k key (equal (route_cmp k key) e)

-- Each lemma of this module is about a lookup in an empty map, or in a map after an insertion, a
-- removal or a change of its values. If the lookup finds a value, and `A` follows in each case in
-- which the lookup can find a value, then `A` is true. In an empty map, there is no such case.
module _ {X A : Type 0} where
  none_there : (o : Option X) → o ≡ None → IsSome o → A
  none_there o e some = absurd cc

  put_there : (b : Bool) (x : X) (o : Option X) → (b ≡ true → A) → (IsSome o → A) → IsSome (cond b (Some x) o) → A
  put_there true x o here there some = here refl
  put_there false x o here there some = there some

  still_left : (b : Bool) (o : Option X) → (IsSome o → A) → IsSome (cond b None o) → A
  still_left true o there some = absurd cc
  still_left false o there some = there some

  was_there : {Y : Type 0} (change : X → Option Y) (o : Option X) → (IsSome o → A) → IsSome (option_and_then change o) → A
  was_there change None there some = absurd cc
  was_there change (Some x) there some = there refl

no_entry_ours : Ours no_entry
no_entry_ours f (inl some) = none_there (map.get map.empty f) (get-empty nat_cmp f) some
no_entry_ours f (inr (origin, some)) = none_there (map.get map.empty _) (get-empty route_cmp _) some

unless_vacant_ours : (e : Entry) → Ours e → OursIn (unless_vacant e)
unless_vacant_ours e all = by_vacant (is_vacant e)
  where
    by_vacant : (b : Bool) → OursIn (cond b None (Some e))
    by_vacant true = no_entry_ours
    by_vacant false = all

with_hop_ours : (e : Entry) (face cost : ℕ) → Ours e → IsOurs face → Ours (entry_with_hop face cost e)
with_hop_ours e face cost all is f (inl some) =
    put_there (eq_by_cmp nat_cmp f face) cost (map.get e.hops f) (λ t. subst IsOurs (sym (same f face t)) is) (λ there. all f (inl there))
    (subst (λ (o : Option ℕ). IsSome o) (get-insert nat_cmp_total e.hops face cost f) some)
with_hop_ours e face cost all is f (inr there) = all f (inr there)

without_hop_ours : (e : Entry) (face : ℕ) → Ours e → Ours (record e { hops = map.remove e.hops face })
without_hop_ours e face all f (inl some) =
    still_left (eq_by_cmp nat_cmp f face) (map.get e.hops f) (λ there. all f (inl there))
    (subst (λ (o : Option ℕ). IsSome o) (get-remove nat_cmp_total e.hops face f) some)
without_hop_ours e face all f (inr there) = all f (inr there)

with_route_ours : (e : Entry) (key : RouteKey) (route : Route) → Ours e → IsOurs key.face → Ours (entry_with_route key route e)
with_route_ours e key route all is f (inl there) = all f (inl there)
with_route_ours e key route all is f (inr (origin, some)) =
    let k : RouteKey = record { face = f; origin = origin } in
    put_there (eq_by_cmp route_cmp k key) route (map.get e.registered k)
    (λ t. subst (λ (g : RouteKey). IsOurs g.face) (sym (same_key k key t)) is) (λ there. all f (inr (origin, there)))
    (subst (λ (o : Option Route). IsSome o) (get-insert route_cmp-total e.registered key route k) some)

without_route_ours : (e : Entry) (key : RouteKey) → Ours e → Ours (record e { registered = map.remove e.registered key })
without_route_ours e key all f (inl there) = all f (inl there)
without_route_ours e key all f (inr (origin, some)) =
    let k : RouteKey = record { face = f; origin = origin } in
    still_left (eq_by_cmp route_cmp k key) (map.get e.registered k) (λ there. all f (inr (origin, there)))
    (subst (λ (o : Option Route). IsSome o) (get-remove route_cmp-total e.registered key k) some)

module _ (face : ℕ) where
  kept_where : {X : Type 0} (b : Bool) (o : Option X) → cond (not b) o None ≡ cond b None o
  kept_where true o = refl
  kept_where false o = refl

  without_closed : (e : Entry) → Ours e → Ours (record { hops = map.remove e.hops face; registered = map.retain_keys e.registered (λ k. not (eqb k.face face)) })
  without_closed e all f (inl some) =
      still_left (eq_by_cmp nat_cmp f face) (map.get e.hops f) (λ there. all f (inl there))
      (subst (λ (o : Option ℕ). IsSome o) (get-remove nat_cmp_total e.hops face f) some)
  without_closed e all f (inr (origin, some)) =
      let k : RouteKey = record { face = f; origin = origin } in
      let found = get-retain_keys e.registered (λ k. not (eqb k.face face)) k (λ x t. ap (λ (k : RouteKey). not (eqb k.face face)) (sym (route_cmp-antisymmetric k x t))) in
      still_left (eqb f face) (map.get e.registered k) (λ there. all f (inr (origin, there)))
      (subst (λ (o : Option Route). IsSome o) (found ∙ kept_where (eqb f face) (map.get e.registered k)) some)

until_due_ours : (now : ℕ) (e : Entry) → Ours e → Ours (record e { registered = revise (until_due now) e.registered })
until_due_ours now e all f (inl there) = all f (inl there)
until_due_ours now e all f (inr (origin, some)) =
    let k : RouteKey = record { face = f; origin = origin } in
    was_there (until_due now) (map.get e.registered k) (λ there. all f (inr (origin, there)))
    (subst (λ (o : Option Route). IsSome o) (get-revise route_cmp-antisymmetric (until_due now) e.registered k) some)

-- ---- the faces of a table

entry_ours : (routes : Routes) → AreOurs routes → (n : List Field) → Ours (entry_at routes n)
entry_ours routes all n = λ face leads. all face (n, leads)

entries_ours : (routes : Routes) → ((n : List Field) → Ours (entry_at routes n)) → AreOurs routes
entries_ours routes each = λ face w. each w.0 face w.1

pub none_ours : (routes : Routes) → routes ≡ map.empty → AreOurs routes
none_ours routes e =
    entries_ours routes (λ n. subst (λ (o : Option Entry). OursIn o) (sym (ap (λ (r : Routes). map.get r n) e ∙ get-empty name_cmp n)) no_entry_ours)

one_of_two : (b : Bool) (o : Option Entry) (e : Entry) → Ours e → OursIn o → OursIn (cond b (Some e) o)
one_of_two true o e here there = here
one_of_two false o e here there = there

gone_or_there : (b : Bool) (o : Option Entry) → OursIn o → OursIn (cond b None o)
gone_or_there true o there = no_entry_ours
gone_or_there false o there = there

inserted_ours : (routes : Routes) (k : List Field) (e : Entry) → AreOurs routes → Ours e → AreOurs (map.insert routes k e)
inserted_ours routes k e all here =
    entries_ours (map.insert routes k e) (λ n.
    subst (λ (o : Option Entry). OursIn o) (sym (get-insert name_cmp-total routes k e n))
    (one_of_two (eq_by_cmp name_cmp n k) (map.get routes n) e here (entry_ours routes all n)))

removed_ours : (routes : Routes) (k : List Field) → AreOurs routes → AreOurs (map.remove routes k)
removed_ours routes k all =
    entries_ours (map.remove routes k) (λ n.
    subst (λ (o : Option Entry). OursIn o) (sym (get-remove name_cmp-total routes k n))
    (gone_or_there (eq_by_cmp name_cmp n k) (map.get routes n) (entry_ours routes all n)))

valued_ours : (routes : Routes) (k : List Field) (o : Option Entry) → AreOurs routes → OursIn o → AreOurs (with_value routes k o)
valued_ours routes k None all here = removed_ours routes k all
valued_ours routes k (Some e) all here = inserted_ours routes k e all here

revised_ours : (change : Entry → Option Entry) → ((e : Entry) → Ours e → OursIn (change e)) → (routes : Routes) → AreOurs routes → AreOurs (revise change routes)
revised_ours change each routes all =
    entries_ours (revise change routes) (λ n.
    subst (λ (o : Option Entry). OursIn o) (sym (get-revise name_cmp-antisymmetric change routes n))
    (changed (map.get routes n) (entry_ours routes all n)))
  where
    changed : (o : Option Entry) → OursIn o → OursIn (option_and_then change o)
    changed None all = no_entry_ours
    changed (Some e) all = each e all

pub hop_ours : (routes : Routes) (name : List Field) (face cost : ℕ) → AreOurs routes → IsOurs face → AreOurs (with_next_hop routes name face cost)
hop_ours routes name face cost all here =
    inserted_ours routes name _ all (with_hop_ours (entry_at routes name) face cost (entry_ours routes all name) here)

pub route_ours : (routes : Routes) (name : List Field) (key : RouteKey) (route : Route) → AreOurs routes → IsOurs key.face → AreOurs (with_route routes name key route)
route_ours routes name key route all here =
    inserted_ours routes name _ all (with_route_ours (entry_at routes name) key route (entry_ours routes all name) here)

pub hopless_ours : (routes : Routes) (name : List Field) (face : ℕ) → AreOurs routes → AreOurs (without_next_hop routes name face)
hopless_ours routes name face all =
    let less = record (entry_at routes name) { hops = map.remove (entry_at routes name).hops face } in
    valued_ours routes name _ all (unless_vacant_ours less (without_hop_ours (entry_at routes name) face (entry_ours routes all name)))

pub routeless_ours : (routes : Routes) (name : List Field) (key : RouteKey) → AreOurs routes → AreOurs (without_route routes name key)
routeless_ours routes name key all =
    let less = record (entry_at routes name) { registered = map.remove (entry_at routes name).registered key } in
    valued_ours routes name _ all (unless_vacant_ours less (without_route_ours (entry_at routes name) key (entry_ours routes all name)))

pub closed_ours : (face : ℕ) (routes : Routes) → AreOurs routes → AreOurs (without_face routes face)
closed_ours face =
    revised_ours (entry_without_face face)
    (λ e all. unless_vacant_ours (record { hops = map.remove e.hops face; registered = map.retain_keys e.registered (λ k. not (eqb k.face face)) }) (without_closed face e all))

pub left_ours : (now : ℕ) (routes : Routes) → AreOurs routes → AreOurs (left_at now routes)
left_ours now =
    revised_ours (entry_left_at now)
    (λ e all. unless_vacant_ours (record e { registered = revise (until_due now) e.registered }) (until_due_ours now e all))

-- suppose that `new` equals `after` if `answer` is `Ok`, and equals `old` if `answer` is `Err`; if
-- `AreOurs` holds for `old` and for `after`, then `AreOurs` holds for `new`
pub either_ours : {X Y : Type 0} (answer : Result X Y) (old new after : Routes) → OnOk answer (new ≡ after) → OnErr answer (new ≡ old) → AreOurs old → AreOurs after → AreOurs new
either_ours (Ok x) old new after ok err all done = subst AreOurs (sym ok) done
either_ours (Err y) old new after ok err all done = subst AreOurs (sym err) all
