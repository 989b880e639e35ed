-- If all faces with next hops or routes are up, this remains true after commands, after the closing
-- and opening of faces, and after the expiry of routes.
use Rattle.std.proofs.Common.{◌≡◌, ℕ, Bool, List, [], ◌∷◌, true, false, cond, sym, ap, subst, refl, inl, inr, Option, None, Some, unwrap_or, eqb, arith, ◌∙◌}
use Rattle.std.proofs.lemmas.Bool.Decides.{nat_tests}
use Rattle.std.proofs.lemmas.Cmp.{nat_cmp_total}
use Rattle.std.specs.Prelude.{◌≢◌, ◌⊎◌, IsSome, not, option_and_then, nat_lt, nat_le, length, ◌||◌}
use Rattle.std.specs.Ordering.{nat_cmp, eq_by_cmp}
use Rattle.std.specs.FinMap as map
use Rattle.std.specs.FinMap.{get-empty, get-insert, get-remove, get-retain_keys}
use Rattle.ndn_tlv.specs.Element.{Field}
use Rattle.ndn_names.specs.Order.{name_cmp}
use Rattle.ndn_names.specs.Key.{name_cmp-antisymmetric, name_cmp-total}
use Rattle.name_trie.specs.ByName.{revise, with_value}
use Rattle.name_trie.proofs.Revised.{equal, get-revise}
use Rattle.pit_fib.specs.declared.route.Route.{Route}
use Rattle.pit_fib.specs.declared.route.RouteKey.{RouteKey}
use Rattle.pit_fib.specs.FaceSet.{adding, has_face, with_face}
use Rattle.pit_fib.specs.Fib.{Entry, Routes, entry_at, entry_left_at, entry_with_hop, entry_with_route, entry_without_face, is_vacant, left_at, no_entry, unless_vacant, with_next_hop, with_route, without_face, without_next_hop, without_route}
use Rattle.pit_fib.specs.Route.{route_cmp, route_cmp-antisymmetric, route_cmp-total, until_due}
use Rattle.mgmt_core.specs.declared.action.Action.TheVariants.{AddNexthop, RemoveNexthop, Register, Unregister, SetStrategy, UnsetStrategy, EraseCache}
use Rattle.mgmt_core.specs.Commands.{FaceNotOpen, PrefixTooLong, TableFull, row_of}
use Rattle.mgmt_core.specs.Reading.{PlainCommand}
use Rattle.mgmt_core.specs.Tables.{AllAreUp, face_of, first_status, if_done, key_of, refuses, route_asked, routes_after, status_of}
use Rattle.pit_fib.specs.StrategyTable.{Choices}

-- the entry has a next hop or a route on this face
abbrev pub Leads : Entry → ℕ → Type 0
Leads e face =
    IsSome (map.get e.hops face)
    ⊎ ((origin : ℕ) × IsSome (map.get e.registered (record { face = face; origin = origin })))

-- all faces of the entry are up
abbrev pub AreUp : Entry → List ℕ → Type 0
AreUp e up = (face : ℕ) → Leads e face → has_face face up ≡ true

-- all faces of the entry are up, if there is an entry
abbrev AreUpIn : Option Entry → List ℕ → Type 0
AreUpIn o up = AreUp (unwrap_or o no_entry) up

same : (f face : ℕ) → eq_by_cmp nat_cmp f face ≡ true → f ≡ face
same f face e = grind (arith, nat_tests, e)

same_key : (k key : RouteKey) → eq_by_cmp route_cmp k key ≡ true → k ≡ key
same_key k key e = route_cmp-antisymmetric k key (equal (route_cmp k key) e)

entry_up : (routes : Routes) (up : List ℕ) → AllAreUp routes up → (n : List Field) → AreUp (entry_at routes n) up
entry_up routes up all n = λ face leads. all face (n, leads)

entries_up : (routes : Routes) (up : List ℕ) → ((n : List Field) → AreUp (entry_at routes n) up) → AllAreUp routes up
entries_up routes up each = λ face w. each w.0 face w.1

-- The lemmas of this module are case distinctions for a lookup in an empty map, or in a map after
-- an insertion, a removal or a change of its values. Each lemma concludes `A` from a lookup that
-- finds a value, if `A` follows in each case.
module _ {X A : Type 0} where
  none_there : (o : Option X) → o ≡ None → IsSome o → A
  none_there o e some = absurd cc

  put_there : (b : Bool) (x : X) (o : Option X) → (b ≡ true → A) → (IsSome o → A) → IsSome (cond b (Some x) o) → A
  put_there true x o here there some = here refl
  put_there false x o here there some = there some

  still_left : (b : Bool) (o : Option X) → (b ≡ false → IsSome o → A) → IsSome (cond b None o) → A
  still_left true o there some = absurd cc
  still_left false o there some = there refl some

  was_there : {Y : Type 0} (change : X → Option Y) (o : Option X) → (IsSome o → A) → IsSome (option_and_then change o) → A
  was_there change None there some = absurd cc
  was_there change (Some x) there some = there refl

module _ (up : List ℕ) where
  no_entry_up : AreUp no_entry up
  no_entry_up f (inl some) = none_there (map.get map.empty f) (get-empty nat_cmp f) some
  no_entry_up f (inr (origin, some)) = none_there (map.get map.empty _) (get-empty route_cmp _) some

  one_of_two : (b : Bool) (o : Option Entry) (e : Entry) → AreUp e up → AreUpIn o up → AreUpIn (cond b (Some e) o) up
  one_of_two true o e here there = here
  one_of_two false o e here there = there

  gone_or_there : (b : Bool) (o : Option Entry) → AreUpIn o up → AreUpIn (cond b None o) up
  gone_or_there true o there = no_entry_up
  gone_or_there false o there = there

  pub unless_vacant_up : (e : Entry) → AreUp e up → AreUpIn (unless_vacant e) up
  unless_vacant_up e all = by_vacant (is_vacant e)
    where
      by_vacant : (b : Bool) → AreUpIn (cond b None (Some e)) up
      by_vacant true = no_entry_up
      by_vacant false = all

  inserted_up : (routes : Routes) (k : List Field) (e : Entry) → AllAreUp routes up → AreUp e up → AllAreUp (map.insert routes k e) up
  inserted_up routes k e all here =
      entries_up (map.insert routes k e) up (λ n.
      subst (λ (o : Option Entry). AreUpIn o up) (sym (get-insert name_cmp-total routes k e n))
      (one_of_two (eq_by_cmp name_cmp n k) (map.get routes n) e here (entry_up routes up all n)))

  removed_up : (routes : Routes) (k : List Field) → AllAreUp routes up → AllAreUp (map.remove routes k) up
  removed_up routes k all =
      entries_up (map.remove routes k) up (λ n.
      subst (λ (o : Option Entry). AreUpIn o up) (sym (get-remove name_cmp-total routes k n))
      (gone_or_there (eq_by_cmp name_cmp n k) (map.get routes n) (entry_up routes up all n)))

  valued_up : (routes : Routes) (k : List Field) (o : Option Entry) → AllAreUp routes up → AreUpIn o up → AllAreUp (with_value routes k o) up
  valued_up routes k None all here = removed_up routes k all
  valued_up routes k (Some e) all here = inserted_up routes k e all here

  -- ---- the faces of one entry

  with_hop_up : (e : Entry) (face cost : ℕ) → AreUp e up → has_face face up ≡ true → AreUp (entry_with_hop face cost e) up
  with_hop_up e face cost all is f (inl some) =
      put_there (eq_by_cmp nat_cmp f face) cost (map.get e.hops f)
      (λ t. subst (λ (g : ℕ). has_face g up ≡ true) (sym (same f face t)) is)
      (λ there. all f (inl there))
      (subst (λ (o : Option ℕ). IsSome o) (get-insert nat_cmp_total e.hops face cost f) some)
  with_hop_up e face cost all is f (inr there) = all f (inr there)

  without_hop_up : (e : Entry) (face : ℕ) → AreUp e up → AreUp (record e { hops = map.remove e.hops face }) up
  without_hop_up e face all f (inl some) =
      still_left (eq_by_cmp nat_cmp f face) (map.get e.hops f) (λ _ there. all f (inl there))
      (subst (λ (o : Option ℕ). IsSome o) (get-remove nat_cmp_total e.hops face f) some)
  without_hop_up e face all f (inr there) = all f (inr there)

  with_route_up : (e : Entry) (key : RouteKey) (route : Route) → AreUp e up → has_face key.face up ≡ true → AreUp (entry_with_route key route e) up
  with_route_up e key route all is f (inl there) = all f (inl there)
  with_route_up e key route all is f (inr (origin, some)) =
      let k : RouteKey = record { face = f; origin = origin } in
      put_there (eq_by_cmp route_cmp k key) route (map.get e.registered k)
      (λ t. subst (λ (g : RouteKey). has_face g.face up ≡ true) (sym (same_key k key t)) is)
      (λ there. all f (inr (origin, there)))
      (subst (λ (o : Option Route). IsSome o) (get-insert route_cmp-total e.registered key route k) some)

  without_route_up : (e : Entry) (key : RouteKey) → AreUp e up → AreUp (record e { registered = map.remove e.registered key }) up
  without_route_up e key all f (inl there) = all f (inl there)
  without_route_up e key all f (inr (origin, some)) =
      let k : RouteKey = record { face = f; origin = origin } in
      still_left (eq_by_cmp route_cmp k key) (map.get e.registered k) (λ _ there. all f (inr (origin, there)))
      (subst (λ (o : Option Route). IsSome o) (get-remove route_cmp-total e.registered key k) some)

  -- ---- after a command, all faces with next hops or routes are still up

  either_up : (b : Bool) (after before : Routes) → AllAreUp after up → AllAreUp before up → AllAreUp (cond b after before) up
  either_up true after before done left = done
  either_up false after before done left = left

  not_refused : (b : Bool) → not b ≡ false → b ≡ true
  not_refused true e = refl
  not_refused false e = absurd cc

  -- The routes that remain after a command are `after` if the status is 200, otherwise `before`.
  -- All faces of the remaining routes are up under two conditions: all faces of `before` are up,
  -- and all faces of `after` are up if the face of the command is open.
  if_added : (too_long not_open full : Bool) (after before : Routes) → (not_open ≡ false → AllAreUp after up) → AllAreUp before up
      → AllAreUp (if_done (cond too_long 414 (cond not_open 410 (cond full 503 200))) after before) up
  if_added true not_open full after before done left = left
  if_added false true full after before done left = left
  if_added false false true after before done left = left
  if_added false false false after before done left = done refl

  pub command_leaves_up : (c : PlainCommand) (face now : ℕ) (routes : Routes) (choices : Choices) → AllAreUp routes up
      → AllAreUp (if_done (status_of c face up routes choices) (routes_after c face now routes) routes) up
  command_leaves_up c face now routes choices all =
      let refused = refuses c face up routes choices in
      let open_face : refused FaceNotOpen ≡ false → has_face (face_of c face) up ≡ true = not_refused (has_face (face_of c face) up) in
      let here : AreUp (entry_at routes c.name) up = entry_up routes up all c.name in
      let hop_less = record (entry_at routes c.name) { hops = map.remove (entry_at routes c.name).hops (face_of c face) } in
      let route_less = record (entry_at routes c.name) { registered = map.remove (entry_at routes c.name).registered (key_of c face) } in
      elim c.action as (λ a. AllAreUp (if_done (first_status refused (row_of a).refusals)
      (elim a [
        | AddNexthop ↦ with_next_hop routes c.name (face_of c face) c.cost
        | RemoveNexthop ↦ without_next_hop routes c.name (face_of c face)
        | Register ↦ with_route routes c.name (key_of c face) (route_asked c now)
        | Unregister ↦ without_route routes c.name (key_of c face)
        | _ ↦ routes
      ]) routes) up) [
        | AddNexthop ↦ if_added (refused PrefixTooLong) (refused FaceNotOpen) (refused TableFull) (with_next_hop routes c.name (face_of c face) c.cost) routes
            (λ up_face. inserted_up routes c.name _ all (with_hop_up (entry_at routes c.name) (face_of c face) c.cost here (open_face up_face))) all
        | RemoveNexthop ↦ valued_up routes c.name _ all (unless_vacant_up hop_less (without_hop_up (entry_at routes c.name) (face_of c face) here))
        | Register ↦ if_added (refused PrefixTooLong) (refused FaceNotOpen) (refused TableFull) (with_route routes c.name (key_of c face) (route_asked c now)) routes
            (λ up_face. inserted_up routes c.name _ all (with_route_up (entry_at routes c.name) (key_of c face) (route_asked c now) here (open_face up_face))) all
        | Unregister ↦ valued_up routes c.name _ all (unless_vacant_up route_less (without_route_up (entry_at routes c.name) (key_of c face) here))
        | SetStrategy ↦ either_up _ routes routes all all
        | UnsetStrategy ↦ all
        | EraseCache ↦ all
      ]

-- ---- the closing of a face, and the expiry of routes

-- In this module, `change` is applied to each entry; if all faces of an entry are in `up`, all
-- faces of the changed entry are in `rest`.
module _ (up rest : List ℕ) (change : Entry → Option Entry) (each : (e : Entry) → AreUp e up → AreUpIn (change e) rest) where
  entry_changed : (o : Option Entry) → AreUpIn o up → AreUpIn (option_and_then change o) rest
  entry_changed None all = no_entry_up rest
  entry_changed (Some e) all = each e all

  revised_up : (routes : Routes) → AllAreUp routes up → AllAreUp (revise change routes) rest
  revised_up routes all =
      entries_up (revise change routes) rest (λ n.
      subst (λ (o : Option Entry). AreUpIn o rest) (sym (get-revise name_cmp-antisymmetric change routes n))
      (entry_changed (map.get routes n) (entry_up routes up all n)))

module _ (up rest : List ℕ) (face : ℕ) (others : (f : ℕ) → has_face f up ≡ true → f ≢ face → has_face f rest ≡ true) where
  other_face : (f : ℕ) → eqb f face ≡ false → f ≢ face
  other_face f e = λ is. absurd (grind (arith, nat_tests, e, is))

  tie : (f : ℕ) → eq_by_cmp nat_cmp f face ≡ eqb f face
  tie f = grind (arith, nat_tests)

  kept_where : {X : Type 0} (b : Bool) (o : Option X) → cond (not b) o None ≡ cond b None o
  kept_where true o = refl
  kept_where false o = refl

  without_closed : (e : Entry) → AreUp e up → AreUp (record { hops = map.remove e.hops face; registered = map.retain_keys e.registered (λ k. not (eqb k.face face)) }) rest
  without_closed e all f (inl some) =
      still_left (eq_by_cmp nat_cmp f face) (map.get e.hops f)
      (λ other there. others f (all f (inl there)) (other_face f (sym (tie f) ∙ other)))
      (subst (λ (o : Option ℕ). IsSome o) (get-remove nat_cmp_total e.hops face f) some)
  without_closed e all f (inr (origin, some)) =
      let k : RouteKey = record { face = f; origin = origin } in
      let found = get-retain_keys e.registered (λ k. not (eqb k.face face)) k (λ x t. ap (λ (k : RouteKey). not (eqb k.face face)) (sym (route_cmp-antisymmetric k x t))) in
      still_left (eqb f face) (map.get e.registered k)
      (λ other there. others f (all f (inr (origin, there))) (other_face f other))
      (subst (λ (o : Option Route). IsSome o) (found ∙ kept_where (eqb f face) (map.get e.registered k)) some)

  pub closing_leaves_up : (routes : Routes) → AllAreUp routes up → AllAreUp (without_face routes face) rest
  closing_leaves_up =
      revised_up up rest (entry_without_face face)
      (λ e all. unless_vacant_up rest (record { hops = map.remove e.hops face; registered = map.retain_keys e.registered (λ k. not (eqb k.face face)) }) (without_closed e all))

module _ (now : ℕ) (up : List ℕ) where
  until_due_up : (e : Entry) → AreUp e up → AreUp (record e { registered = revise (until_due now) e.registered }) up
  until_due_up e all f (inl there) = all f (inl there)
  until_due_up e all f (inr (origin, some)) =
      let k : RouteKey = record { face = f; origin = origin } in
      was_there (until_due now) (map.get e.registered k) (λ there. all f (inr (origin, there)))
      (subst (λ (o : Option Route). IsSome o) (get-revise route_cmp-antisymmetric (until_due now) e.registered k) some)

  pub expiry_leaves_up : (routes : Routes) → AllAreUp routes up → AllAreUp (left_at now routes) up
  expiry_leaves_up =
      revised_up up up (entry_left_at now)
      (λ e all. unless_vacant_up up (record e { registered = revise (until_due now) e.registered }) (until_due_up e all))

-- ---- the opening of a face

later : (a b : Bool) → b ≡ true → (a || b) ≡ true
later true b e = refl
later false b e = e

either : (a b c : Bool) → (b ≡ true → c ≡ true) → (a || b) ≡ true → (a || c) ≡ true
either true b c f e = refl
either false b c f e = f e

-- a face that is up is still up after a face is added to the faces that are up
still_there : (f face : ℕ) (up : List ℕ) → has_face f up ≡ true → has_face f (with_face face up) ≡ true
still_there f face [] e = absurd cc
still_there f face (g ∷ up) e = placed (nat_lt face g) (λ rest. still_there f face up rest)
  where
    placed : (b : Bool) → (has_face f up ≡ true → has_face f (with_face face up) ≡ true) → has_face f (cond b (face ∷ g ∷ up) (g ∷ with_face face up)) ≡ true
    placed true again = later (eqb face f) (has_face f (g ∷ up)) e
    placed false again = either (eqb g f) (has_face f up) (has_face f (with_face face up)) again e

pub opening_leaves_up : (face : ℕ) (up : List ℕ) (routes : Routes) → AllAreUp routes up → AllAreUp routes (adding face up).1
opening_leaves_up face up routes all = opened (has_face face up) (nat_le 64 (length up))
  where
    opened : (b c : Bool) → AllAreUp routes (cond {A = Bool × List ℕ} b (true, up) (cond c (false, up) (true, with_face face up))).1
    opened true c = all
    opened false true = all
    opened false false = λ f leads. still_there f face up (all f leads)
