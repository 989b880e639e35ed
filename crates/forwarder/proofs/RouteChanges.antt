-- How each change of the routes affects the entry of a name.
use Rattle.std.proofs.Common.{◌≡◌, ℕ, Bool, true, false, cond, not, eqb, List, refl, sym, ap, ◌∙◌, Option, None, Some, unwrap_or, arith}
use Rattle.std.proofs.lemmas.Bool.{eqb-true}
use Rattle.std.proofs.lemmas.Bool.Decides.{nat_tests}
use Rattle.std.specs.Cmp.{Equal-is, nat_cmp_total}
use Rattle.std.specs.Prelude.{option_and_then, ◌==◌, ◌&&◌}
use Rattle.std.specs.declared.cmp.Ordering.{Ordering}
use Rattle.std.specs.declared.cmp.Ordering.TheVariants.{Less, Equal, Greater}
use Rattle.std.specs.Ordering.{eq_by_cmp, is_eq, nat_cmp, ordering_then}
use Rattle.std.specs.FinMap as map
use Rattle.std.specs.FinMap.{empty_of_len, get-empty, get-insert, get-remove, get-retain_keys, nat_cmp-IsAntisymmetric, same_map}
use Rattle.ndn_tlv.specs.Element.{Field}
use Rattle.ndn_names.specs.Key.{name_cmp-antisymmetric, name_cmp-total}
use Rattle.ndn_names.specs.Order.{name_cmp}
use Rattle.name_trie.specs.ByName.{revise, with_value}
use Rattle.name_trie.proofs.Revised.{get-revise, revise-empty}
use Rattle.pit_fib.specs.Fib.{Entry, Routes, costs_at, entry_at, entry_left_at, entry_with_hop, entry_with_route, entry_without_face, is_vacant, left_at, no_entry, registered_at, unless_vacant, with_next_hop, with_route, without_face, without_next_hop, without_route}
use Rattle.pit_fib.specs.Route.{Registered, route_cmp, route_cmp-antisymmetric, route_cmp-total, until_due}
use Rattle.pit_fib.specs.declared.route.Route.{Route}
use Rattle.pit_fib.specs.declared.route.RouteKey.{RouteKey}
use Rattle.pit_fib.specs.Tables.{ByFace}

pub same_name : (a b : List Field) → eq_by_cmp name_cmp a b ≡ true → a ≡ b
same_name a b e = name_cmp-antisymmetric a b ((Equal-is (name_cmp a b)).0 e)

pub same_face : (f face : ℕ) → eq_by_cmp nat_cmp f face ≡ eqb f face
same_face f face = grind (arith, nat_tests)

-- an entry without next hops and without routes equals `no_entry`, the value for a name without an
-- entry
pub vacant_is : (e : Entry) → is_vacant e ≡ true → e ≡ no_entry
vacant_is e is =
    let both = parts (eqb (map.len e.hops) 0) (eqb (map.len e.registered) 0) is in
    let hops : e.hops ≡ map.empty = empty_of_len e.hops (eqb-true (map.len e.hops) 0 both.0) in
    let registered : e.registered ≡ map.empty = empty_of_len e.registered (eqb-true (map.len e.registered) 0 both.1) in
    λ i. record { hops = hops i; registered = registered i }
  where
    parts : (a b : Bool) → (a && b) ≡ true → (a ≡ true) × (b ≡ true)
    parts true b h = (refl, h)
    parts false b h = absurd cc

-- looking up an entry gives the same result, whether a vacant entry is removed or kept
pub kept_or_gone : (e : Entry) → unwrap_or (unless_vacant e) no_entry ≡ e
kept_or_gone e =
    elim (is_vacant e) as (λ b. is_vacant e ≡ b → unwrap_or (cond b None (Some e)) no_entry ≡ e) [
      | true ↦ λ is. sym (vacant_is e is)
      | false ↦ λ is. refl
    ] refl

valued : (routes : Routes) (n name : List Field) (o : Option Entry) → map.get (with_value routes n o) name ≡ cond (eq_by_cmp name_cmp name n) o (map.get routes name)
valued routes n name None = get-remove name_cmp-total routes n name
valued routes n name (Some e) = get-insert name_cmp-total routes n e name

-- In this module, the entry of the name `n` is set to `e`. The lemmas tell what `read` then gives
-- for the entry of the name `name`.
module _ {V : Type 0} (read : Entry → V) (routes : Routes) (n : List Field) (e : Entry) (name : List Field) where
  by_name : (b : Bool) (o : Option Entry) → unwrap_or o no_entry ≡ e → read (unwrap_or (cond b o (map.get routes name)) no_entry) ≡ cond b (read e) (read (entry_at routes name))
  by_name true o is = ap read is
  by_name false o is = refl

  read_with : read (entry_at (map.insert routes n e) name) ≡ cond (eq_by_cmp name_cmp name n) (read e) (read (entry_at routes name))
  read_with =
      ap (λ (o : Option Entry). read (unwrap_or o no_entry)) (get-insert name_cmp-total routes n e name)
      ∙ by_name (eq_by_cmp name_cmp name n) (Some e) refl

  read_valued : read (entry_at (with_value routes n (unless_vacant e)) name) ≡ cond (eq_by_cmp name_cmp name n) (read e) (read (entry_at routes name))
  read_valued =
      ap (λ (o : Option Entry). read (unwrap_or o no_entry)) (valued routes n name (unless_vacant e))
      ∙ by_name (eq_by_cmp name_cmp name n) (unless_vacant e) (kept_or_gone e)

  changed_there : (x : V) (b : Bool) (y : V) → x ≡ cond (eq_by_cmp name_cmp name n) (read e) (read (entry_at routes name)) → read e ≡ cond b y (read (entry_at routes n))
      → x ≡ cond (eq_by_cmp name_cmp name n && b) y (read (entry_at routes name))
  changed_there x b y is here = is ∙ by (eq_by_cmp name_cmp name n) refl
    where
      by : (t : Bool) → eq_by_cmp name_cmp name n ≡ t → cond t (read e) (read (entry_at routes name)) ≡ cond (t && b) y (read (entry_at routes name))
      by true t = here ∙ ap (λ (m : List Field). cond b y (read (entry_at routes m))) (sym (same_name name n t))
      by false t = refl

  -- The value of an entry is what `read` gives for the entry. Let the new entry `e` of `n` have the
  -- value `y` if `b` is true, and the value of the old entry of `n` if `b` is false. Then the new
  -- entry of `name` has the value `y` if `name` is `n` and `b` is true. In all other cases, the new
  -- entry of `name` has the value of the old entry of `name`.
  pub changed_with : (b : Bool) (y : V) → read e ≡ cond b y (read (entry_at routes n))
      → read (entry_at (map.insert routes n e) name) ≡ cond (eq_by_cmp name_cmp name n && b) y (read (entry_at routes name))
  changed_with b y = changed_there (read (entry_at (map.insert routes n e) name)) b y read_with

  pub changed_valued : (b : Bool) (y : V) → read e ≡ cond b y (read (entry_at routes n))
      → read (entry_at (with_value routes n (unless_vacant e)) name) ≡ cond (eq_by_cmp name_cmp name n && b) y (read (entry_at routes name))
  changed_valued b y = changed_there (read (entry_at (with_value routes n (unless_vacant e)) name)) b y read_valued

  either_way : (t : Bool) (x : V) → cond (t && false) x x ≡ x
  either_way true x = refl
  either_way false x = refl

  -- Let `read` give the same value for the new entry `e` and for the old entry of `n`. Then `read`
  -- gives the same value for the entry of `name` in the changed routes and in the old routes.
  pub unread_with : read e ≡ read (entry_at routes n) → read (entry_at (map.insert routes n e) name) ≡ read (entry_at routes name)
  unread_with same = changed_with false (read (entry_at routes name)) same ∙ either_way (eq_by_cmp name_cmp name n) (read (entry_at routes name))

  pub unread_valued : read e ≡ read (entry_at routes n) → read (entry_at (with_value routes n (unless_vacant e)) name) ≡ read (entry_at routes name)
  unread_valued same = changed_valued false (read (entry_at routes name)) same ∙ either_way (eq_by_cmp name_cmp name n) (read (entry_at routes name))

-- ---- changes to all entries at once

-- Let `hops` change the next hops of every entry, and let `registered` change the routes of every
-- entry. Let both functions map the empty map to the empty map. Even if vacant entries are removed
-- afterwards, looking up a name gives its old entry, changed by `hops` and `registered`.
revised_at : (hops : ByFace → ByFace) (registered : Registered → Registered) → hops map.empty ≡ map.empty → registered map.empty ≡ map.empty
    → (o : Option Entry)
    → unwrap_or (option_and_then (λ (e : Entry). unless_vacant (record { hops = hops e.hops; registered = registered e.registered })) o) no_entry
    ≡ record { hops = hops (unwrap_or o no_entry).hops; registered = registered (unwrap_or o no_entry).registered }
revised_at hops registered no_hops none None = λ i. record { hops = sym no_hops i; registered = sym none i }
revised_at hops registered no_hops none (Some e) = kept_or_gone (record { hops = hops e.hops; registered = registered e.registered })

pub entry-left : (now : ℕ) (routes : Routes) (name : List Field)
    → entry_at (left_at now routes) name ≡ record (entry_at routes name) { registered = revise (until_due now) (entry_at routes name).registered }
entry-left now routes name =
    ap (λ (o : Option Entry). unwrap_or o no_entry) (get-revise name_cmp-antisymmetric (entry_left_at now) routes name)
    ∙ revised_at (λ h. h) (λ g. revise (until_due now) g) refl (revise-empty route_cmp (until_due now)) (map.get routes name)

pub entry-without_face : (routes : Routes) (f : ℕ) (name : List Field)
    → entry_at (without_face routes f) name
    ≡ record {
      hops = map.remove (entry_at routes name).hops f;
      registered = map.retain_keys (entry_at routes name).registered (λ k. not (k.face == f));
    }
entry-without_face routes f name =
    ap (λ (o : Option Entry). unwrap_or o no_entry) (get-revise name_cmp-antisymmetric (entry_without_face f) routes name)
    ∙ revised_at (λ h. map.remove h f) (λ g. map.retain_keys g (λ k. not (k.face == f))) (removed_none f) (retained_none f) (map.get routes name)
  where
    removed_none : (f : ℕ) → map.remove {R = nat_cmp} (map.empty {X = ℕ}) f ≡ map.empty
    removed_none f = same_map nat_cmp_total nat_cmp-IsAntisymmetric _ _ (λ (q : ℕ).
        get-remove nat_cmp_total map.empty f q ∙ gone (eq_by_cmp nat_cmp q f) (map.get {R = nat_cmp} map.empty q) (get-empty nat_cmp q))
      where
        gone : (b : Bool) (o : Option ℕ) → o ≡ None → cond b None o ≡ o
        gone true o none = sym none
        gone false o none = refl

    retained_none : (f : ℕ) → map.retain_keys {R = route_cmp} (map.empty {X = Route}) (λ k. not (k.face == f)) ≡ map.empty
    retained_none f = same_map route_cmp-total route_cmp-antisymmetric _ _ (λ (q : RouteKey).
        get-retain_keys {R = route_cmp} (map.empty {X = Route}) (λ k. not (k.face == f)) q (λ k tie. ap (λ (k : RouteKey). not (k.face == f)) (sym (route_cmp-antisymmetric q k tie)))
        ∙ gone (not (q.face == f)) (map.get {R = route_cmp} map.empty q) (get-empty route_cmp q))
      where
        gone : (b : Bool) (o : Option Route) → o ≡ None → cond b o None ≡ o
        gone true o none = refl
        gone false o none = sym none

-- ---- the cost of one next hop after each change

abbrev pub cost_in : Routes → List Field → ℕ → Option ℕ
cost_in routes name face = map.get (costs_at routes name) face

module _ (routes : Routes) (n name : List Field) (face : ℕ) where
  pub cost_added : (f cost : ℕ) → cost_in (with_next_hop routes n f cost) name face ≡ cond (eq_by_cmp name_cmp name n && eqb face f) (Some cost) (cost_in routes name face)
  cost_added f cost =
      changed_with (λ e. map.get e.hops face) routes n (entry_with_hop f cost (entry_at routes n)) name (eqb face f) (Some cost)
      (get-insert nat_cmp_total (costs_at routes n) f cost face ∙ ap (λ (b : Bool). cond b (Some cost) (cost_in routes n face)) (same_face face f))

  pub cost_removed : (f : ℕ) → cost_in (without_next_hop routes n f) name face ≡ cond (eq_by_cmp name_cmp name n && eqb face f) None (cost_in routes name face)
  cost_removed f =
      changed_valued (λ e. map.get e.hops face) routes n (record (entry_at routes n) { hops = map.remove (costs_at routes n) f }) name (eqb face f) None
      (get-remove nat_cmp_total (costs_at routes n) f face ∙ ap (λ (b : Bool). cond b None (cost_in routes n face)) (same_face face f))

  pub cost_registered : (key : RouteKey) (route : Route) → cost_in (with_route routes n key route) name face ≡ cost_in routes name face
  cost_registered key route = unread_with (λ e. map.get e.hops face) routes n (entry_with_route key route (entry_at routes n)) name refl

  pub cost_unregistered : (key : RouteKey) → cost_in (without_route routes n key) name face ≡ cost_in routes name face
  cost_unregistered key =
      unread_valued (λ e. map.get e.hops face) routes n (record (entry_at routes n) { registered = map.remove (registered_at routes n) key }) name refl

pub cost_closed : (routes : Routes) (name : List Field) (f face : ℕ) → cost_in (without_face routes f) name face ≡ cond (eqb face f) None (cost_in routes name face)
cost_closed routes name f face =
    ap (λ (e : Entry). map.get e.hops face) (entry-without_face routes f name)
    ∙ get-remove nat_cmp_total (costs_at routes name) f face ∙ ap (λ (b : Bool). cond b None (cost_in routes name face)) (same_face face f)

pub cost_left : (now : ℕ) (routes : Routes) (name : List Field) (face : ℕ) → cost_in (left_at now routes) name face ≡ cost_in routes name face
cost_left now routes name face = ap (λ (e : Entry). map.get e.hops face) (entry-left now routes name)

pub cost_nowhere : (name : List Field) (face : ℕ) → cost_in map.empty name face ≡ None
cost_nowhere name face = ap (λ (o : Option Entry). map.get (unwrap_or o no_entry).hops face) (get-empty name_cmp name) ∙ get-empty nat_cmp face

-- ---- one registered route after each change

abbrev pub route_in : Routes → List Field → RouteKey → Option Route
route_in routes name key = map.get (registered_at routes name) key

same_key : (k key : RouteKey) → eq_by_cmp route_cmp k key ≡ ((k.face == key.face) && (k.origin == key.origin))
same_key k key = then_ties (nat_cmp k.face key.face) (nat_cmp k.origin key.origin) ∙ (λ i. same_face k.face key.face i && same_face k.origin key.origin i)
  where
    then_ties : (a b : Ordering) → is_eq (ordering_then a b) ≡ (is_eq a && is_eq b)
    then_ties Less b = refl
    then_ties Equal b = refl
    then_ties Greater b = refl

module _ (routes : Routes) (n name : List Field) (key : RouteKey) where
  pub route_registered : (k : RouteKey) (route : Route)
      → route_in (with_route routes n k route) name key ≡ cond (eq_by_cmp name_cmp name n && ((key.face == k.face) && (key.origin == k.origin))) (Some route) (route_in routes name key)
  route_registered k route =
      changed_with (λ e. map.get e.registered key) routes n (entry_with_route k route (entry_at routes n)) name ((key.face == k.face) && (key.origin == k.origin)) (Some route)
      (get-insert route_cmp-total (registered_at routes n) k route key ∙ ap (λ (b : Bool). cond b (Some route) (route_in routes n key)) (same_key key k))

  pub route_unregistered : (k : RouteKey)
      → route_in (without_route routes n k) name key ≡ cond (eq_by_cmp name_cmp name n && ((key.face == k.face) && (key.origin == k.origin))) None (route_in routes name key)
  route_unregistered k =
      changed_valued (λ e. map.get e.registered key) routes n (record (entry_at routes n) { registered = map.remove (registered_at routes n) k }) name ((key.face == k.face) && (key.origin == k.origin)) None
      (get-remove route_cmp-total (registered_at routes n) k key ∙ ap (λ (b : Bool). cond b None (route_in routes n key)) (same_key key k))

  pub route_added : (f cost : ℕ) → route_in (with_next_hop routes n f cost) name key ≡ route_in routes name key
  route_added f cost = unread_with (λ e. map.get e.registered key) routes n (entry_with_hop f cost (entry_at routes n)) name refl

  pub route_removed : (f : ℕ) → route_in (without_next_hop routes n f) name key ≡ route_in routes name key
  route_removed f =
      unread_valued (λ e. map.get e.registered key) routes n (record (entry_at routes n) { hops = map.remove (costs_at routes n) f }) name refl

pub route_closed : (routes : Routes) (name : List Field) (f : ℕ) (key : RouteKey) → route_in (without_face routes f) name key ≡ cond (key.face == f) None (route_in routes name key)
route_closed routes name f key =
    ap (λ (e : Entry). map.get e.registered key) (entry-without_face routes f name)
    ∙ get-retain_keys (registered_at routes name) (λ k. not (k.face == f)) key (λ k tie. ap (λ (k : RouteKey). not (k.face == f)) (sym (route_cmp-antisymmetric key k tie)))
    ∙ turned (key.face == f) (route_in routes name key)
  where
    turned : (b : Bool) (o : Option Route) → cond (not b) o None ≡ cond b None o
    turned true o = refl
    turned false o = refl

pub route_left : (now : ℕ) (routes : Routes) (name : List Field) (key : RouteKey) → route_in (left_at now routes) name key ≡ option_and_then (until_due now) (route_in routes name key)
route_left now routes name key =
    ap (λ (e : Entry). map.get e.registered key) (entry-left now routes name)
    ∙ get-revise route_cmp-antisymmetric (until_due now) (registered_at routes name) key

pub route_nowhere : (name : List Field) (key : RouteKey) → route_in map.empty name key ≡ None
route_nowhere name key = ap (λ (o : Option Entry). map.get (unwrap_or o no_entry).registered key) (get-empty name_cmp name) ∙ get-empty route_cmp key
