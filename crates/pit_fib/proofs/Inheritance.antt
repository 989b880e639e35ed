-- The effective next hops of a name are collected on a walk along the name.
use Rattle.std.proofs.Common.{◌≡◌, inl, inr, ℕ, zero, suc, ◌+◌, ◌≤◌, Bool, true, false, not, cond, List, [], ◌∷◌, ◌++◌, append_assoc, length, take, nat_cmp, refl, sym, ap, subst, ◌∙◌, arith, eqb}
use lib.Dec.{T}
use Rattle.std.proofs.lemmas.Bool.{eqb-true}
use Rattle.std.proofs.lemmas.Bool.Decides.{nat_tests}
use Rattle.std.proofs.lemmas.List.{append-nil, length-append, length-take-le}
use Rattle.std.specs.Prelude.{Option, None, Some, IsSome, is_some, fold, unwrap_or, ◌&&◌, ◌||◌}
use Rattle.std.specs.Option.{option_and_then, option_or}
use Rattle.std.specs.List.{AllByRecursion, list_any}
use Rattle.std.specs.declared.cmp.Ordering.{Ordering}
use Rattle.std.specs.Ordering.{eq_by_cmp, is_eq}
use Rattle.std.specs.Cmp.{IsTotalOrder, nat_cmp_total, tied_itself}
use Rattle.std.specs.FinMap.{empty, empty_of_len, entries, entries_sorted, find, get, get-empty, get-entries, get-from_entries, get-insert, insert, is_sorted, len, len-empty, len-entries, nat_cmp-IsAntisymmetric, same_map}
use Rattle.std.specs.FinMap.Entries.{below_all}
use Rattle.ndn_tlv.specs.Element.{Field}
use Rattle.ndn_names.proofs.Rows.{first_of, second_of, no_entries}
use Rattle.ndn_names.specs.Key.{name_cmp-antisymmetric}
use Rattle.name_trie.specs.ByName.{revise, revised, with_entry}
use Rattle.name_trie.specs.Taken.{taken, taken_along}
use Rattle.name_trie.proofs.Least.{entries-revise}
use Rattle.name_trie.proofs.Revised.{equal, find_below, get-revise}
use Rattle.pit_fib.specs.declared.inheriting.Inheriting.{Inheriting}
use Rattle.pit_fib.specs.declared.route.Route.{Route}
use Rattle.pit_fib.specs.declared.route.RouteKey.{RouteKey}
use Rattle.pit_fib.specs.Effective.{effective, effective_of, handed_down, has_capture, least_costs, lesser, longest_costs, passed_on, prefer, with_lesser}
use Rattle.pit_fib.specs.FaceSet.{AtMost64}
use Rattle.pit_fib.specs.Fib.{Entry, LeadsTo, Routes, entry_at, entry_left_at, is_vacant, left_at, no_entry}
use Rattle.pit_fib.specs.Inheriting.{counts_at, counts_for, has_capture_at, has_route_at, laid_over, least_within, past_entry}
use Rattle.pit_fib.specs.Route.{Registered, is_capture, is_child_inherit, is_due, route_cmp, route_cmp-total, until_due}
use Rattle.pit_fib.specs.Tables.{ByFace}
use Rattle.pit_fib.specs.Within.{set_within}
use Rattle.pit_fib.proofs.FibTables.{EntryLeads}
use Rattle.pit_fib.proofs.PendingFaces.{at_most, room_in}
use Rattle.pit_fib.proofs.Within.{set_in_room}

-- ---- costs that take precedence over other costs

find_over : {K X : Type 0} (R : K → K → Ordering) (xs ys : List (K × X)) (q : K) → find R q (xs ++ ys) ≡ option_or (find R q xs) (find R q ys)
find_over R [] ys q = refl
find_over R (e ∷ xs) ys q =
    elim (eq_by_cmp R q e.0) as (λ b. cond b (Some e.1) (find R q (xs ++ ys)) ≡ option_or (cond b (Some e.1) (find R q xs)) (find R q ys)) [ true ↦ refl | false ↦ find_over R xs ys q ]

pub get-prefer : (a b : ByFace) (f : ℕ) → get (prefer a b) f ≡ option_or (get a f) (get b f)
get-prefer a b f =
    get-from_entries nat_cmp_total (entries a ++ entries b) f ∙ find_over nat_cmp (entries a) (entries b) f
    ∙ (λ i. option_or (sym (get-entries a f) i) (sym (get-entries b f) i))

none_first : (b : ByFace) → prefer empty b ≡ b
none_first b = same_map nat_cmp_total nat_cmp-IsAntisymmetric _ _ (λ f. get-prefer empty b f ∙ ap (λ o. option_or o (get b f)) (get-empty nat_cmp f))

or_none : {X : Type 0} (o : Option X) → option_or o None ≡ o
or_none None = refl
or_none (Some x) = refl

none_last : (a : ByFace) → prefer a empty ≡ a
none_last a = same_map nat_cmp_total nat_cmp-IsAntisymmetric _ _ (λ f. get-prefer a empty f ∙ ap (option_or (get a f)) (get-empty nat_cmp f) ∙ or_none (get a f))

-- if each key that a lookup in the list finds has the property `P`, the key of each entry in the
-- list has this property
keys_all : {K X : Type 0} {R : K → K → Ordering} → IsTotalOrder R → (P : K → Type 0) (es : List (K × X)) → ((k : K) → IsSome (find R k es) → P k) → AllByRecursion (λ (e : K × X). P e.0) es
keys_all total P [] there = tt
keys_all {R = R} total P (e ∷ es) there = (
  there e.0 (ap (λ b. is_some (cond b (Some e.1) (find R e.0 es))) (ap is_eq (tied_itself total e.0))),
  keys_all {R = R} total P es (λ k some. there k (kept (eq_by_cmp R k e.0) k some)),
)
  where
    kept : (b : Bool) (k : _) → IsSome (find R k es) → IsSome (cond b (Some e.1) (find R k es))
    kept true k some = refl
    kept false k some = some

module _ (P : ℕ → Type 0) (few : AtMost64 P) where
  -- each face in the map has the property `P`
  abbrev Among : ByFace → Type 0
  Among m = (f : ℕ) → IsSome (get m f) → P f

  among_none : Among empty
  among_none f some = absurd (let none = get-empty {X = ℕ} nat_cmp f in let is = subst (λ o. IsSome o) none some in cc)

  set_fits : (m : ByFace) (k x : ℕ) → Among m → P k → set_within m k x ≡ insert m k x
  set_fits m k x among here =
      set_in_room m k x (room_in m k (at_most (λ f has. elim has as (λ _. P f) [ (inl some) ↦ among f some | (inr is) ↦ subst P (sym is) here ]) few))

  among_with : (m : ByFace) (k x : ℕ) → Among m → P k → Among (insert m k x)
  among_with m k x among here f some =
      elim (eq_by_cmp nat_cmp f k) as (λ b. eq_by_cmp nat_cmp f k ≡ b → IsSome (cond b (Some x) (get m f)) → P f) [
        | true ↦ λ e s. subst P (sym (nat_cmp-IsAntisymmetric f k (equal _ e))) here
        | false ↦ λ e s. among f s
      ] refl (subst (λ o. IsSome o) (get-insert nat_cmp_total m k x f) some)

  among_set : (m : ByFace) (k x : ℕ) → Among m → P k → Among (set_within m k x)
  among_set m k x among here = subst Among (sym (set_fits m k x among here)) (among_with m k x among here)

  -- ---- a list of costs written over the costs of a map

  abbrev laid : ByFace → List (ℕ × ℕ) → ByFace
  laid acc es = fold {A = ℕ × ℕ} {B = ByFace} (λ costs e. set_within costs e.0 e.1) acc es

  get-laid : (es : List (ℕ × ℕ)) → T (is_sorted nat_cmp es) → AllByRecursion (λ (e : ℕ × ℕ). P e.0) es → (acc : ByFace) → Among acc → (f : ℕ) → get (laid acc es) f ≡ option_or (find nat_cmp f es) (get acc f)
  get-laid [] sorted all acc among f = refl
  get-laid (e ∷ es) sorted all acc among f =
      get-laid es (second_of _ _ sorted) all.1 (set_within acc e.0 e.1) (among_set acc e.0 e.1 among all.0) f
      ∙ ap (option_or (find nat_cmp f es)) (ap (λ m. get m f) (set_fits acc e.0 e.1 among all.0) ∙ get-insert nat_cmp_total acc e.0 e.1 f)
      ∙ elim (eq_by_cmp nat_cmp f e.0) as (λ b. eq_by_cmp nat_cmp f e.0 ≡ b → option_or (find nat_cmp f es) (cond b (Some e.1) (get acc f)) ≡ option_or (cond b (Some e.1) (find nat_cmp f es)) (get acc f)) [
        | true ↦ λ tie.
            let same : f ≡ e.0 = nat_cmp-IsAntisymmetric f e.0 (equal _ tie) in
            let none : find nat_cmp f es ≡ None = find_below nat_cmp f es (subst (λ k. T (below_all nat_cmp k es)) (sym same) (first_of _ _ sorted)) in
            ap (λ o. option_or o (Some e.1)) none
        | false ↦ λ tie. refl
      ] refl

  among_laid : (es : List (ℕ × ℕ)) → AllByRecursion (λ (e : ℕ × ℕ). P e.0) es → (acc : ByFace) → Among acc → Among (laid acc es)
  among_laid [] all acc among = among
  among_laid (e ∷ es) all acc among = among_laid es all.1 (set_within acc e.0 e.1) (among_set acc e.0 e.1 among all.0)

  keys_of : (m : ByFace) → Among m → AllByRecursion (λ (e : ℕ × ℕ). P e.0) (entries m)
  keys_of m among = keys_all nat_cmp_total P (entries m) (λ k some. among k (subst (λ o. IsSome o) (sym (get-entries m k)) some))

  laid_is : (first second : ByFace) → Among first → Among second → laid_over first second ≡ prefer first second
  laid_is first second a b =
      same_map nat_cmp_total nat_cmp-IsAntisymmetric _ _ (λ f.
      get-laid (entries first) (entries_sorted first) (keys_of first a) second b f
      ∙ ap (λ o. option_or o (get second f)) (sym (get-entries first f)) ∙ sym (get-prefer first second f))

  laid_among : (first second : ByFace) → Among first → Among second → Among (laid_over first second)
  laid_among first second a b = among_laid (entries first) (keys_of first a) second b

  -- ---- the least costs of the routes

  module _ (at : Option ℕ) where
    abbrev live_rows : List (RouteKey × Route) → List (RouteKey × Route)
    live_rows rows = elim at [ None ↦ rows | (Some now) ↦ revised (until_due now) rows ]

    live_cons : (e : RouteKey × Route) (rows : List (RouteKey × Route)) → live_rows (e ∷ rows) ≡ cond (counts_at at e.1) (e ∷ live_rows rows) (live_rows rows)
    live_cons e rows =
        elim at as (λ at. elim at [ None ↦ e ∷ rows | (Some now) ↦ revised (until_due now) (e ∷ rows) ]
        ≡ cond (counts_at at e.1) (e ∷ elim at [ None ↦ rows | (Some now) ↦ revised (until_due now) rows ]) (elim at [ None ↦ rows | (Some now) ↦ revised (until_due now) rows ])) [
          | None ↦ refl
          | (Some now) ↦ elim (is_due now e.1) as (λ b. with_entry e.0 (cond b None (Some e.1)) (revised (until_due now) rows) ≡ cond (not b) (e ∷ revised (until_due now) rows) (revised (until_due now) rows)) [ true ↦ refl | false ↦ refl ]
        ]

    live_nil : live_rows [] ≡ []
    live_nil = elim at as (λ at. ◌≡◌ {A = List (RouteKey × Route)} (elim at [ None ↦ [] | (Some now) ↦ revised (until_due now) [] ]) []) [ None ↦ refl | (Some now) ↦ refl ]

    abbrev wanted : Bool → Route → Bool
    wanted below r = not below || is_child_inherit r

    abbrev capped : Bool → ByFace → List (RouteKey × Route) → ByFace
    capped below acc rows =
        fold {A = RouteKey × Route} {B = ByFace} (λ costs e. cond (counts_for at below e.1) (set_within costs e.0.face (lesser e.1.cost (get costs e.0.face))) costs) acc rows

    abbrev plain : Bool → ByFace → List (RouteKey × Route) → ByFace
    plain below acc rows = fold {A = RouteKey × Route} {B = ByFace} (λ costs e. cond (wanted below e.1) (with_lesser costs e.0.face e.1.cost) costs) acc rows

    capped_is : (below : Bool) (rows : List (RouteKey × Route)) → AllByRecursion (λ (e : RouteKey × Route). P e.0.face) rows → (acc : ByFace) → Among acc
        → (capped below acc rows ≡ plain below acc (live_rows rows)) × Among (capped below acc rows)
    capped_is below [] all acc among = (sym (ap (plain below acc) live_nil), among)
    capped_is below (e ∷ rows) all acc among =
        let f = e.0.face in
        let cost = lesser e.1.cost (get acc f) in
        let set = set_fits acc f cost among all.0 in
        let more = capped_is below rows all.1 (set_within acc f cost) (among_set acc f cost among all.0) in
        let same = capped_is below rows all.1 acc among in
        subst (λ l. (capped below acc (e ∷ rows) ≡ plain below acc l) × Among (capped below acc (e ∷ rows))) (sym (live_cons e rows))
        (elim (counts_at at e.1) as (λ b. (capped below (cond (b && wanted below e.1) (set_within acc f cost) acc) rows ≡ plain below acc (cond b (e ∷ live_rows rows) (live_rows rows)))
        × Among (capped below (cond (b && wanted below e.1) (set_within acc f cost) acc) rows)) [
          | true ↦
              elim (wanted below e.1) as (λ w. (capped below (cond w (set_within acc f cost) acc) rows ≡ plain below (cond w (insert acc f cost) acc) (live_rows rows)) × Among (capped below (cond w (set_within acc f cost) acc) rows)) [
                | true ↦ (more.0 ∙ ap (λ m. plain below m (live_rows rows)) set, more.1)
                | false ↦ same
              ]
          | false ↦ same
        ])

    -- ---- whether some route passes a test and does not expire by a moment

    any_live : (test : Route → Bool) (rows : List (RouteKey × Route)) → list_any (λ e. counts_at at e.1 && test e.1) rows ≡ list_any (λ e. test e.1) (live_rows rows)
    any_live test [] = sym (ap (list_any (λ e. test e.1)) live_nil)
    any_live test (e ∷ rows) =
        let rest = any_live test rows in
        elim (counts_at at e.1) as (λ b. ((b && test e.1) || list_any (λ e. counts_at at e.1 && test e.1) rows) ≡ list_any (λ e. test e.1) (cond b (e ∷ live_rows rows) (live_rows rows))) [
          | true ↦ ap (λ b. test e.1 || b) rest
          | false ↦ rest
        ]
        ∙ sym (ap (list_any (λ e. test e.1)) (live_cons e rows))

    some_live : (rows : List (RouteKey × Route)) → list_any (λ e. counts_at at e.1) rows ≡ not (eqb (length (live_rows rows)) 0)
    some_live [] = sym (ap (λ (l : List (RouteKey × Route)). not (eqb (length l) 0)) live_nil)
    some_live (e ∷ rows) =
        let rest = some_live rows in
        elim (counts_at at e.1) as (λ b. (b || list_any (λ e. counts_at at e.1) rows) ≡ not (eqb (length (cond b (e ∷ live_rows rows) (live_rows rows))) 0)) [
          | true ↦ sym (ap not (not_none (length (live_rows rows))))
          | false ↦ rest
        ]
        ∙ sym (ap (λ (l : List (RouteKey × Route)). not (eqb (length l) 0)) (live_cons e rows))
      where
        not_none : (n : ℕ) → eqb (suc n) 0 ≡ false
        not_none n = grind (arith, nat_tests)

-- ---- the state of the walk after one more entry

-- all routes of an entry if there is no moment, otherwise those that do not expire by the moment
abbrev live_map : Option ℕ → Registered → Registered
live_map None m = m
live_map (Some now) m = revise (until_due now) m

abbrev live : Option ℕ → Entry → Entry
live at e = record e { registered = live_map at e.registered }

entries_live : (at : Option ℕ) (m : Registered) → entries (live_map at m) ≡ elim at [ None ↦ entries m | (Some now) ↦ revised (until_due now) (entries m) ]
entries_live None m = refl
entries_live (Some now) m = entries-revise route_cmp (until_due now) m

live_none : (at : Option ℕ) (m : Registered) → len m ≡ 0 → live_map at m ≡ empty
live_none None m none = empty_of_len m none
live_none (Some now) m none =
    empty_of_len (revise (until_due now) m)
    (len-entries (revise (until_due now) m) ∙ ap length (entries-revise route_cmp (until_due now) m)
    ∙ ap (λ l. length (revised (until_due now) l)) (ap entries (empty_of_len m none) ∙ no_entries route_cmp))

faces_of_entry : (P : ℕ → Type 0) (e : Entry) → ((f : ℕ) → EntryLeads e f → P f) → AllByRecursion (λ (row : RouteKey × Route). P row.0.face) (entries e.registered)
faces_of_entry P e leads =
    keys_all route_cmp-total (λ (k : RouteKey). P k.face) (entries e.registered) (λ k some.
    leads k.face (inr (k.origin, subst (λ o. IsSome o) (sym (get-entries e.registered k)) some)))

module _ (P : ℕ → Type 0) (few : AtMost64 P) (s : Inheriting) (among : (f : ℕ) → IsSome (get s.inherited f) → P f) (e : Entry) (leads : (f : ℕ) → EntryLeads e f → P f) where
  rows : List (RouteKey × Route)
  rows = entries e.registered

  least_of : (below : Bool) → (least_within s.at below (entries e.registered) ≡ plain P few s.at below empty (entries (live_map s.at e.registered))) × Among P few (least_within s.at below (entries e.registered))
  least_of below =
      let is = capped_is P few s.at below (entries e.registered) (faces_of_entry P e leads) empty (among_none P few) in
      (is.0 ∙ ap (plain P few s.at below empty) (sym (entries_live s.at e.registered)), is.1)

  captured : has_capture_at s.at (entries e.registered) ≡ has_capture (live_map s.at e.registered)
  captured = any_live P few s.at is_capture (entries e.registered) ∙ ap (list_any (λ r. is_capture r.1)) (sym (entries_live s.at e.registered))

  counted : has_route_at s.at (entries e.registered) ≡ not (eqb (len (live_map s.at e.registered)) 0)
  counted =
      some_live P few s.at (entries e.registered)
      ∙ ap (λ (l : List (RouteKey × Route)). not (eqb (length l) 0)) (sym (entries_live s.at e.registered))
      ∙ ap (λ n. not (eqb n 0)) (sym (len-entries (live_map s.at e.registered)))

  either_or : (b : Bool) (m : ByFace) → cond (not b) m empty ≡ cond b empty m
  either_or true m = refl
  either_or false m = refl

  among_if : (b : Bool) → Among P few (cond b s.inherited empty)
  among_if true = among
  among_if false = among_none P few

  hops_among : Among P few e.hops
  hops_among f some = leads f (inl some)

  -- the costs that the walk passes on from an entry are the costs that the names below the entry
  -- inherit if only the routes in `live s.at e` count
  inherited_is : laid_over (least_within s.at true (entries e.registered)) (cond (not (has_capture_at s.at (entries e.registered))) s.inherited empty) ≡ passed_on (Some (live s.at e)) s.inherited
  inherited_is =
      laid_is P few _ _ (least_of true).1 (among_if (not (has_capture_at s.at (entries e.registered))))
      ∙ (λ i. prefer ((least_of true).0 i) (cond (not (captured i)) s.inherited empty))
      ∙ ap (prefer (least_costs is_child_inherit (entries (live_map s.at e.registered)))) (either_or (has_capture (live_map s.at e.registered)) s.inherited)

  abbrev own : ByFace
  own = laid_over (least_within s.at false (entries e.registered)) (cond (has_route_at s.at (entries e.registered) && not (has_capture_at s.at (entries e.registered))) s.inherited empty)

  own_among : Among P few own
  own_among = laid_among P few _ _ (least_of false).1 (among_if (has_route_at s.at (entries e.registered) && not (has_capture_at s.at (entries e.registered))))

  -- the costs that the walk collects at an entry are the costs of the effective next hops of the
  -- entry's name if only the routes in `live s.at e` count
  costs_are : laid_over e.hops own ≡ effective_of (live s.at e) s.inherited
  costs_are =
      laid_is P few e.hops own hops_among own_among
      ∙ ap (prefer e.hops) (laid_is P few _ _ (least_of false).1 (among_if (has_route_at s.at (entries e.registered) && not (has_capture_at s.at (entries e.registered))))
      ∙ (λ i. prefer ((least_of false).0 i) (cond (counted i && not (captured i)) s.inherited empty)))

  no_routes : len e.registered ≡ 0 → (passed_on (Some (live s.at e)) s.inherited ≡ s.inherited) × (effective_of (live s.at e) s.inherited ≡ e.hops)
  no_routes none =
      let gone = live_none s.at e.registered none in
      let blank : Entry = record e { registered = empty } in
      let rows_gone = no_entries {X = Route} route_cmp in (
        ap (λ (m : Registered). passed_on (Some (record e { registered = m })) s.inherited) gone
            ∙ ap (λ (l : List (RouteKey × Route)). prefer (least_costs is_child_inherit l) (cond (list_any (λ r. is_capture r.1) l) empty s.inherited)) rows_gone
            ∙ none_first s.inherited,
        ap (λ (m : Registered). effective_of (record e { registered = m }) s.inherited) gone
            ∙ (λ i. prefer e.hops (prefer (least_costs (λ _. true) (rows_gone i)) (cond (not (eqb (len-empty route_cmp Route i) 0) && not (list_any (λ r. is_capture r.1) (rows_gone i))) s.inherited empty)))
            ∙ ap (prefer e.hops) (none_first empty) ∙ none_last e.hops,
      )

  pub past_is : past_entry s e ≡ record { at = s.at; inherited = passed_on (Some (live s.at e)) s.inherited; costs = effective_of (live s.at e) s.inherited }
  past_is =
      elim (eqb (len e.registered) 0) as (λ b. eqb (len e.registered) 0 ≡ b
      → cond b (record s { costs = e.hops }) (record s { inherited = laid_over (least_within s.at true (entries e.registered)) (cond (not (has_capture_at s.at (entries e.registered))) s.inherited empty); costs = laid_over e.hops own })
      ≡ record { at = s.at; inherited = passed_on (Some (live s.at e)) s.inherited; costs = effective_of (live s.at e) s.inherited }) [
        | true ↦ λ t. (let none = no_routes (eqb-true _ _ t) in λ i. record { at = s.at; inherited = sym none.0 i; costs = sym none.1 i })
        | false ↦ λ t. λ i. record { at = s.at; inherited = inherited_is i; costs = costs_are i }
      ] refl

  pub past_among : Among P few (past_entry s e).inherited
  past_among =
      elim (eqb (len e.registered) 0) as (λ b. Among P few (cond b (record s { costs = e.hops }) (record s { inherited = laid_over (least_within s.at true (entries e.registered)) (cond (not (has_capture_at s.at (entries e.registered))) s.inherited empty); costs = laid_over e.hops own })).inherited) [
        | true ↦ among
        | false ↦ laid_among P few _ _ (least_of true).1 (among_if (not (has_capture_at s.at (entries e.registered))))
      ]

-- ---- the walk along a name

take_whole : (q : List Field) → take (length q) q ≡ q
take_whole [] = refl
take_whole (c ∷ q) = ap (λ l. c ∷ l) (take_whole q)

take_less : (m n : ℕ) (q : List Field) → m ≤ n → take m (take n q) ≡ take m q
take_less zero n q le = refl
take_less (suc m) zero q le = absurd (omega arith)
take_less (suc m) (suc n) [] le = refl
take_less (suc m) (suc n) (c ∷ q) le = ap (λ l. c ∷ l) (take_less m n q (omega (arith, le)))

-- Let m ≤ n. Then a name, and the prefix that consists of the first n components of the name,
-- inherit the same costs from the prefixes with fewer than m components.
handed_prefix : (t : Routes) (name : List Field) (n m : ℕ) → m ≤ n → handed_down t (take n name) m ≡ handed_down t name m
handed_prefix t name n zero le = refl
handed_prefix t name n (suc m) le = λ i. passed_on (get t (take_less m n name (omega (arith, le)) i)) (handed_prefix t name n m (omega (arith, le)) i)

-- the whole table if there is no moment, otherwise the table without the routes that expire by the
-- moment
abbrev live_table : Option ℕ → Routes → Routes
live_table None t = t
live_table (Some now) t = left_at now t

abbrev table_entry : Option ℕ → Option Entry → Option Entry
table_entry None o = o
table_entry (Some now) o = option_and_then (entry_left_at now) o

get_live : (at : Option ℕ) (t : Routes) (q : List Field) → get (live_table at t) q ≡ table_entry at (get t q)
get_live None t q = refl
get_live (Some now) t q = get-revise name_cmp-antisymmetric (entry_left_at now) t q

second_true : (a b : Bool) → (a && b) ≡ true → b ≡ true
second_true true b e = e
second_true false b e = absurd cc

passed_live : (at : Option ℕ) (e : Entry) (above : ByFace) → passed_on (table_entry at (Some e)) above ≡ passed_on (Some (live at e)) above
passed_live None e above = refl
passed_live (Some now) e above =
    elim (is_vacant (live (Some now) e)) as (λ b. is_vacant (live (Some now) e) ≡ b → passed_on (cond b None (Some (live (Some now) e))) above ≡ passed_on (Some (live (Some now) e)) above) [
      | true ↦ λ v.
          let none : len (live (Some now) e).registered ≡ 0 = eqb-true _ 0 (second_true (eqb (len e.hops) 0) (eqb (len (live (Some now) e).registered) 0) v) in
          let rows_gone : entries (live (Some now) e).registered ≡ [] = ap entries (empty_of_len (live (Some now) e).registered none) ∙ no_entries route_cmp in
          sym (ap (λ (l : List (RouteKey × Route)). prefer (least_costs is_child_inherit l) (cond (list_any (λ r. is_capture r.1) l) empty above)) rows_gone ∙ none_first above)
      | false ↦ λ v. refl
    ] refl

module _ (t : Routes) (few : AtMost64 (LeadsTo t)) (at : Option ℕ) (name : List Field) where
  abbrev start : Inheriting
  start = record { at = at; inherited = empty; costs = empty }

  -- the state of the walk after the walk has passed the prefixes with fewer than n components
  known : ℕ → Inheriting
  known zero = start
  known (suc n) = taken past_entry (known n) (get t (take n name))

  along : (rest front : List Field) → front ++ rest ≡ name → taken_along past_entry past_entry (known (length front)) (get t) front rest ≡ known (suc (length name))
  unfolding known
  along [] front is =
      let whole : front ≡ name = sym (append-nil front) ∙ is in
      ap (λ q. taken past_entry (known (length q)) (get t q)) whole ∙ ap (λ q. taken past_entry (known (length name)) (get t q)) (sym (take_whole name))
  along (c ∷ rest) front is =
      let step : taken past_entry (known (length front)) (get t front) ≡ known (length (front ++ c ∷ [])) =
      ap (λ q. taken past_entry (known (length front)) (get t q)) (sym (ap (take (length front)) (sym is) ∙ front_taken front (c ∷ rest)))
      ∙ ap known (let n = length-append front (c ∷ []) in longer n) in
      ap (λ s. taken_along past_entry past_entry s (get t) (front ++ c ∷ []) rest) step
      ∙ along rest (front ++ c ∷ []) (append_assoc front (c ∷ []) rest ∙ is)
    where
      front_taken : (front rest : List Field) → take (length front) (front ++ rest) ≡ front
      front_taken [] rest = refl
      front_taken (d ∷ front) rest = ap (λ l. d ∷ l) (front_taken front rest)

      longer : length (front ++ c ∷ []) ≡ length front + 1 → suc (length front) ≡ length (front ++ c ∷ [])
      longer n = omega (arith, n)

  entry_faces : (q : List Field) (e : Entry) → get t q ≡ Some e → (f : ℕ) → EntryLeads e f → LeadsTo t f
  entry_faces q e is f l = (q, subst (λ x. EntryLeads x f) (sym (ap (λ o. unwrap_or o no_entry) is)) l)

  -- after the walk has passed the prefixes with fewer than n components, the field `inherited` of
  -- the walk's state has the costs that the name inherits from these prefixes in the table
  -- `live_table at t`
  inherited_at : (n : ℕ) → ((known n).inherited ≡ handed_down (live_table at t) name n) × Among (LeadsTo t) few (known n).inherited × ((known n).at ≡ at)
  unfolding known
  inherited_at zero = (refl, among_none (LeadsTo t) few, refl)
  inherited_at (suc n) =
      let before = inherited_at n in
      elim (get t (take n name)) as (λ o. get t (take n name) ≡ o → ((taken past_entry (known n) o).inherited ≡ handed_down (live_table at t) name (suc n)) × Among (LeadsTo t) few (taken past_entry (known n) o).inherited × ((taken past_entry (known n) o).at ≡ at)) [
        | None ↦ λ is. (
          before.0 ∙ sym (ap (λ o. passed_on o (handed_down (live_table at t) name n)) (get_live at t (take n name) ∙ ap (table_entry at) is ∙ none_left at)),
          before.1,
          before.2,
        )
        | (Some e) ↦ λ is. (
            let past = past_is (LeadsTo t) few (known n) before.1 e (entry_faces (take n name) e is) in (
              ap (λ s. s.inherited) past
                  ∙ (λ i. passed_on (Some (live (before.2 i) e)) (before.0 i))
                  ∙ sym (passed_live at e (handed_down (live_table at t) name n))
                  ∙ sym (ap (λ o. passed_on o (handed_down (live_table at t) name n)) (get_live at t (take n name) ∙ ap (table_entry at) is)),
              past_among (LeadsTo t) few (known n) before.1 e (entry_faces (take n name) e is),
              ap (λ s. s.at) past ∙ before.2,
            )
            )
      ] refl
    where
      none_left : (at : Option ℕ) → table_entry at None ≡ None
      none_left None = refl
      none_left (Some now) = refl

  -- if the prefix of n components has an entry, then, after the walk has passed this prefix, the
  -- field `costs` of the walk's state has the costs of the prefix's effective next hops in the
  -- table `live_table at t`
  costs_here : (n : ℕ) (e : Entry) → get t (take n name) ≡ Some e → (known (suc n)).costs ≡ effective_of (live at e) (handed_down (live_table at t) name n)
  unfolding known
  costs_here n e is =
      let before = inherited_at n in
      ap (λ o. (taken past_entry (known n) o).costs) is
      ∙ ap (λ s. s.costs) (past_is (LeadsTo t) few (known n) before.1 e (entry_faces (take n name) e is))
      ∙ (λ i. effective_of (live (before.2 i) e) (before.0 i))

  known_more : (n : ℕ) → get t (take n name) ≡ None → (known (suc n)).costs ≡ (known n).costs
  unfolding known
  known_more n none = ap (λ o. (taken past_entry (known n) o).costs) none

  at_start : start ≡ known zero
  unfolding known
  at_start = refl

  no_costs : (known zero).costs ≡ empty
  unfolding known
  no_costs = refl

module _ (t : Routes) (few : AtMost64 (LeadsTo t)) (name : List Field) where
  here : (n : ℕ) → n ≤ length name → (e : Entry) → get t (take n name) ≡ Some e → (known t few None name (suc n)).costs ≡ effective t (take n name)
  here n le e is =
      costs_here t few None name n e is
      ∙ (λ i. effective_of (sym (ap (λ o. unwrap_or o no_entry) is) i) (sym (ap (handed_down t (take n name)) (length-take-le n name le) ∙ handed_prefix t name n n (omega arith)) i))

  costs_are_longest : (n : ℕ) → n ≤ length name → (known t few None name (suc n)).costs ≡ longest_costs t name n
  costs_are_longest zero le =
      elim (get t (take 0 name)) as (λ o. get t (take 0 name) ≡ o → (known t few None name 1).costs ≡ cond (is_some o) (effective t (take 0 name)) empty) [
        | None ↦ λ is. known_more t few None name 0 is ∙ no_costs t few None name
        | (Some e) ↦ λ is. here 0 le e is
      ] refl
  costs_are_longest (suc n) le =
      elim (get t (take (suc n) name)) as (λ o. get t (take (suc n) name) ≡ o → (known t few None name (suc (suc n))).costs ≡ cond (is_some o) (effective t (take (suc n) name)) (longest_costs t name n)) [
        | None ↦ λ is. known_more t few None name (suc n) is ∙ costs_are_longest n (omega (arith, le))
        | (Some e) ↦ λ is. here (suc n) le e is
      ] refl

  pub way_is : (taken_along past_entry past_entry (record { at = None; inherited = empty; costs = empty }) (get t) [] name).costs ≡ longest_costs t name (length name)
  way_is = ap (λ s. s.costs) (ap (λ s. taken_along past_entry past_entry s (get t) [] name) (at_start t few None name) ∙ along t few None name name [] refl) ∙ costs_are_longest (length name) (omega arith)

module _ (t : Routes) (few : AtMost64 (LeadsTo t)) (now : ℕ) (name : List Field) where
  pub left_way_is : IsSome (get (left_at now t) name) → (taken_along past_entry past_entry (record { at = Some now; inherited = empty; costs = empty }) (get t) [] name).costs ≡ effective (left_at now t) name
  left_way_is some =
      ap (λ s. s.costs) (ap (λ s. taken_along past_entry past_entry s (get t) [] name) (at_start t few (Some now) name) ∙ along t few (Some now) name name [] refl)
      ∙ elim (get t name) as (λ o. get t name ≡ o → (known t few (Some now) name (suc (length name))).costs ≡ effective (left_at now t) name) [
        | None ↦ λ is. absurd (let none = get-revise name_cmp-antisymmetric (entry_left_at now) t name ∙ ap (option_and_then (entry_left_at now)) is in let lost = subst (λ o. IsSome o) none some in cc)
        | (Some e) ↦ λ is.
            let there : get t (take (length name) name) ≡ Some e = ap (get t) (take_whole name) ∙ is in
            let left : get (left_at now t) name ≡ entry_left_at now e = get-revise name_cmp-antisymmetric (entry_left_at now) t name ∙ ap (option_and_then (entry_left_at now)) is in
            let own : entry_at (left_at now t) name ≡ live (Some now) e = ap (λ o. unwrap_or o no_entry) left ∙ whole e (subst (λ o. IsSome o) left some) in
            costs_here t few (Some now) name (length name) e there
            ∙ ap (λ x. effective_of x (handed_down (left_at now t) name (length name))) (sym own)
      ] refl
    where
      whole : (e : Entry) → IsSome (entry_left_at now e) → unwrap_or (entry_left_at now e) no_entry ≡ live (Some now) e
      whole e some = elim (is_vacant (live (Some now) e)) as (λ b. IsSome (cond b None (Some (live (Some now) e))) → unwrap_or (cond b None (Some (live (Some now) e))) no_entry ≡ live (Some now) e) [ true ↦ λ s. absurd cc | false ↦ λ s. refl ] some
