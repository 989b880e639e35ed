-- Why a face has a cost among the effective next hops of a name.
use Rattle.std.proofs.Common.{◌≡◌, ◌⊎◌, inl, inr, ℕ, zero, suc, ◌<◌, ◌≤◌, Bool, true, false, cond, List, [], ◌∷◌, length, take, nat_cmp, refl, sym, ap, subst, ◌∙◌, arith}
use lib.Dec.{T}
use Rattle.std.proofs.Math.Nat.{eq-or-lt_of_le, min-le_left}
use Rattle.std.specs.List.{list_any}
use Rattle.std.specs.Prelude.{◌↔◌, Option, None, Some, fold, unwrap_or}
use Rattle.std.specs.Option.{option_or}
use Rattle.std.specs.Ordering.{eq_by_cmp, is_eq}
use Rattle.std.specs.Cmp.{nat_cmp_total, tied_itself}
use Rattle.std.specs.FinMap.{empty, entries, entries_sorted, find, get, get-empty, get-entries, get-insert, is_sorted, nat_cmp-IsAntisymmetric}
use Rattle.std.specs.FinMap.Entries.{below_all}
use Rattle.ndn_tlv.specs.Element.{Field}
use Rattle.ndn_names.proofs.Rows.{first_of, second_of, no_entries}
use Rattle.name_trie.proofs.Revised.{equal, find_below}
use Rattle.pit_fib.specs.declared.route.Route.{Route}
use Rattle.pit_fib.specs.declared.route.RouteKey.{RouteKey}
use Rattle.pit_fib.specs.Effective.{HasNone, IsEffective, IsLeastCost, does_inherit, effective, handed_down, has_capture, least_costs, lesser, passed_on, prefer, with_lesser}
use Rattle.pit_fib.specs.Effective.IsEffective.{OwnHop, OwnRoute, InheritedRoute}
use Rattle.pit_fib.specs.Fib.{Entry, Routes, costs_at, no_entry, registered_at}
use Rattle.pit_fib.specs.Route.{Registered, is_capture, is_child_inherit, route_cmp, route_cmp-antisymmetric, route_cmp-total}
use Rattle.pit_fib.specs.Tables.{ByFace}
use Rattle.pit_fib.proofs.Inheritance.{get-prefer}

-- ---- lookups in a map that a test may replace by the empty map

get_if : (b : Bool) (m : ByFace) (f : ℕ) → get (cond b m empty) f ≡ cond b (get m f) None
get_if true m f = refl
get_if false m f = get-empty nat_cmp f

get_unless : (b : Bool) (m : ByFace) (f : ℕ) → get (cond b empty m) f ≡ cond b None (get m f)
get_unless true m f = get-empty nat_cmp f
get_unless false m f = refl

-- ---- the routes in a list

abbrev Row : Type 0
Row = RouteKey × Route

abbrev Has : List Row → Row → Type 0
Has [] e = ⊥
Has (x ∷ rows) e = (x ≡ e) ⊎ Has rows e

has_found : (k : RouteKey) (r : Route) (rows : List Row) → find route_cmp k rows ≡ Some r → Has rows (k, r)
has_found k r [] is = absurd cc
has_found k r (e ∷ rows) is =
    elim (eq_by_cmp route_cmp k e.0) as (λ b. eq_by_cmp route_cmp k e.0 ≡ b → cond b (Some e.1) (find route_cmp k rows) ≡ Some r → Has (e ∷ rows) (k, r)) [
      | true ↦ λ t s.
          let key : e.0 ≡ k = sym (route_cmp-antisymmetric k e.0 (equal _ t)) in
          let value : e.1 ≡ r = cc in
          inl (λ i. (key i, value i))
      | false ↦ λ t s. inr (has_found k r rows s)
    ] refl is

found_has : (k : RouteKey) (r : Route) (rows : List Row) → T (is_sorted route_cmp rows) → Has rows (k, r) → find route_cmp k rows ≡ Some r
found_has k r [] sorted has = absurd has
found_has k r (e ∷ rows) sorted has = elim has as (λ _. find route_cmp k (e ∷ rows) ≡ Some r) [
  | (inl is) ↦ ap (λ (x : Row). find route_cmp k (x ∷ rows)) is ∙ ap (λ o. cond (is_eq o) (Some r) (find route_cmp k rows)) (tied_itself route_cmp-total k)
  | (inr later) ↦
      elim (eq_by_cmp route_cmp k e.0) as (λ b. eq_by_cmp route_cmp k e.0 ≡ b → find route_cmp k rows ≡ Some r → cond b (Some e.1) (find route_cmp k rows) ≡ Some r) [
        | true ↦ λ t rest.
            let same : e.0 ≡ k = sym (route_cmp-antisymmetric k e.0 (equal _ t)) in
            let none : find route_cmp k rows ≡ None = find_below route_cmp k rows (subst (λ x. T (below_all route_cmp x rows)) same (first_of _ _ sorted)) in
            absurd cc
        | false ↦ λ t rest. rest
      ] refl (found_has k r rows (second_of _ _ sorted) later)
]

-- ---- the least cost of the routes

lesser_below : (cost : ℕ) (o : Option ℕ) → lesser cost o ≤ cost
lesser_below cost None = omega arith
lesser_below cost (Some other) = omega arith

lesser_old : (cost x : ℕ) (o : Option ℕ) → o ≡ Some x → lesser cost o ≤ x
lesser_old cost x None is = absurd cc
lesser_old cost x (Some other) is = let same : other ≡ x = cc in omega (arith, same)

lesser_of : (cost : ℕ) (o : Option ℕ) → (o ≡ Some (lesser cost o)) ⊎ (cost ≡ lesser cost o)
lesser_of cost None = inr refl
lesser_of cost (Some other) = elim (eq-or-lt_of_le (min-le_left cost other)) as (λ _. (Some other ≡ Some (lesser cost (Some other))) ⊎ (cost ≡ lesser cost (Some other))) [
  | (inl is) ↦ inr (sym is)
  | (inr lt) ↦ inl (let is : other ≡ lesser cost (Some other) = omega (arith, lt) in ap Some is)
]

module _ (wanted : Route → Bool) (f : ℕ) where
  abbrev step : Option ℕ → Row → Option ℕ
  step o e = cond (wanted e.1) (cond (eq_by_cmp nat_cmp f e.0.face) (Some (lesser e.1.cost o)) o) o

  abbrev costs_over : ByFace → List Row → ByFace
  costs_over acc rows = fold {A = Row} {B = ByFace} (λ costs e. cond (wanted e.1) (with_lesser costs e.0.face e.1.cost) costs) acc rows

  get_with : (acc : ByFace) (e : Row) → get (with_lesser acc e.0.face e.1.cost) f ≡ cond (eq_by_cmp nat_cmp f e.0.face) (Some (lesser e.1.cost (get acc f))) (get acc f)
  get_with acc e =
      get-insert nat_cmp_total acc e.0.face (lesser e.1.cost (get acc e.0.face)) f
      ∙ elim (eq_by_cmp nat_cmp f e.0.face) as (λ b. eq_by_cmp nat_cmp f e.0.face ≡ b → cond b (Some (lesser e.1.cost (get acc e.0.face))) (get acc f) ≡ cond b (Some (lesser e.1.cost (get acc f))) (get acc f)) [
        | true ↦ λ t. ap (λ x. Some (lesser e.1.cost (get acc x))) (sym (nat_cmp-IsAntisymmetric f e.0.face (equal _ t)))
        | false ↦ λ t. refl
      ] refl

  get_costs_over : (rows : List Row) (acc : ByFace) → get (costs_over acc rows) f ≡ fold {A = Row} {B = Option ℕ} step (get acc f) rows
  get_costs_over [] acc = refl
  get_costs_over (e ∷ rows) acc =
      get_costs_over rows (cond (wanted e.1) (with_lesser acc e.0.face e.1.cost) acc)
      ∙ ap (λ o. fold {A = Row} {B = Option ℕ} step o rows)
      (elim (wanted e.1) as (λ b. get (cond b (with_lesser acc e.0.face e.1.cost) acc) f ≡ cond b (cond (eq_by_cmp nat_cmp f e.0.face) (Some (lesser e.1.cost (get acc f))) (get acc f)) (get acc f)) [ true ↦ get_with acc e | false ↦ refl ])

  -- some route in the list is on the face `f`, passes the test, and has the cost `c`
  abbrev IsOne : List Row → ℕ → Type 0
  IsOne rows c = (e : Row) × Has rows e × (e.0.face ≡ f) × (wanted e.1 ≡ true) × (e.1.cost ≡ c)

  -- `Says o rows least`: `least` is the least of the optional cost `o` and the costs of those
  -- routes in `rows` that are on the face `f` and pass the test. `least` is None if there are no
  -- such costs.
  abbrev Says : Option ℕ → List Row → Option ℕ → Type 0
  Says o rows None = (o ≡ None) × ((e : Row) → Has rows e → e.0.face ≡ f → wanted e.1 ≡ false)
  Says o rows (Some c) = ((o ≡ Some c) ⊎ IsOne rows c) × ((x : ℕ) → o ≡ Some x → c ≤ x) × ((e : Row) → Has rows e → e.0.face ≡ f → wanted e.1 ≡ true → c ≤ e.1.cost)

  abbrev longer : (e : Row) (rows : List Row) (c : ℕ) → IsOne rows c → IsOne (e ∷ rows) c
  longer e rows c one = (one.0, inr one.1, one.2, one.3, one.4)

  passed : (o out : Option ℕ) (e : Row) (rows : List Row) → (e.0.face ≡ f → wanted e.1 ≡ false) → Says o rows out → Says o (e ∷ rows) out
  passed o None e rows apart s = (
    s.0,
    λ x has face. elim has as (λ _. wanted x.1 ≡ false) [
      | (inl is) ↦ subst (λ (y : Row). y.0.face ≡ f → wanted y.1 ≡ false) is apart face
      | (inr later) ↦ s.1 x later face
    ],
  )
  passed o (Some c) e rows apart s = (
    elim s.0 as (λ _. (o ≡ Some c) ⊎ IsOne (e ∷ rows) c) [ (inl is) ↦ inl is | (inr one) ↦ inr (longer e rows c one) ],
    s.1,
    λ x has face is_wanted. elim has as (λ _. c ≤ x.1.cost) [
      | (inl is) ↦ absurd (let not_wanted = subst (λ (y : Row). y.0.face ≡ f → wanted y.1 ≡ false) is apart face in cc)
      | (inr later) ↦ s.2 x later face is_wanted
    ],
  )

  counted : (o out : Option ℕ) (e : Row) (rows : List Row) → e.0.face ≡ f → wanted e.1 ≡ true → Says (Some (lesser e.1.cost o)) rows out → Says o (e ∷ rows) out
  counted o None e rows face is_wanted s = absurd (let none = s.0 in cc)
  counted o (Some c) e rows face is_wanted s = (
    elim s.0 as (λ _. (o ≡ Some c) ⊎ IsOne (e ∷ rows) c) [
      | (inl is) ↦
          let same : lesser e.1.cost o ≡ c = cc in
          elim (lesser_of e.1.cost o) as (λ _. (o ≡ Some c) ⊎ IsOne (e ∷ rows) c) [
            | (inl old) ↦ inl (old ∙ is)
            | (inr own) ↦ inr (e, inl refl, face, is_wanted, own ∙ same)
          ]
      | (inr one) ↦ inr (longer e rows c one)
    ],
    (λ x is. let below = s.1 (lesser e.1.cost o) refl in let old = lesser_old e.1.cost x o is in omega (arith, below, old)),
    λ x has there wants. elim has as (λ _. c ≤ x.1.cost) [
      | (inl is) ↦ subst (λ (y : Row). c ≤ y.1.cost) is (let below = s.1 (lesser e.1.cost o) refl in let own = lesser_below e.1.cost o in omega (arith, below, own))
      | (inr later) ↦ s.2 x later there wants
    ],
  )

  says : (rows : List Row) (o : Option ℕ) → Says o rows (fold {A = Row} {B = Option ℕ} step o rows)
  says [] o = elim o as (λ o. Says o [] o) [
    | None ↦ (refl, λ e has. absurd has)
    | (Some c) ↦ (inl refl, (λ x is. let same : c ≡ x = cc in omega (arith, same)), λ e has. absurd has)
  ]
  says (e ∷ rows) o =
      elim (wanted e.1) as (λ b. wanted e.1 ≡ b → Says o (e ∷ rows) (fold {A = Row} {B = Option ℕ} step (cond b (cond (eq_by_cmp nat_cmp f e.0.face) (Some (lesser e.1.cost o)) o) o) rows)) [
        | true ↦ λ w. elim (eq_by_cmp nat_cmp f e.0.face) as (λ b. eq_by_cmp nat_cmp f e.0.face ≡ b → Says o (e ∷ rows) (fold {A = Row} {B = Option ℕ} step (cond b (Some (lesser e.1.cost o)) o) rows)) [
          | true ↦ λ t. counted o _ e rows (sym (nat_cmp-IsAntisymmetric f e.0.face (equal _ t))) w (says rows (Some (lesser e.1.cost o)))
          | false ↦ λ t. passed o _ e rows (λ face. absurd (let tie = ap (λ n. eq_by_cmp nat_cmp f n) face ∙ ap is_eq (tied_itself nat_cmp_total f) in cc)) (says rows o)
        ] refl
        | false ↦ λ w. passed o _ e rows (λ _. w) (says rows o)
      ] refl

  module _ (m : Registered) where
    -- `Tells least`: `least` is the least cost of the routes on the face `f` that pass the test, or
    -- None if no route on the face passes the test
    abbrev Tells : Option ℕ → Type 0
    Tells None = HasNone wanted m f
    Tells (Some c) = IsLeastCost wanted m f c

    row_of : (origin : ℕ) (r : Route) → get m (record { face = f; origin = origin }) ≡ Some r → Has (entries m) (record { face = f; origin = origin }, r)
    row_of origin r is = has_found _ r (entries m) (sym (get-entries m _) ∙ is)

    tells_of : (o : Option ℕ) → Says None (entries m) o → Tells o
    tells_of None s = λ origin r is. s.1 (record { face = f; origin = origin }, r) (row_of origin r is) refl
    tells_of (Some c) s = elim s.0 as (λ _. IsLeastCost wanted m f c) [
      | (inl is) ↦ absurd cc
      | (inr one) ↦ record {
        origin = one.0.0.origin;
        route = one.0.1;
        there =
            ap (λ face. get m (record { face = face; origin = one.0.0.origin })) (sym one.2)
            ∙ get-entries m one.0.0 ∙ found_has one.0.0 one.0.1 (entries m) (entries_sorted m) one.1;
        is_wanted = one.3;
        of_cost = one.4;
        least = λ other r is w. s.2 (record { face = f; origin = other }, r) (row_of other r is) refl w;
      }
    ]

    tells : Tells (get (least_costs wanted (entries m)) f)
    tells =
        subst Tells (sym (get_costs_over (entries m) empty ∙ ap (λ o. fold {A = Row} {B = Option ℕ} step o (entries m)) (get-empty nat_cmp f)))
        (tells_of _ (says (entries m) None))

    only_least : (c : ℕ) (o : Option ℕ) → Tells o → IsLeastCost wanted m f c → o ≡ Some c
    only_least c None none l = absurd (let not_wanted = none l.origin l.route l.there in let is = l.is_wanted in cc)
    only_least c (Some d) t l =
        let low = t.least l.origin l.route l.there l.is_wanted in
        let high = l.least t.origin t.route t.there t.is_wanted in
        let same : d ≡ c = omega (arith, low, high, l.of_cost, t.of_cost) in
        ap Some same

    only_none : (o : Option ℕ) → Tells o → HasNone wanted m f → o ≡ None
    only_none None t none = refl
    only_none (Some c) t none = absurd (let not_wanted = none t.origin t.route t.there in let is = t.is_wanted in cc)

-- ---- the costs that a name inherits from its prefixes

-- the name inherits this cost for the face from the name's prefixes with fewer than n components
record IsHandedDown (routes : Routes) (name : List Field) (n face cost : ℕ) : Type 0 where
  from : ℕ
  shorter : from < n
  least : IsLeastCost is_child_inherit (registered_at routes (take from name)) face cost
  nearest : (m : ℕ) → from < m → m < n → HasNone is_child_inherit (registered_at routes (take m name)) face
  unbroken : (m : ℕ) → from < m → m < n → has_capture (registered_at routes (take m name)) ≡ false

module _ (above : ByFace) (f : ℕ) where
  abbrev passed_at : Registered → Option ℕ
  passed_at m = option_or (get (least_costs is_child_inherit (entries m)) f) (cond (has_capture m) None (get above f))

  get_passed : (o : Option Entry) → get (passed_on o above) f ≡ passed_at (unwrap_or o no_entry).registered
  get_passed None =
      sym (ap (λ (rows : List Row). option_or (get (least_costs is_child_inherit rows) f) (cond (list_any (λ e. is_capture e.1) rows) None (get above f))) (no_entries route_cmp)
      ∙ ap (λ o. option_or o (get above f)) (get-empty nat_cmp f))
  get_passed (Some e) =
      get-prefer (least_costs is_child_inherit (entries e.registered)) (cond (has_capture e.registered) empty above) f
      ∙ ap (option_or (get (least_costs is_child_inherit (entries e.registered)) f)) (get_unless (has_capture e.registered) above f)

module _ (routes : Routes) (name : List Field) (f c : ℕ) where
  abbrev at : ℕ → Registered
  at n = registered_at routes (take n name)

  abbrev Handed : ℕ → Type 0
  Handed n = IsHandedDown routes name n f c

  nearest_prefix : (n : ℕ) → IsLeastCost is_child_inherit (at n) f c → Handed (suc n)
  nearest_prefix n l = record {
    from = n;
    shorter = omega arith;
    least = l;
    nearest = λ m above below. absurd (omega (arith, above, below));
    unbroken = λ m above below. absurd (omega (arith, above, below));
  }

  shorter_prefix : (n : ℕ) → HasNone is_child_inherit (at n) f → has_capture (at n) ≡ false → Handed n → Handed (suc n)
  shorter_prefix n none free h = record {
    from = h.from;
    shorter = let s = h.shorter in omega (arith, s);
    least = h.least;
    nearest = λ m above below. elim (eq-or-lt_of_le (within m below)) as (λ _. HasNone is_child_inherit (at m) f) [
      | (inl is) ↦ subst (λ k. HasNone is_child_inherit (at k) f) (sym is) none
      | (inr lt) ↦ h.nearest m above lt
    ];
    unbroken = λ m above below. elim (eq-or-lt_of_le (within m below)) as (λ _. has_capture (at m) ≡ false) [
      | (inl is) ↦ subst (λ k. has_capture (at k) ≡ false) (sym is) free
      | (inr lt) ↦ h.unbroken m above lt
    ];
  }
    where
      within : (m : ℕ) → m < suc n → m ≤ n
      within m below = omega (arith, below)

  handed_step : (n : ℕ) (own : Option ℕ) (b : Bool) → Tells is_child_inherit f (at n) own → has_capture (at n) ≡ b
      → (get (handed_down routes name n) f ≡ Some c → Handed n)
      → option_or own (cond b None (get (handed_down routes name n) f)) ≡ Some c → Handed (suc n)
  handed_step n (Some d) b l is rest e = let same : d ≡ c = cc in nearest_prefix n (subst (IsLeastCost is_child_inherit (at n) f) same l)
  handed_step n None true none is rest e = absurd cc
  handed_step n None false none is rest e = shorter_prefix n none is (rest e)

  is_handed : (n : ℕ) → get (handed_down routes name n) f ≡ Some c → Handed n
  is_handed zero is = absurd (let none = get-empty {X = ℕ} nat_cmp f in cc)
  is_handed (suc n) is =
      handed_step n _ _ (tells is_child_inherit f (at n)) refl (is_handed n)
      (sym (get_passed (handed_down routes name n) f (get routes (take n name))) ∙ is)

  handed_is : (n : ℕ) → Handed n → get (handed_down routes name n) f ≡ Some c
  handed_is zero h = absurd (let s = h.shorter in omega (arith, s))
  handed_is (suc n) h =
      let above = handed_down routes name n in
      get_passed above f (get routes (take n name))
      ∙ elim (eq-or-lt_of_le (let s = h.shorter in let le : h.from ≤ n = omega (arith, s) in le)) as (λ _. passed_at above f (at n) ≡ Some c) [
        | (inl is) ↦
            let l : IsLeastCost is_child_inherit (at n) f c = subst (λ k. IsLeastCost is_child_inherit (at k) f c) is h.least in
            ap (λ o. option_or o (cond (has_capture (at n)) None (get above f))) (only_least is_child_inherit f (at n) c _ (tells is_child_inherit f (at n)) l)
        | (inr lt) ↦
            ap (λ o. option_or o (cond (has_capture (at n)) None (get above f))) (only_none is_child_inherit f (at n) _ (tells is_child_inherit f (at n)) (h.nearest n lt (omega arith)))
            ∙ ap (λ b. cond b None (get above f)) (h.unbroken n lt (omega arith))
            ∙ handed_is n (record {
              from = h.from;
              shorter = lt;
              least = h.least;
              nearest = λ m above below. h.nearest m above (omega (arith, below));
              unbroken = λ m above below. h.unbroken m above (omega (arith, below));
            })
      ]

  -- ---- the reasons why a face has a cost among the effective next hops

  abbrev any : Route → Bool
  any _ = true

  abbrev own : Registered
  own = registered_at routes name

  abbrev above : ByFace
  above = handed_down routes name (length name)

  get_effective : get (effective routes name) f ≡ option_or (get (costs_at routes name) f) (option_or (get (least_costs any (entries own)) f) (cond (does_inherit own) (get above f) None))
  get_effective =
      get-prefer (costs_at routes name) (prefer (least_costs any (entries own)) (cond (does_inherit own) above empty)) f
      ∙ ap (option_or (get (costs_at routes name) f))
      (get-prefer (least_costs any (entries own)) (cond (does_inherit own) above empty) f
      ∙ ap (option_or (get (least_costs any (entries own)) f)) (get_if (does_inherit own) above f))

  why : (hop least : Option ℕ) (b : Bool) → get (costs_at routes name) f ≡ hop → Tells any f own least → does_inherit own ≡ b
      → option_or hop (option_or least (cond b (get above f) None)) ≡ Some c → IsEffective routes name f c
  why (Some d) least b is l inherits e = OwnHop (is ∙ e)
  why None (Some d) b is l inherits e = let same : d ≡ c = cc in OwnRoute is (subst (IsLeastCost any own f) same l)
  why None None false is none inherits e = absurd cc
  why None None true is none inherits e =
      let h = is_handed (length name) e in
      InheritedRoute is none inherits (record { from = h.from; shorter = h.shorter; least = h.least; nearest = h.nearest; unbroken = h.unbroken })

  because : IsEffective routes name f c → option_or (get (costs_at routes name) f) (option_or (get (least_costs any (entries own)) f) (cond (does_inherit own) (get above f) None)) ≡ Some c
  because (OwnHop is) = ap (λ o. option_or o (option_or (get (least_costs any (entries own)) f) (cond (does_inherit own) (get above f) None))) is
  because (OwnRoute none l) =
      ap (λ o. option_or o (option_or (get (least_costs any (entries own)) f) (cond (does_inherit own) (get above f) None))) none
      ∙ ap (λ o. option_or o (cond (does_inherit own) (get above f) None)) (only_least any f own c _ (tells any f own) l)
  because (InheritedRoute none no_route inherits h) =
      ap (λ o. option_or o (option_or (get (least_costs any (entries own)) f) (cond (does_inherit own) (get above f) None))) none
      ∙ ap (λ o. option_or o (cond (does_inherit own) (get above f) None)) (only_none any f own _ (tells any f own) no_route)
      ∙ ap (λ b. cond b (get above f) None) inherits
      ∙ handed_is (length name) (record { from = h.from; shorter = h.shorter; least = h.least; nearest = h.nearest; unbroken = h.unbroken })

  pub effective_is : (get (effective routes name) f ≡ Some c) ↔ IsEffective routes name f c
  effective_is = (
    λ is. why _ _ _ refl (tells any f own) refl (sym get_effective ∙ is),
    λ is. get_effective ∙ because is,
  )
