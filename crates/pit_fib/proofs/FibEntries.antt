-- An entry after next hops or routes are set or removed.
use Rattle.std.proofs.Common.{◌≡◌, ◌⊎◌, inl, inr, ℕ, ◌+◌, ◌-◌, ◌<◌, ◌≤◌, Bool, true, false, not, cond, length, List, [], ◌∷◌, nat_cmp, refl, sym, ap, subst, ◌∙◌, arith, eqb}
use Rattle.std.proofs.lemmas.Bool.{eqb-true, eqb-false}
use Rattle.ndn_names.proofs.Rows.{len-from_sorted}
use Rattle.std.specs.Prelude.{filter, Option, None, Some, IsSome, unwrap_or, is_some, ◌&&◌, ◌==◌}
use Rattle.std.specs.Option.{option_and_then}
use Rattle.std.specs.Ordering.{eq_by_cmp}
use Rattle.std.specs.declared.cmp.Ordering.{Ordering}
use Rattle.std.specs.declared.cmp.Ordering.TheVariants.{Equal}
use Rattle.std.specs.Cmp.{IsTotalOrder, nat_cmp_total}
use Rattle.std.specs.FinMap.{FinMap, contains_key, empty, empty_of_len, entries, entries-from_sorted, entries_sorted, from_sorted, get, get-empty, get-insert, get-remove, get-retain_keys, insert, len, len-empty, len-entries, len-insert, len-remove, nat_cmp-IsAntisymmetric, remove, retain_keys, same_entries_map}
use Rattle.ndn_tlv.specs.Element.{Field}
use Rattle.name_trie.specs.ByName.{revise, revised, with_entry, with_value}
use Rattle.name_trie.proofs.Least.{entries-revise}
use Rattle.name_trie.proofs.Revised.{equal, get-revise}
use Rattle.pit_fib.specs.declared.route.Route.{Route}
use Rattle.pit_fib.specs.declared.route.RouteKey.{RouteKey}
use Rattle.pit_fib.specs.Fib.{Entry, Routes, entry_at, entry_left_at, entry_with_hop, entry_with_route, entry_without_face, entry_without_hop, entry_without_route, is_vacant, no_entry, registered_at, route_count, unless_vacant}
use Rattle.pit_fib.specs.Route.{Registered, is_due, route_cmp, route_cmp-antisymmetric, route_cmp-total, until_due}
use Rattle.name_trie.specs.Flat.{size_of}
use Rattle.pit_fib.proofs.FibTables.{EntryLeads, IsPartOf, count_insert, count_remove}
use Rattle.pit_fib.proofs.Routes.{from_kept, sorted_kept}

-- if `unless_vacant e` returns an entry, this entry is `e`, and has next hops or routes
pub left_is : (e part : Entry) → unless_vacant e ≡ Some part → (part ≡ e) × (is_vacant e ≡ false)
left_is e part is =
    elim (is_vacant e) as (λ b. cond b None (Some e) ≡ Some part → (part ≡ e) × (b ≡ false)) [
      | true ↦ λ f. absurd cc
      | false ↦ λ f. ((let same : e ≡ part = cc in sym same), refl)
    ] is

-- ---- values that are left in a map after other values were removed
some_kept : {X : Type 0} (b : Bool) (o : Option X) → IsSome (cond b None o) → IsSome o
some_kept true o some = absurd cc
some_kept false o some = some

got_kept : {X : Type 0} (b : Bool) (o : Option X) (x : X) → cond b None o ≡ Some x → o ≡ Some x
got_kept true o x is = absurd cc
got_kept false o x is = is

fewer_by : (b : Bool) (n m : ℕ) → n ≡ cond b (m - 1) m → n ≤ m
fewer_by true n m is = omega (arith, is)
fewer_by false n m is = omega (arith, is)

-- ---- the removal of one next hop or one route

pub part_without_hop : (face : ℕ) (whole part : Entry) → entry_without_hop face whole ≡ Some part → IsPartOf part whole
part_without_hop face whole part is =
    let left = left_is (record whole { hops = remove whole.hops face }) part is in
    subst (λ p. IsPartOf p whole) (sym left.0) (record {
      some = left.1;
      fewer = omega arith;
      leads = λ f l. elim l as (λ _. EntryLeads whole f) [
        | (inl some) ↦ inl (some_kept (eq_by_cmp nat_cmp f face) (get whole.hops f) (subst (λ (o : Option ℕ). IsSome o) (get-remove nat_cmp_total whole.hops face f) some))
        | (inr way) ↦ inr way
      ];
      kept = λ key r there. there;
    })

pub part_without_route : (key : RouteKey) (whole part : Entry) → entry_without_route key whole ≡ Some part → IsPartOf part whole
part_without_route key whole part is =
    let left = left_is (record whole { registered = remove whole.registered key }) part is in
    subst (λ p. IsPartOf p whole) (sym left.0) (record {
      some = left.1;
      fewer = fewer_by (contains_key whole.registered key) _ _ (len-remove route_cmp-total whole.registered key);
      leads = λ f l. elim l as (λ _. EntryLeads whole f) [
        | (inl some) ↦ inl some
        | (inr way) ↦ inr (way.0, some_kept (eq_by_cmp route_cmp (record { face = f; origin = way.0 }) key) _ (subst (λ (o : Option Route). IsSome o) (get-remove route_cmp-total whole.registered key (record { face = f; origin = way.0 })) way.1))
      ];
      kept = λ k r there. got_kept (eq_by_cmp route_cmp k key) _ r (sym (get-remove route_cmp-total whole.registered key k) ∙ there);
    })

-- ---- the removal of the hops and routes of a face, or of the routes that expire by a moment

-- changing or removing the values of rows does not increase the number of rows
pub fewer_rows : {K X : Type 0} (change : X → Option X) (es : List (K × X)) → length (revised change es) ≤ length es
fewer_rows change [] = omega arith
fewer_rows change (e ∷ es) =
    let rest = fewer_rows change es in
    elim (change e.1) as (λ o. length (with_entry e.0 o (revised change es)) ≤ length (e ∷ es)) [ None ↦ omega (arith, rest) | (Some y) ↦ omega (arith, rest) ]

pub fewer_revised : {K X : Type 0} {R : K → K → Ordering} (change : X → Option X) (m : FinMap R X) → len (revise change m) ≤ len m
fewer_revised {R = R} change m =
    let all = len-entries m in
    let left : len (revise change m) ≡ length (revised change (entries m)) = len-entries (revise change m) ∙ ap length (entries-revise R change m) in
    let less = fewer_rows change (entries m) in
    omega (arith, all, left, less)

due_kept : (now : ℕ) (o : Option Route) (r : Route) → option_and_then (until_due now) o ≡ Some r → o ≡ Some r
due_kept now None r is = absurd cc
due_kept now (Some x) r is = elim (is_due now x) as (λ b. cond b None (Some x) ≡ Some r → Some x ≡ Some r) [ true ↦ λ f. absurd cc | false ↦ λ f. f ] is

some_due : (now : ℕ) (o : Option Route) → IsSome (option_and_then (until_due now) o) → IsSome o
some_due now None some = absurd cc
some_due now (Some x) some = refl

pub part_left : (now : ℕ) (whole part : Entry) → entry_left_at now whole ≡ Some part → IsPartOf part whole
part_left now whole part is =
    let left = left_is (record whole { registered = revise (until_due now) whole.registered }) part is in
    subst (λ p. IsPartOf p whole) (sym left.0) (record {
      some = left.1;
      fewer = fewer_revised (until_due now) whole.registered;
      leads = λ f l. elim l as (λ _. EntryLeads whole f) [
        | (inl some) ↦ inl some
        | (inr way) ↦ inr (way.0, some_due now _ (subst (λ (o : Option Route). IsSome o) (get-revise route_cmp-antisymmetric (until_due now) whole.registered (record { face = f; origin = way.0 })) way.1))
      ];
      kept = λ k r there. due_kept now _ r (sym (get-revise route_cmp-antisymmetric (until_due now) whole.registered k) ∙ there);
    })

passed : {X : Type 0} (b : Bool) (o : Option X) (x : X) → cond b o None ≡ Some x → o ≡ Some x
passed true o x is = is
passed false o x is = absurd cc

some_passed : {X : Type 0} (b : Bool) (o : Option X) → IsSome (cond b o None) → IsSome o
some_passed true o some = some
some_passed false o some = absurd cc

module _ (face : ℕ) where
  abbrev pub other : RouteKey → Bool
  other k = not (k.face == face)

  pub alike : (q x : RouteKey) → route_cmp q x ≡ Equal → other x ≡ other q
  alike q x tie = ap other (sym (route_cmp-antisymmetric q x tie))

  -- removing the routes of a face does not increase the number of routes
  fewer_keys : (m : Registered) → len (retain_keys m other) ≤ len m
  fewer_keys m =
      let whole : from_sorted {R = route_cmp} (entries m) ≡ m = same_entries_map _ _ (entries-from_sorted route_cmp (entries m) (entries_sorted m)) in
      let kept : len (retain_keys m other) ≡ length (filter (λ row. other row.0) (entries m)) =
      ap (λ n. len (retain_keys n other)) (sym whole) ∙ sym (ap len (from_kept other (entries m) (entries_sorted m)))
      ∙ len-from_sorted route_cmp _ (sorted_kept other (entries m) (entries_sorted m)) in
      let all = len-entries m in
      let less = fewer_filtered (entries m) in
      omega (arith, kept, all, less)
    where
      fewer_filtered : (rows : List (RouteKey × Route)) → length (filter (λ row. other row.0) rows) ≤ length rows
      fewer_filtered [] = omega arith
      fewer_filtered (row ∷ rows) =
          let rest = fewer_filtered rows in
          elim (other row.0) as (λ b. length (cond b (row ∷ filter (λ row. other row.0) rows) (filter (λ row. other row.0) rows)) ≤ length (row ∷ rows)) [ true ↦ omega (arith, rest) | false ↦ omega (arith, rest) ]

  pub part_without_face : (whole part : Entry) → entry_without_face face whole ≡ Some part → IsPartOf part whole
  part_without_face whole part is =
      let left = left_is (record { hops = remove whole.hops face; registered = retain_keys whole.registered other }) part is in
      subst (λ p. IsPartOf p whole) (sym left.0) (record {
        some = left.1;
        fewer = fewer_keys whole.registered;
        leads = λ f l. elim l as (λ _. EntryLeads whole f) [
          | (inl some) ↦ inl (some_kept (eq_by_cmp nat_cmp f face) (get whole.hops f) (subst (λ (o : Option ℕ). IsSome o) (get-remove nat_cmp_total whole.hops face f) some))
          | (inr way) ↦ inr (way.0, some_passed (other (record { face = f; origin = way.0 })) _ (subst (λ (o : Option Route). IsSome o) (get-retain_keys whole.registered other (record { face = f; origin = way.0 }) (alike (record { face = f; origin = way.0 }))) way.1))
        ];
        kept = λ k r there. passed (other k) _ r (sym (get-retain_keys whole.registered other k (alike k)) ∙ there);
      })

-- ---- the setting of a next hop or a route

pub held_in : {K X : Type 0} {R : K → K → Ordering} (m : FinMap R X) (k : K) → contains_key m k ≡ true → 0 < len m
held_in {X = X} {R = R} m k there =
    elim (eqb (len m) 0) as (λ b. eqb (len m) 0 ≡ b → 0 < len m) [
      | true ↦ λ e.
          let none : m ≡ empty = empty_of_len m (eqb-true _ _ e) in
          let lost : contains_key m k ≡ false = ap (λ (n : FinMap R X). contains_key n k) none ∙ ap is_some (get-empty R k) in
          absurd cc
      | false ↦ λ e. (let ne = eqb-false _ 0 e in omega (arith, ne))
    ] refl

pub some_in : {K X : Type 0} {R : K → K → Ordering} (total : IsTotalOrder R) (m : FinMap R X) (k : K) (x : X) → eqb (len (insert m k x)) 0 ≡ false
some_in total m k x =
    elim (contains_key m k) as (λ b. contains_key m k ≡ b → eqb (len (insert m k x)) 0 ≡ false) [
      | true ↦ λ there. (let more = len-insert total m k x ∙ ap (λ b. cond b (len m) (len m + 1)) there in positive _ (subst (λ n. 0 < n) (sym more) (held_in m k there)))
      | false ↦ λ there. (let more = len-insert total m k x ∙ ap (λ b. cond b (len m) (len m + 1)) there in positive _ (omega (arith, more)))
    ] refl
  where
    positive : (n : ℕ) → 0 < n → eqb n 0 ≡ false
    positive n less = elim (eqb n 0) as (λ b. eqb n 0 ≡ b → b ≡ false) [ true ↦ λ e. (let zero = eqb-true n 0 e in absurd (omega (arith, zero, less))) | false ↦ λ e. refl ] refl

-- if `b` implies `A`, and `cond b (Some x) o` is not None, then `o` is not None or `A` holds
set_or : {X : Type 0} (b : Bool) (x : X) (o : Option X) {A : Type 0} → (b ≡ true → A) → IsSome (cond b (Some x) o) → IsSome o ⊎ A
set_or true x o is some = inr (is refl)
set_or false x o is some = inl some

pub hop_leads : (face cost : ℕ) (e : Entry) (f : ℕ) → EntryLeads (entry_with_hop face cost e) f → EntryLeads e f ⊎ (f ≡ face)
hop_leads face cost e f (inr way) = inl (inr way)
hop_leads face cost e f (inl some) =
    elim (set_or (eq_by_cmp nat_cmp f face) cost (get e.hops f) (λ tie. nat_cmp-IsAntisymmetric f face (equal _ tie)) (subst (λ (o : Option ℕ). IsSome o) (get-insert nat_cmp_total e.hops face cost f) some)) as (λ _. EntryLeads e f ⊎ (f ≡ face)) [
      | (inl was) ↦ inl (inl was)
      | (inr is) ↦ inr is
    ]

pub route_leads : (key : RouteKey) (r : Route) (e : Entry) (f : ℕ) → EntryLeads (entry_with_route key r e) f → EntryLeads e f ⊎ (f ≡ key.face)
route_leads key r e f (inl some) = inl (inl some)
route_leads key r e f (inr way) =
    let k : RouteKey = record { face = f; origin = way.0 } in
    elim (set_or (eq_by_cmp route_cmp k key) r (get e.registered k) (λ tie. ap (λ (x : RouteKey). x.face) (route_cmp-antisymmetric k key (equal _ tie))) (subst (λ (o : Option Route). IsSome o) (get-insert route_cmp-total e.registered key r k) way.1)) as (λ _. EntryLeads e f ⊎ (f ≡ key.face)) [
      | (inl was) ↦ inl (inr (way.0, was))
      | (inr is) ↦ inr is
    ]

and_false : (a : Bool) {b : Bool} → b ≡ false → (a && b) ≡ false
and_false true e = e
and_false false e = refl

pub hop_stands : (face cost : ℕ) (e : Entry) → is_vacant (entry_with_hop face cost e) ≡ false
hop_stands face cost e = ap (λ b. b && eqb (len e.registered) 0) (some_in nat_cmp_total e.hops face cost)

pub route_stands : (key : RouteKey) (r : Route) (e : Entry) → is_vacant (entry_with_route key r e) ≡ false
route_stands key r e = and_false (eqb (len e.hops) 0) (some_in route_cmp-total e.registered key r)

-- ---- changes that create no entry for a name that has none

pub change_is : (g : Entry → Option Entry) (t : Routes) (name : List Field) → g no_entry ≡ None → option_and_then g (get t name) ≡ g (entry_at t name)
change_is g t name none = elim (get t name) as (λ o. option_and_then g o ≡ g (unwrap_or o no_entry)) [ None ↦ sym none | (Some e) ↦ refl ]

vacant_none : (e : Entry) → len e.hops ≡ 0 → len e.registered ≡ 0 → unless_vacant e ≡ None
vacant_none e a b = ap (λ n. cond (eqb n 0 && eqb (len e.registered) 0) None (Some e)) a ∙ ap (λ n. cond (eqb 0 0 && eqb n 0) None (Some e)) b

none_less : (b : Bool) (n m : ℕ) → n ≡ cond b (m - 1) m → m ≡ 0 → n ≡ 0
none_less true n m is zero = omega (arith, is, zero)
none_less false n m is zero = omega (arith, is, zero)

pub no_hop : (face : ℕ) → entry_without_hop face no_entry ≡ None
no_hop face =
    vacant_none (record no_entry { hops = remove no_entry.hops face })
    (none_less _ _ _ (len-remove nat_cmp_total no_entry.hops face) (len-empty nat_cmp ℕ)) (len-empty route_cmp Route)

pub no_route : (key : RouteKey) → entry_without_route key no_entry ≡ None
no_route key =
    vacant_none (record no_entry { registered = remove no_entry.registered key }) (len-empty nat_cmp ℕ)
    (none_less _ _ _ (len-remove route_cmp-total no_entry.registered key) (len-empty route_cmp Route))

-- ---- the number of all routes in a table after the entry of one name was changed

vacant_is : (a b : Bool) → (a && b) ≡ true → b ≡ true
vacant_is true b e = e
vacant_is false b e = absurd cc

abbrev pub size : Entry → ℕ
size e = len e.registered

pub size_left : (e : Entry) → size_of size (unless_vacant e) ≡ len e.registered
size_left e =
    elim (is_vacant e) as (λ b. is_vacant e ≡ b → size_of size (cond b None (Some e)) ≡ len e.registered) [
      | true ↦ λ v. sym (eqb-true (len e.registered) 0 (vacant_is (eqb (len e.hops) 0) (eqb (len e.registered) 0) v))
      | false ↦ λ v. refl
    ] refl

-- if the entry of a name is changed to `e`, the number of all routes decreases by the name's old
-- number of routes, and increases by the number of routes in `e`
pub count_changed : (t : Routes) (name : List Field) (e : Entry) → route_count (with_value t name (unless_vacant e)) + len (registered_at t name) ≡ route_count t + len e.registered
count_changed t name e =
    elim (unless_vacant e) as (λ o. unless_vacant e ≡ o → route_count (with_value t name o) + len (registered_at t name) ≡ route_count t + len e.registered) [
      | None ↦ λ is. (
          let less = count_remove t name in
          let none : 0 ≡ len e.registered = ap (size_of size) (sym is) ∙ size_left e in
          omega (arith, less, none)
          )
      | (Some x) ↦ λ is. (
          let more = count_insert t name x in
          let all : len x.registered ≡ len e.registered = ap (size_of size) (sym is) ∙ size_left e in
          omega (arith, more, all)
          )
    ] refl
