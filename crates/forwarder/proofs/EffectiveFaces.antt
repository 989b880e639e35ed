-- The faces of effective next hops: each is the face of a next hop or of a route.
use Rattle.std.proofs.Common.{◌≡◌, ◌⊎◌, inl, inr, ℕ, zero, suc, ◌<◌, Bool, true, false, cond, List, [], ◌∷◌, ◌++◌, length, take, Option, None, Some, unwrap_or, refl, sym, ap, subst, arith, get_or}
use Rattle.std.specs.Prelude.{IsSome, All, fold}
use Rattle.std.proofs.lemmas.List.Elements.{All-head, All-tail, All-from_get_or}
use Rattle.std.specs.declared.cmp.Ordering.{Ordering}
use Rattle.std.specs.Ordering.{eq_by_cmp, is_eq, nat_cmp}
use Rattle.std.specs.Cmp.{Equal-is, IsTotalOrder, nat_cmp_total, tied_itself}
use Rattle.std.specs.FinMap as map
use Rattle.std.specs.FinMap.{FinMap, get-empty, get-entries, get-from_entries, get-insert, nat_cmp-IsAntisymmetric}
use Rattle.ndn_tlv.specs.Element.{Field}
use Rattle.pit_fib.specs.declared.route.Route.{Route}
use Rattle.pit_fib.specs.declared.route.RouteKey.{RouteKey}
use Rattle.pit_fib.specs.Effective.{does_inherit, effective, handed_down, has_capture, least_costs, longest_costs, passed_on, prefer, with_lesser, lesser}
use Rattle.pit_fib.specs.Fib.{Entry, LeadsTo, Routes, entry_at, no_entry}
use Rattle.pit_fib.specs.Route.{is_child_inherit, route_cmp-total}
use Rattle.pit_fib.specs.Tables.{ByFace}

-- ---- a lookup of the key of any entry of a map finds a value

module _ {K X : Type 0} {R : K → K → Ordering} (order : IsTotalOrder R) where
  here_or_later : (b : Bool) (x : X) (o : Option X) → IsSome o → IsSome (cond b (Some x) o)
  here_or_later true x o some = refl
  here_or_later false x o some = some

  found_at : (es : List (K × X)) (i : ℕ) (d : K × X) → i < length es → IsSome (map.find R (get_or es i d).0 es)
  found_at [] i d lt = absurd (omega (arith, lt))
  found_at (e ∷ es) zero d lt = subst (λ (b : Bool). IsSome (cond b (Some e.1) (map.find R e.0 es))) (sym (ap is_eq (tied_itself order e.0))) refl
  found_at (e ∷ es) (suc i) d lt =
      here_or_later (eq_by_cmp R (get_or es i d).0 e.0) e.1 (map.find R (get_or es i d).0 es) (found_at es i d (omega (arith, lt)))

  -- if a property is true of each key that has a value, then the property is true of the key of
  -- each entry
  pub all_entries : (P : K → Type 0) (m : FinMap R X) (d : K × X) → ((k : K) → IsSome (map.get m k) → P k) → All (λ e. P e.0) (map.entries m)
  all_entries P m d holds =
      All-from_get_or (λ (e : K × X). P e.0) (map.entries m) d
      (λ i lt. holds (get_or (map.entries m) i d).0 (subst (λ (o : Option X). IsSome o) (sym (get-entries m (get_or (map.entries m) i d).0)) (found_at (map.entries m) i d lt)))

-- ---- the faces of effective next hops

module _ (routes : Routes) where
  -- each face in `costs` is the face of a next hop or of a route in `routes`
  abbrev pub AllLead : ByFace → Type 0
  AllLead costs = (face : ℕ) → IsSome (map.get costs face) → LeadsTo routes face

  none_leads : AllLead map.empty
  none_leads face some = absurd (never (subst (λ (o : Option ℕ). IsSome o) (get-empty nat_cmp face) some))
    where
      never : false ≡ true → ⊥
      never e = absurd cc

  either_found : (first second : List (ℕ × ℕ)) (face : ℕ) → IsSome (map.find nat_cmp face (first ++ second))
      → IsSome (map.find nat_cmp face first) ⊎ IsSome (map.find nat_cmp face second)
  either_found [] second face some = inr some
  either_found (e ∷ es) second face some =
      elim (eq_by_cmp nat_cmp face e.0) as (λ b. IsSome (cond b (Some e.1) (map.find nat_cmp face (es ++ second)))
      → IsSome (cond b (Some e.1) (map.find nat_cmp face es)) ⊎ IsSome (map.find nat_cmp face second)) [
        | true ↦ λ some. inl refl
        | false ↦ λ some. either_found es second face some
      ] some

  prefer_leads : (first second : ByFace) → AllLead first → AllLead second → AllLead (prefer first second)
  prefer_leads first second all more face some =
      elim (either_found (map.entries first) (map.entries second) face
      (subst (λ (o : Option ℕ). IsSome o) (get-from_entries nat_cmp_total (map.entries first ++ map.entries second) face) some)) [
        | inl here ↦ all face (subst (λ (o : Option ℕ). IsSome o) (sym (get-entries first face)) here)
        | inr there ↦ more face (subst (λ (o : Option ℕ). IsSome o) (sym (get-entries second face)) there)
      ]

  lesser_leads : (costs : ByFace) (face cost : ℕ) → LeadsTo routes face → AllLead costs → AllLead (with_lesser costs face cost)
  lesser_leads costs face cost leads all f some =
      by (eq_by_cmp nat_cmp f face) refl
      (subst (λ (o : Option ℕ). IsSome o) (get-insert nat_cmp_total costs face (lesser cost (map.get costs face)) f) some)
    where
      by : (b : Bool) → eq_by_cmp nat_cmp f face ≡ b → IsSome (cond b (Some (lesser cost (map.get costs face))) (map.get costs f)) → LeadsTo routes f
      by true is some = subst (LeadsTo routes) (sym (nat_cmp-IsAntisymmetric f face ((Equal-is (nat_cmp f face)).0 is))) leads
      by false is some = all f some

  module _ (wanted : Route → Bool) where
    abbrev more_costs : ByFace → RouteKey × Route → ByFace
    more_costs costs e = cond (wanted e.1) (with_lesser costs e.0.face e.1.cost) costs

    abbrev EntryLeads : RouteKey × Route → Type 0
    EntryLeads e = LeadsTo routes e.0.face

    least_lead : (es : List (RouteKey × Route)) (costs : ByFace) → All EntryLeads es → AllLead costs
        → AllLead (fold {A = RouteKey × Route} {B = ByFace} more_costs costs es)
    least_lead [] costs each all = all
    least_lead (e ∷ es) costs each all =
        least_lead es (more_costs costs e) (All-tail EntryLeads e es each)
        (elim (wanted e.1) as (λ b. AllLead (cond b (with_lesser costs e.0.face e.1.cost) costs)) [
          | true ↦ lesser_leads costs e.0.face e.1.cost (All-head EntryLeads e es each) all
          | false ↦ all
        ])

  -- In this module, `e` is the entry of `name`. Each face in the next hops of `e`, and each face in
  -- the costs of the routes of `e`, is the face of a next hop or of a route in `routes`.
  module _ (name : List Field) (e : Entry) (there : entry_at routes name ≡ e) where
    hops_lead : AllLead e.hops
    hops_lead face some = (name, inl (subst (λ (x : Entry). IsSome (map.get x.hops face)) (sym there) some))

    routes_lead : (wanted : Route → Bool) → AllLead (least_costs wanted (map.entries e.registered))
    routes_lead wanted =
        least_lead wanted (map.entries e.registered) map.empty
        (all_entries route_cmp-total (λ (k : RouteKey). LeadsTo routes k.face) e.registered
        (record { face = 0; origin = 0 }, record { cost = 0; flags = 0; deadline = None })
        (λ k some. (name, inr (k.origin, subst (λ (x : Entry). IsSome (map.get x.registered k)) (sym there) some)))) none_leads

  none_or : (b : Bool) (costs : ByFace) → AllLead costs → AllLead (cond b map.empty costs)
  none_or true costs all = none_leads
  none_or false costs all = all

  or_none : (b : Bool) (costs : ByFace) → AllLead costs → AllLead (cond b costs map.empty)
  or_none true costs all = all
  or_none false costs all = none_leads

  passed_lead : (name : List Field) (o : Option Entry) (above : ByFace) → map.get routes name ≡ o → AllLead above → AllLead (passed_on o above)
  passed_lead name None above is all = all
  passed_lead name (Some e) above is all =
      prefer_leads (least_costs is_child_inherit (map.entries e.registered)) (cond (has_capture e.registered) map.empty above)
      (routes_lead name e (ap (λ (o : Option Entry). unwrap_or o no_entry) is) is_child_inherit) (none_or (has_capture e.registered) above all)

  handed_lead : (name : List Field) (n : ℕ) → AllLead (handed_down routes name n)
  handed_lead name zero = none_leads
  handed_lead name (suc n) = passed_lead (take n name) (map.get routes (take n name)) (handed_down routes name n) refl (handed_lead name n)

  effective_lead : (name : List Field) → AllLead (effective routes name)
  effective_lead name =
      let e = entry_at routes name in
      let above = handed_down routes name (length name) in
      let inherited : ByFace = cond (does_inherit e.registered) above map.empty in
      prefer_leads e.hops (prefer (least_costs (λ _. true) (map.entries e.registered)) inherited)
      (hops_lead name e refl)
      (prefer_leads (least_costs (λ _. true) (map.entries e.registered)) inherited (routes_lead name e refl (λ _. true))
      (or_none (does_inherit e.registered) above (handed_lead name (length name))))

  longest_lead : (name : List Field) (n : ℕ) → AllLead (longest_costs routes name n)
  longest_lead name zero = or_none (map.contains_key routes (take 0 name)) (effective routes (take 0 name)) (effective_lead (take 0 name))
  longest_lead name (suc n) =
      let rest = longest_lead name n in
      elim (map.contains_key routes (take (suc n) name)) as (λ b. AllLead (cond b (effective routes (take (suc n) name)) (longest_costs routes name n))) [
        | true ↦ effective_lead (take (suc n) name)
        | false ↦ rest
      ]

  -- Take the longest prefix of `name` that has an entry. Each face in the costs of this prefix is
  -- the face of a next hop or of a route.
  pub longest_leads : (name : List Field) → AllLead (longest_costs routes name (length name))
  longest_leads name = longest_lead name (length name)
