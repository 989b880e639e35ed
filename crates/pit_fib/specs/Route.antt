-- Registered routes (NFD Management, "RIB Management").
use Rattle.std.specs.Prelude.{◌≡◌, ℕ, ◌%◌, ◌/◌, Bool, false, Option, None, Some, nat_le, ◌==◌, refl, if◌then◌else◌}
use Rattle.std.specs.Coded.{Coded, code_by, coded×, coded_option, coded_ℕ}
use Rattle.std.specs.declared.cmp.Ordering.{Ordering}
use Rattle.std.specs.Cmp.{IsTotalOrder, nat_cmp_total, on_total, then_total}
use Rattle.std.specs.FinMap.{FinMap, IsAntisymmetric, code, nat_cmp-IsAntisymmetric}
use Rattle.std.specs.Ordering.{nat_cmp, on, then_cmp}
use Rattle.ndn_names.specs.Key.{both_tie}
use Rattle.pit_fib.specs.declared.route.Route.{Route}
use Rattle.pit_fib.specs.declared.route.RouteKey.{RouteKey}

-- routes are ordered by face, then by origin
abbrev pub route_cmp : RouteKey → RouteKey → Ordering
route_cmp = then_cmp (on (λ k. k.face) nat_cmp) (on (λ k. k.origin) nat_cmp)

pub route_cmp-total : IsTotalOrder route_cmp
route_cmp-total =
    then_total (on_total (λ (k : RouteKey). k.face) nat_cmp_total)
    (on_total (λ (k : RouteKey). k.origin) nat_cmp_total)

pub route_cmp-antisymmetric : IsAntisymmetric route_cmp
route_cmp-antisymmetric x y e =
    let parts = both_tie _ _ e in
    let faces : x.face ≡ y.face = nat_cmp-IsAntisymmetric x.face y.face parts.0 in
    let origins : x.origin ≡ y.origin = nat_cmp-IsAntisymmetric x.origin y.origin parts.1 in
    λ i. record { face = faces i; origin = origins i }

-- the routes of a name, by face and origin
abbrev pub Registered : Type 0
Registered = FinMap route_cmp Route

abbrev pub route_key_code : Coded RouteKey
route_key_code =
    code_by (ℕ × ℕ) (coded× coded_ℕ coded_ℕ)
    (λ k. (k.face, k.origin)) (λ p. record { face = p.0; origin = p.1 }) (λ _. refl)

abbrev pub route_code : Coded Route
route_code =
    code_by (ℕ × (ℕ × Option ℕ)) (coded× coded_ℕ (coded× coded_ℕ (coded_option coded_ℕ)))
    (λ r. (r.cost, (r.flags, r.deadline)))
    (λ p. record { cost = p.0; flags = p.1.0; deadline = p.1.1 }) (λ _. refl)

abbrev pub registered_code : Coded Registered
registered_code = code route_key_code route_code

-- whether the route is a child-inherit route: the bit of value 1 in its flags is set
abbrev pub is_child_inherit : Route → Bool
is_child_inherit r = r.flags % 2 == 1

-- whether the route is a capture route: the bit of value 2 in its flags is set
abbrev pub is_capture : Route → Bool
is_capture r = r.flags / 2 % 2 == 1

-- whether there is a deadline, and it is `now` or earlier
abbrev pub has_come : ℕ → Option ℕ → Bool
has_come now None = false
has_come now (Some deadline) = nat_le deadline now

-- whether the route expires by the moment `now`
abbrev pub is_due : ℕ → Route → Bool
is_due now r = has_come now r.deadline

-- the route, or None if the route expires by the moment `now`
abbrev pub until_due : ℕ → Route → Option Route
until_due now r = if is_due now r then None else Some r
