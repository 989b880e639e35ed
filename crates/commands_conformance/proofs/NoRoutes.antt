-- In an empty table no face has a next hop or a route. Therefore each face that has a next hop or a
-- route is up.
use Rattle.std.proofs.Common.{◌≡◌, ℕ, List, ap, inl, inr, ◌∙◌}
use Rattle.std.specs.Prelude.{Option, None, IsSome, unwrap_or}
use Rattle.std.specs.FinMap as map
use Rattle.std.specs.FinMap.{get-empty}
use Rattle.std.specs.Ordering.{nat_cmp}
use Rattle.ndn_tlv.specs.Element.{Field}
use Rattle.ndn_names.specs.Order.{name_cmp}
use Rattle.pit_fib.specs.Fib.{Entry, Routes, entry_at, no_entry}
use Rattle.pit_fib.specs.Route.{route_cmp}
use Rattle.mgmt_core.specs.Tables.{AllAreUp}

none_there : {X A : Type 0} (o : Option X) → o ≡ None → IsSome o → A
none_there o e some = absurd cc

no_entries : (routes : Routes) → routes ≡ map.empty → (name : List Field) → entry_at routes name ≡ no_entry
no_entries routes e name =
    ap (λ (t : Routes). entry_at t name) e ∙ ap (λ (o : Option Entry). unwrap_or o no_entry) (get-empty name_cmp name)

pub no_routes : (routes : Routes) (up : List ℕ) → routes ≡ map.empty → AllAreUp routes up
no_routes routes up e face (name, inl some) =
    none_there (map.get (entry_at routes name).hops face)
    (ap (λ (x : Entry). map.get x.hops face) (no_entries routes e name) ∙ get-empty nat_cmp face) some
no_routes routes up e face (name, inr (origin, some)) =
    none_there (map.get (entry_at routes name).registered (record { face = face; origin = origin }))
    (ap (λ (x : Entry). map.get x.registered (record { face = face; origin = origin })) (no_entries routes e name)
    ∙ get-empty route_cmp (record { face = face; origin = origin })) some
