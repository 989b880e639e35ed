-- A new node is sound.
use Rattle.std.proofs.Common.{◌≡◌, ℕ, true, false, List, [], Option, None, unwrap_or, sym, ap, subst, ◌∙◌, ◌⊎◌, ◌≤◌, inl, inr, arith}
use Rattle.std.specs.Prelude.{IsSome, length}
use Rattle.std.specs.Ordering.{nat_cmp}
use Rattle.std.specs.FinMap as fin
use Rattle.std.specs.FinMap.{get-empty}
use Rattle.ndn_packets.specs.Key.{key_cmp}
use Rattle.pit_fib.specs.FaceSet.{IsRising}
use Rattle.pit_fib.specs.declared.route.RouteKey.{RouteKey}
use Rattle.pit_fib.specs.Fib.{LeadsTo, Routes}
use Rattle.pit_fib.specs.Pit.{HasRecord}
use Rattle.pit_fib.specs.Records.{Pending, Records, no_records}
use Rattle.pit_fib.specs.declared.face_set.TheConstants.{MAX_FACES}
use Rattle.forwarder.specs.OpenFaces.{FaceEntry, numbers}
use Rattle.forwarder.specs.Node.{NodeState}
use Rattle.forwarder.specs.State.{IsSound}
use Rattle.forwarder.proofs.RouteChanges.{cost_in, cost_nowhere, route_in, route_nowhere}

none_there : {A : Type 0} {X : Type 0} (o : Option X) → o ≡ None → IsSome o → A
none_there {A} {X} o none some = absurd (never (subst (λ (p : Option X). IsSome p) none some))
  where
    never : false ≡ true → ⊥
    never e = absurd cc

no_record : {A : Type 0} (r : Records) (f : ℕ) → r ≡ no_records → (IsSome (fin.get r.in_records f) ⊎ IsSome (fin.get r.out_records f)) → A
no_record r f is (inl asks) = none_there (fin.get r.in_records f) (ap (λ (r : Records). fin.get r.in_records f) is ∙ get-empty nat_cmp f) asks
no_record r f is (inr asked) = none_there (fin.get r.out_records f) (ap (λ (r : Records). fin.get r.out_records f) is ∙ get-empty nat_cmp f) asked

abbrev no_routes : Routes
no_routes = fin.empty

no_route : {A : Type 0} (face : ℕ) → LeadsTo no_routes face → A
no_route face (name, inl some) = none_there (cost_in no_routes name face) (cost_nowhere name face) some
no_route face (name, inr (origin, some)) =
    let key : RouteKey = record { face = face; origin = origin } in
    none_there (route_in no_routes name key) (route_nowhere name key) some

pub new_sound : (s : NodeState) → s.policy.faces ≡ [] → s.pending ≡ fin.empty → s.policy.routes ≡ fin.empty → IsSound s
new_sound s faces pending routes = record {
  few = subst (λ (fs : List FaceEntry). length fs ≤ MAX_FACES) (sym faces) (omega arith);
  rising = subst (λ (fs : List FaceEntry). IsRising (numbers fs)) (sym faces) tt;
  records = λ f has. let there = subst (λ (t : Pending). HasRecord t f) pending has in
      no_record (unwrap_or (fin.get {R = key_cmp} fin.empty there.0) no_records) f (ap (λ (o : Option Records). unwrap_or o no_records) (get-empty key_cmp there.0)) there.1;
  routes = λ face leads. no_route face (subst (λ (r : Routes). LeadsTo r face) routes leads);
}
