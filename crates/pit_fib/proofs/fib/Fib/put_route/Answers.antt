use Rattle.std.proofs.Common.{◌≡◌, ◌+◌, ◌<◌, ℕ, Bool, cond, sym, ap, subst, ◌∙◌, arith, inl, inr}
use Rattle.std.specs.Prelude.{None}
use Rattle.std.specs.Vec.{vec_capacity}
use Rattle.std.specs.FinMap.{contains_key, insert, len}
use Rattle.ndn_names.specs.View.{components}
use Rattle.pit_fib.specs.Led.{MayLead}
use Rattle.pit_fib.proofs.Leading.{set_leads}
use Rattle.pit_fib.specs.Fib.{Entry, HasRoomFor, LeadsTo, entry_at, entry_with_route, registered_at, route_refusal, with_route}
use Rattle.pit_fib.specs.Limits.{IsRoomFor, IsTallied, IsWithinFib}
use Rattle.pit_fib.proofs.FibEntries.{route_leads, route_stands}
use Rattle.pit_fib.proofs.FibTables.{within_set}
use Rattle.pit_fib.proofs.FibRoutes.{count_route, few_routes, later_route, names_if_taken, route_new, route_shallow, set_route}
use Rattle.pit_fib.proofs.fib.Fib.put_route.Goals as goal

pub invariant_of-self-2 : goal.invariant_of-self-2
invariant_of-self-2 c =
    let t = c.self.inside.entries.table in
    let name = components c.args.name in
    let key = c.args.key in
    let e = entry_with_route key c.args.route (entry_at t name) in
    let inside = c.self.invariant in
    let room : HasRoomFor t key.face = subst (λ s. HasRoomFor s.table key.face) (sym c.self.view_is) c.requires.room in
    let none : route_refusal t name key ≡ None = ap (λ s. route_refusal s.table name key) c.self.view_is ∙ c.requires.taken in
    let is_new : c.has_route-is_new.result ≡ contains_key (registered_at t name) key = c.has_route-is_new.ensures.exact ∙ ap (λ s. contains_key (registered_at s.table name) key) (sym c.self.view_is) in
    let count = count_route t name key c.args.route in
    let one : c.from.result ≡ cond (contains_key (registered_at t name) key) 0 1 = route_new c.from.result c.has_route-is_new.result c.from.ensures ∙ ap (λ (b : Bool). cond {A = ℕ} b 0 1) is_new in
    let len_is : c.routes_of-len.result ≡ len (registered_at t name) = c.routes_of-len.ensures.exact ∙ ap (λ s. len (registered_at s.table name)) (sym c.self.view_is) in
    let fits : len (registered_at t name) < vec_capacity c.in-Ok.room = (let ok = c.in-Ok.ensures.ok in omega (arith, ok, len_is)) in
    let is : c.put_with.new.self.table ≡ with_route t name key c.args.route =
    c.in_ok-put_with.ensures.ok ∙ ap (λ (e : Entry). insert t name e) (set_route (vec_capacity c.in-Ok.room) key c.args.route (entry_at t name) fits) in (
      subst (λ n. IsWithinFib n) (sym is)
          (within_set t inside.0 name e key.face (route_shallow t name key none) (names_if_taken t name key none) (route_stands key c.args.route (entry_at t name)) (few_routes t name key none c.args.route inside.0) (route_leads key c.args.route (entry_at t name)) room),
      subst (λ n. IsTallied n (c.self.inside.count + c.from.result) c.sooner-self-inside.result) (sym is)
          (record {
            counted = (let was = inside.1.counted in omega (arith, was, count, one));
            later = later_route t name key c.args.route c.self.inside.next_due c.sooner-self-inside.result c.sooner-self-inside.ensures inside.0 inside.1.later;
          }),
      subst (λ p. IsRoomFor c.put_with.new.self.table (vec_capacity c.replace-room.new.dest) p) (sym c.put_with.ensures.ended) tt,
      (λ f leads. elim (set_leads t inside.0 name e key.face (route_leads key c.args.route (entry_at t name)) f (subst (λ n. LeadsTo n f) is leads)) [
        | (inl was) ↦ c.add.ensures.kept f (inside.3 f was)
        | (inr same) ↦ subst (MayLead c.add.new.self) (sym same) c.add.ensures.added
      ]),
    )
