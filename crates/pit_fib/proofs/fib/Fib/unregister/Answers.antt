use Rattle.std.proofs.Common.{◌≡◌, ◌-◌, true, false, cond, sym, ap, subst, ◌∙◌, arith}
use Rattle.std.specs.FinMap.{contains_key, get, len, len-remove, remove}
use Rattle.std.specs.Option.{option_and_then}
use Rattle.std.specs.Vec.{vec_capacity}
use Rattle.ndn_names.specs.View.{components}
use Rattle.name_trie.specs.ByName.{with_value}
use Rattle.pit_fib.specs.declared.route.RouteKey.{RouteKey}
use Rattle.pit_fib.specs.Fib.{costs_at, entry_without_route, registered_at, route_count, without_route}
use Rattle.pit_fib.specs.Limits.{IsRoomFor, IsWithinFib, NoneEndsBefore}
use Rattle.pit_fib.specs.Route.{route_cmp-total}
use Rattle.pit_fib.proofs.FibEntries.{change_is, count_changed, held_in, no_route, part_without_route}
use Rattle.pit_fib.proofs.FibTables.{IsShrunk, shrunk_leads, count_remove, shrunk_later, shrunk_one, shrunk_room, within_one}
use Rattle.pit_fib.specs.Led.{Led, MayLead}
use Rattle.pit_fib.proofs.fib.Fib.unregister.Goals as goal
use Rattle.pit_fib.proofs.fib.Fib.unregister.Goals.{then-has_route, else-has_route}

pub overflow_sub-self : goal.overflow_sub-self
overflow_sub-self c =
    let t = c.self.inside.entries.table in
    let name = components c.args.name in
    let there : contains_key (registered_at t name) (record { face = c.args.face; origin = c.args.origin }) ≡ true =
    ap (λ s. contains_key (registered_at s.table name) (record { face = c.args.face; origin = c.args.origin })) c.self.view_is ∙ sym c.has_route.ensures.exact ∙ c.if-has_route.true in
    let held = held_in (registered_at t name) (record { face = c.args.face; origin = c.args.origin }) there in
    let less = count_remove t name in
    let count = c.self.invariant.1.counted in
    omega (arith, held, less, count)

left : (c : goal.After-change) → c.change.new.self.table ≡ without_route c.self.inside.entries.table (components c.args.name) (record { face = c.args.face; origin = c.args.origin })
left c =
    let t = c.self.inside.entries.table in
    let name = components c.args.name in
    let k : RouteKey = record { face = c.args.face; origin = c.args.origin } in
    elim c.if-has_route.branch [
      | then-has_route w ↦ c.change.ensures.table ∙ ap (λ f. with_value f.entries.table name (option_and_then (entry_without_route k) (get f.entries.table name))) w.self-inside-is ∙ ap (with_value t name) (change_is (entry_without_route k) t name (no_route k))
      | else-has_route w ↦ c.change.ensures.table ∙ ap (λ f. with_value f.entries.table name (option_and_then (entry_without_route k) (get f.entries.table name))) w.self-inside-is ∙ ap (with_value t name) (change_is (entry_without_route k) t name (no_route k))
    ]

pub returns-clause-table : goal.returns-clause-table
returns-clause-table c = left c ∙ ap (λ s. without_route s.table (components c.args.name) (record { face = c.args.face; origin = c.args.origin })) c.self.view_is

-- after the call, `count` is the number of routes in the new table
counted : (c : goal.After-change) → c.if-has_route.self-inside.count ≡ route_count c.change.new.self.table
counted c =
    let t = c.self.inside.entries.table in
    let name = components c.args.name in
    let k : RouteKey = record { face = c.args.face; origin = c.args.origin } in
    let there : contains_key (registered_at t name) k ≡ c.has_route.result = ap (λ s. contains_key (registered_at s.table name) k) c.self.view_is ∙ sym c.has_route.ensures.exact in
    let fewer = len-remove route_cmp-total (registered_at t name) k in
    let count = count_changed t name (record { hops = costs_at t name; registered = remove (registered_at t name) k }) in
    let now = ap (λ r. route_count r) (left c) in
    let was = c.self.invariant.1.counted in
    let less = count_remove t name in
    elim c.if-has_route.branch [
      | then-has_route w ↦
          let one : contains_key (registered_at t name) k ≡ true = there ∙ w.if-has_route.true in
          let n : len (remove (registered_at t name) k) ≡ len (registered_at t name) - 1 = fewer ∙ ap (λ b. cond b (len (registered_at t name) - 1) (len (registered_at t name))) one in
          let is = ap (λ f. f.count) w.self-inside-is in
          let held = held_in (registered_at t name) k one in
          omega (arith, n, count, now, was, is, held)
      | else-has_route w ↦
          let none : contains_key (registered_at t name) k ≡ false = there ∙ w.if-has_route.false in
          let n : len (remove (registered_at t name) k) ≡ len (registered_at t name) = fewer ∙ ap (λ b. cond b (len (registered_at t name) - 1) (len (registered_at t name))) none in
          let is = ap (λ f. f.count) w.self-inside-is in
          omega (arith, n, count, now, was, is)
    ]

-- `next_due`, the capacity of `room`, the prepared name and `led` are unchanged
rest : (c : goal.After-change) → (c.if-has_route.self-inside.next_due ≡ c.self.inside.next_due) × (vec_capacity c.if-has_route.self-inside.room ≡ vec_capacity c.self.inside.room) × (c.if-has_route.self-inside.entries.prepared ≡ c.self.inside.entries.prepared) × (c.if-has_route.self-inside.led ≡ c.self.inside.led)
rest c =
    elim c.if-has_route.branch [
      | then-has_route w ↦ (ap (λ f. f.next_due) w.self-inside-is, ap (λ f. vec_capacity f.room) w.self-inside-is, ap (λ f. f.entries.prepared) w.self-inside-is, ap (λ f. f.led) w.self-inside-is)
      | else-has_route w ↦ (ap (λ f. f.next_due) w.self-inside-is, ap (λ f. vec_capacity f.room) w.self-inside-is, ap (λ f. f.entries.prepared) w.self-inside-is, ap (λ f. f.led) w.self-inside-is)
    ]

pub invariant_of-self : goal.invariant_of-self
invariant_of-self c =
    let t = c.self.inside.entries.table in
    let new = c.change.new.self.table in
    let name = components c.args.name in
    let k : RouteKey = record { face = c.args.face; origin = c.args.origin } in
    let g = entry_without_route k in
    let inside = c.self.invariant in
    let is : new ≡ with_value t name (option_and_then g (get t name)) = left c ∙ sym (ap (with_value t name) (change_is g t name (no_route k))) in
    let shrunk : IsShrunk t new = subst (λ n. IsShrunk t n) (sym is) (shrunk_one t inside.0 name g (part_without_route k)) in
    let same = rest c in (
      subst (λ n. IsWithinFib n) (sym is) (within_one t inside.0 name g (part_without_route k)),
      record { counted = counted c; later = subst (λ n. NoneEndsBefore n new) (sym same.0) (shrunk_later t new c.self.inside.next_due shrunk inside.1.later) },
      subst (λ n. IsRoomFor new n c.change.new.self.prepared) (sym same.1)
          (subst (λ p. IsRoomFor new (vec_capacity c.self.inside.room) p) (sym (c.change.ensures.prepared ∙ same.2))
          (shrunk_room t new (vec_capacity c.self.inside.room) c.self.inside.entries.prepared shrunk inside.2)),
      (λ f leads. subst (λ (l : Led). MayLead l f) (sym same.3) (c.self.invariant.3 f (shrunk_leads t new shrunk f leads))),
    )
