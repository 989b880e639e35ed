use Rattle.std.proofs.Common.{◌≡◌, ◌-◌, ◌≤◌, refl, ap, ◌∙◌, arith}
use Rattle.pit_fib.specs.declared.tally.Left.{Left}
use Rattle.pit_fib.specs.Fib.{due_count, left_at, route_count}
use Rattle.pit_fib.proofs.FibEntries.{part_left}
use Rattle.pit_fib.proofs.FibTables.{fewer_all}
use Rattle.pit_fib.specs.Fib.{entry_left_at}
use Rattle.pit_fib.proofs.FibTally.{left_is_counted, none_due}
use Rattle.pit_fib.proofs.fib.Fib.due.Goals as goal

pub returns-then-now-self : goal.returns-then-now-self
returns-then-now-self c =
    let t = c.self.inside.entries.table in
    let same = ap (λ r. route_count r) (none_due t c.args.now c.self.inside.next_due c.self.invariant.0.some c.self.invariant.1.later c.if-now-self.true) in
    let none : 0 ≡ due_count c.args.now t = omega (arith, same) in
    none ∙ ap (λ s. due_count c.args.now s.table) c.self.view_is

-- the visitor has counted the routes that remain after the expiry at `now`, and the number of these
-- routes is at most the number of all routes
left : (c : goal.After-see_all) → (c.see_all.new.see.count ≡ route_count (left_at c.args.now c.self.inside.entries.table)) × (c.see_all.new.see.count ≤ c.self.inside.count)
left c =
    let t = c.self.inside.entries.table in
    let fewer = fewer_all t (entry_left_at c.args.now) (part_left c.args.now) in
    let most = c.self.invariant.0.registered in
    let start : Left = record { now = c.args.now; count = 0 } in
    let is : c.see_all.new.see.count ≡ route_count (left_at c.args.now t) = ap (λ (l : Left). l.count) c.see_all.ensures ∙ left_is_counted t start refl (omega (arith, fewer, most)) in
    let count = c.self.invariant.1.counted in
    (is, omega (arith, is, fewer, count))

pub overflow_sub-result : goal.overflow_sub-result
overflow_sub-result c = (left c).1

pub returns : goal.returns
returns c =
    let t = c.self.inside.entries.table in
    let is = (left c).0 in
    let count = c.self.invariant.1.counted in
    let same : c.self.inside.count - c.see_all.new.see.count ≡ due_count c.args.now t = omega (arith, is, count) in
    same ∙ ap (λ s. due_count c.args.now s.table) c.self.view_is
