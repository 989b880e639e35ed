use Rattle.std.proofs.Common.{◌≡◌, sym, ap, subst, ◌∙◌, arith}
use Rattle.std.specs.Vec.{vec_capacity}
use Rattle.pit_fib.specs.Fib.{due_count, entry_left_at, left_at, route_count}
use Rattle.pit_fib.specs.Limits.{IsRoomFor, IsWithinFib}
use Rattle.pit_fib.proofs.FibEntries.{part_left}
use Rattle.pit_fib.proofs.FibTables.{IsShrunk, shrunk_leads, fewer_all, shrunk_all, shrunk_room, within_all}
use Rattle.pit_fib.proofs.FibTally.{none_due}
use Rattle.pit_fib.proofs.fib.Fib.expire.Goals as goal

pub returns-then-now-self-clause-table : goal.returns-then-now-self-clause-table
returns-then-now-self-clause-table c =
    let t = c.self.inside.entries.table in
    let same = none_due t c.args.now c.self.inside.next_due c.self.invariant.0.some c.self.invariant.1.later c.if-now-self.true in
    ap (λ s. s.table) (sym c.self.view_is) ∙ sym same ∙ ap (λ s. left_at c.args.now s.table) c.self.view_is

pub returns-then-now-self-clause-gone : goal.returns-then-now-self-clause-gone
returns-then-now-self-clause-gone c =
    let t = c.self.inside.entries.table in
    let same = ap (λ r. route_count r) (none_due t c.args.now c.self.inside.next_due c.self.invariant.0.some c.self.invariant.1.later c.if-now-self.true) in
    let none : 0 ≡ due_count c.args.now t = omega (arith, same) in
    none ∙ ap (λ s. due_count c.args.now s.table) c.self.view_is

pub tally-tally-requires : goal.tally-tally-requires
tally-tally-requires c =
    let t = c.self.inside.entries.table in
    (subst (λ n. IsWithinFib n) (sym c.change_all.ensures.table) (within_all t c.self.invariant.0 (entry_left_at c.args.now) (part_left c.args.now))).registered

pub overflow_sub-result : goal.overflow_sub-result
overflow_sub-result c =
    let t = c.self.inside.entries.table in
    let fewer = fewer_all t (entry_left_at c.args.now) (part_left c.args.now) in
    let now = ap (λ r. route_count r) c.change_all.ensures.table in
    let is = c.tally-tally.ensures.counted in
    let was = c.self.invariant.1.counted in
    omega (arith, fewer, now, is, was)

pub invariant_of-self : goal.invariant_of-self
invariant_of-self c =
    let t = c.self.inside.entries.table in
    let new = c.change_all.new.self.table in
    let is = c.change_all.ensures.table in
    let shrunk : IsShrunk t new = subst (λ n. IsShrunk t n) (sym is) (shrunk_all t (entry_left_at c.args.now) (part_left c.args.now)) in (
      subst (λ n. IsWithinFib n) (sym is) (within_all t c.self.invariant.0 (entry_left_at c.args.now) (part_left c.args.now)),
      c.tally-tally.ensures,
      subst (λ p. IsRoomFor new (vec_capacity c.self.inside.room) p) (sym c.change_all.ensures.prepared)
          (shrunk_room t new (vec_capacity c.self.inside.room) c.self.inside.entries.prepared shrunk c.self.invariant.2),
      (λ f leads. c.self.invariant.3 f (shrunk_leads t new shrunk f leads)),
    )
