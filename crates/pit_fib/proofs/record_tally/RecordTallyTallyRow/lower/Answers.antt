use Rattle.std.proofs.Common.{◌≡◌, ◌≤◌, ◌-◌, ap, sym, arith}
use Rattle.std.specs.Prelude.{Option, None, Some}
use Rattle.pit_fib.specs.Laws.{fewer_fit}
use Rattle.pit_fib.specs.RecordTally.{RecordTally, counts, number, sum}
use Rattle.pit_fib.proofs.record_tally.RecordTallyTallyRow.lower.Goals as goal

pub overflow_sub-self : goal.overflow_sub-self
overflow_sub-self c =
    let most = c.requires None in
    let is : c.self.inside.keys ≡ c.args.self.now.keys = ap (λ (t : RecordTally). t.keys) c.self.view_is in
    let size = c.count.ensures in
    omega (arith, most, is, size)

pub lower-requires-clause-some : goal.lower-requires-clause-some
lower-requires-clause-some c = λ f.
    let most = c.requires (Some f) in
    let is : number c.self.inside.faces f ≡ number c.args.self.now.faces f = ap (λ (t : RecordTally). number t.faces f) c.self.view_is in
    omega (arith, most, is)

pub invariant_of-self : goal.invariant_of-self
invariant_of-self c = (
  c.lower.ensures.positive,
  fewer_fit _ _ (λ i. elim i as (λ i. sum (record { keys = c.self.inside.keys - c.count.result; faces = c.lower.new.faces }) i ≤ sum (record { keys = c.self.inside.keys; faces = c.self.inside.faces }) i) [
    | None ↦ omega arith
    | (Some f) ↦ (let lowered = c.lower.ensures.lowered f in omega (arith, lowered))
  ]) c.self.invariant.1,
)
