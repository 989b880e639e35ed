use Rattle.std.proofs.Common.{◌≡◌, ◌≤◌, ◌+◌, ap, sym, arith}
use Rattle.std.specs.Prelude.{Option, None, Some}
use Rattle.pit_fib.specs.Laws.{at_most, fewer_fit}
use Rattle.pit_fib.specs.RecordTally.{RecordTally, counts, number, sum}
use Rattle.pit_fib.proofs.record_tally.RecordTallyTallyRow.raise.Goals as goal

pub overflow_add-self : goal.overflow_add-self
overflow_add-self c =
    let small = c.requires.small None in
    let is : c.self.inside.keys ≡ c.args.self.now.keys = ap (λ (t : RecordTally). t.keys) c.self.view_is in
    let size = c.count.ensures in
    omega (arith, small, is, size)

pub raise-requires-clause-small : goal.raise-requires-clause-small
raise-requires-clause-small c = λ f.
    let small = c.requires.small (Some f) in
    let is : number c.self.inside.faces f ≡ number c.args.self.now.faces f = ap (λ (t : RecordTally). number t.faces f) c.self.view_is in
    omega (arith, small, is)

pub raise-requires-clause-room : goal.raise-requires-clause-room
raise-requires-clause-room c =
    at_most (λ f more.
    let is : number c.self.inside.faces f ≡ number c.args.self.now.faces f = ap (λ (t : RecordTally). number t.faces f) c.self.view_is in
    omega (arith, more, is)) c.requires.faces

pub invariant_of-self : goal.invariant_of-self
invariant_of-self c = (
  c.raise.ensures.positive,
  fewer_fit _ _ (λ i. elim i as (λ i. sum (record { keys = c.self.inside.keys + c.count.result; faces = c.raise.new.faces }) i ≤ sum c.args.self.now i + counts i c.args.row.now) [
    | None ↦ (let is : c.self.inside.keys ≡ c.args.self.now.keys = ap (λ (t : RecordTally). t.keys) c.self.view_is in let size = c.count.ensures in omega (arith, is, size))
    | (Some f) ↦
        (let is : number c.self.inside.faces f ≡ number c.args.self.now.faces f = ap (λ (t : RecordTally). number t.faces f) c.self.view_is in
        let raised = c.raise.ensures.raised f in
        omega (arith, is, raised))
  ]) c.requires,
)
