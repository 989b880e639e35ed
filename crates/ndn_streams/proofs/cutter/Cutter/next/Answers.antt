use Rattle.std.proofs.Common.{◌++◌, ◌∙◌, ap, arith, sym, subst, List, ℕ, Ok, Some, refl}
use Rattle.ndn_streams.specs.Cutting.{FrontOf}
use Rattle.ndn_streams.specs.Reading.{front_of}
use Rattle.ndn_streams.proofs.Calls.{held_is, held_before, held_left, given_held, given_seen, answers_err, answers_some, begun}
use Rattle.ndn_streams.proofs.cutter.Cutter.next.Goals as goal

pub complete-rest-requires-clause-begun : goal.complete-rest-requires-clause-begun
complete-rest-requires-clause-begun c =
    let before = held_before c.self.inside.fault c.self.inside.given c.self.inside.buffer.items c.let_go.new.buffer.items c.in_default.not-Some c.self.invariant.1 c.let_go.ensures.items in
    let longer = begun c.let_go.new.buffer.items c.args.octets.now c.in-Ok-Some.size before (ap (λ (x : List ℕ). front_of (x ++ c.args.octets.now)) (sym c.deref.ensures.value) ∙ sym (rw c.in-Ok-Some.field-0-is at c.in-Ok-Some.ensures.exact)) in
    omega (arith, longer, c.let_go.new.buffer.ok.0)

pub invariant_of-self-in-Ok-Some : goal.invariant_of-self-in-Ok-Some
invariant_of-self-in-Ok-Some c = (omega (arith, c.complete-rest.ensures.capacity, c.let_go.ensures.capacity, c.self.invariant.0), given_held c.self.inside.fault c.complete-rest.new.buffer.items)

pub returns-in-Err : goal.returns-in-Err
returns-in-Err c =
    let is = held_is c.self.inside.fault c.self.inside.given c.self.inside.buffer.items c.let_go.new.buffer.items c.args.self.now c.in_default.not-Some c.self.view_is c.let_go.ensures.items in
    let same = c.deref.ensures.value in
    let p = answers_err c.args.self.now c.deref.result.now c.args.octets.now c.in-Err.fault (is ∙ ap held_left (sym same)) c.in-Err.ensures.exact c.in-Err.ensures.means in
    ((refl, (λ _. tt), p.leaves), record { leaves = tt; exact = p.exact; gives = p.gives; fewer = tt })

pub returns-else-is_empty : goal.returns-else-is_empty
returns-else-is_empty c =
    let is = held_is c.self.inside.fault c.self.inside.given c.self.inside.buffer.items c.let_go.new.buffer.items c.args.self.now c.in_default.not-Some c.self.view_is c.let_go.ensures.items in
    let before = held_before c.self.inside.fault c.self.inside.given c.self.inside.buffer.items c.let_go.new.buffer.items c.in_default.not-Some c.self.invariant.1 c.let_go.ensures.items in
    let same = c.deref.ensures.value in
    let front = (rw c.in-Ok-Some.field-0-is at c.in-Ok-Some.ensures.exact) ∙ ap (λ (x : List ℕ). front_of (x ++ c.args.octets.now)) same in
    let means = subst (λ (x : List ℕ). FrontOf (x ++ c.args.octets.now) (Ok (Some c.in-Ok-Some.size))) same (rw c.in-Ok-Some.field-0-is at c.in-Ok-Some.ensures.means) in
    let first = c.deref-in-Ok-Some.ensures.value ∙ c.complete-rest.ensures.items in
    let p = answers_some c.args.self.now c.let_go.new.buffer.items c.args.octets.now c.deref-in-Ok-Some.result.now c.complete-rest.result.now c.in-Ok-Some.size is before front means first c.complete-rest.ensures.rest in
    ((refl, (λ _. tt), given_seen c.self.inside.fault c.complete-rest.new.buffer.items c.in_default.not-Some ∙ p.leaves), record { leaves = tt; exact = p.exact; gives = p.gives; fewer = p.gives.4 })
