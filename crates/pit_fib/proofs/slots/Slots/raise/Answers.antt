use Rattle.std.proofs.Common.{arith}
use Rattle.pit_fib.specs.Laws.{at_most}
use Rattle.pit_fib.proofs.RecordTallies.{slots_total}
use Rattle.pit_fib.proofs.slots.Slots.raise.Goals as goal

pub raise_faces-requires-clause-small : goal.raise_faces-requires-clause-small
raise_faces-requires-clause-small c = λ f.
    let all = slots_total c.self.inside.exact c.self.inside.exact_fresh c.self.inside.prefix c.self.inside.prefix_fresh c.args.self.now c.self.view_is f in
    let small = c.requires.small f in
    omega (arith, small, all)

pub raise_faces-requires-clause-room : goal.raise_faces-requires-clause-room
raise_faces-requires-clause-room c =
    at_most (λ f more.
    let all = slots_total c.self.inside.exact c.self.inside.exact_fresh c.self.inside.prefix c.self.inside.prefix_fresh c.args.self.now c.self.view_is f in
    omega (arith, more, all)) c.requires.room

pub raise_faces-requires-2-clause-small : goal.raise_faces-requires-2-clause-small
raise_faces-requires-2-clause-small c = λ f.
    let all = slots_total c.self.inside.exact c.self.inside.exact_fresh c.self.inside.prefix c.self.inside.prefix_fresh c.args.self.now c.self.view_is f in
    let raised = c.raise_faces.ensures.raised f in
    let small = c.requires.small f in
    omega (arith, small, all, raised)

pub raise_faces-requires-2-clause-room : goal.raise_faces-requires-2-clause-room
raise_faces-requires-2-clause-room c =
    at_most (λ f more.
    let all = slots_total c.self.inside.exact c.self.inside.exact_fresh c.self.inside.prefix c.self.inside.prefix_fresh c.args.self.now c.self.view_is f in
    let raised = c.raise_faces.ensures.raised f in
    omega (arith, more, all, raised)) c.requires.room

pub raise_faces-requires-3-clause-small : goal.raise_faces-requires-3-clause-small
raise_faces-requires-3-clause-small c = λ f.
    let all = slots_total c.self.inside.exact c.self.inside.exact_fresh c.self.inside.prefix c.self.inside.prefix_fresh c.args.self.now c.self.view_is f in
    let raised = c.raise_faces.ensures.raised f in
    let raised-2 = c.raise_faces-2.ensures.raised f in
    let small = c.requires.small f in
    omega (arith, small, all, raised, raised-2)

pub raise_faces-requires-3-clause-room : goal.raise_faces-requires-3-clause-room
raise_faces-requires-3-clause-room c =
    at_most (λ f more.
    let all = slots_total c.self.inside.exact c.self.inside.exact_fresh c.self.inside.prefix c.self.inside.prefix_fresh c.args.self.now c.self.view_is f in
    let raised = c.raise_faces.ensures.raised f in
    let raised-2 = c.raise_faces-2.ensures.raised f in
    omega (arith, more, all, raised, raised-2)) c.requires.room

pub raise_faces-requires-4-clause-small : goal.raise_faces-requires-4-clause-small
raise_faces-requires-4-clause-small c = λ f.
    let all = slots_total c.self.inside.exact c.self.inside.exact_fresh c.self.inside.prefix c.self.inside.prefix_fresh c.args.self.now c.self.view_is f in
    let raised = c.raise_faces.ensures.raised f in
    let raised-2 = c.raise_faces-2.ensures.raised f in
    let raised-3 = c.raise_faces-3.ensures.raised f in
    let small = c.requires.small f in
    omega (arith, small, all, raised, raised-2, raised-3)

pub raise_faces-requires-4-clause-room : goal.raise_faces-requires-4-clause-room
raise_faces-requires-4-clause-room c =
    at_most (λ f more.
    let all = slots_total c.self.inside.exact c.self.inside.exact_fresh c.self.inside.prefix c.self.inside.prefix_fresh c.args.self.now c.self.view_is f in
    let raised = c.raise_faces.ensures.raised f in
    let raised-2 = c.raise_faces-2.ensures.raised f in
    let raised-3 = c.raise_faces-3.ensures.raised f in
    omega (arith, more, all, raised, raised-2, raised-3)) c.requires.room

pub returns-clause-raised : goal.returns-clause-raised
returns-clause-raised c = λ f.
    let all = slots_total c.self.inside.exact c.self.inside.exact_fresh c.self.inside.prefix c.self.inside.prefix_fresh c.args.self.now c.self.view_is f in
    let raised = c.raise_faces.ensures.raised f in
    let raised-2 = c.raise_faces-2.ensures.raised f in
    let raised-3 = c.raise_faces-3.ensures.raised f in
    let raised-4 = c.raise_faces-4.ensures.raised f in
    omega (arith, all, raised, raised-2, raised-3, raised-4)
