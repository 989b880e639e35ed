use Rattle.std.proofs.Common.{arith}
use Rattle.pit_fib.proofs.RecordTallies.{slots_total}
use Rattle.pit_fib.proofs.slots.Slots.lower.Goals as goal

pub lower_faces-requires-clause-some : goal.lower_faces-requires-clause-some
lower_faces-requires-clause-some c = λ f.
    let all = slots_total c.self.inside.exact c.self.inside.exact_fresh c.self.inside.prefix c.self.inside.prefix_fresh c.args.self.now c.self.view_is f in
    let some = c.requires.some f in
    omega (arith, some, all)

pub lower_faces-requires-2-clause-some : goal.lower_faces-requires-2-clause-some
lower_faces-requires-2-clause-some c = λ f.
    let all = slots_total c.self.inside.exact c.self.inside.exact_fresh c.self.inside.prefix c.self.inside.prefix_fresh c.args.self.now c.self.view_is f in
    let lowered = c.lower_faces.ensures.lowered f in
    let some = c.requires.some f in
    omega (arith, some, all, lowered)

pub lower_faces-requires-3-clause-some : goal.lower_faces-requires-3-clause-some
lower_faces-requires-3-clause-some c = λ f.
    let all = slots_total c.self.inside.exact c.self.inside.exact_fresh c.self.inside.prefix c.self.inside.prefix_fresh c.args.self.now c.self.view_is f in
    let lowered = c.lower_faces.ensures.lowered f in
    let lowered-2 = c.lower_faces-2.ensures.lowered f in
    let some = c.requires.some f in
    omega (arith, some, all, lowered, lowered-2)

pub lower_faces-requires-4-clause-some : goal.lower_faces-requires-4-clause-some
lower_faces-requires-4-clause-some c = λ f.
    let all = slots_total c.self.inside.exact c.self.inside.exact_fresh c.self.inside.prefix c.self.inside.prefix_fresh c.args.self.now c.self.view_is f in
    let lowered = c.lower_faces.ensures.lowered f in
    let lowered-2 = c.lower_faces-2.ensures.lowered f in
    let lowered-3 = c.lower_faces-3.ensures.lowered f in
    let some = c.requires.some f in
    omega (arith, some, all, lowered, lowered-2, lowered-3)

pub returns-clause-lowered : goal.returns-clause-lowered
returns-clause-lowered c = λ f.
    let all = slots_total c.self.inside.exact c.self.inside.exact_fresh c.self.inside.prefix c.self.inside.prefix_fresh c.args.self.now c.self.view_is f in
    let lowered = c.lower_faces.ensures.lowered f in
    let lowered-2 = c.lower_faces-2.ensures.lowered f in
    let lowered-3 = c.lower_faces-3.ensures.lowered f in
    let lowered-4 = c.lower_faces-4.ensures.lowered f in
    omega (arith, all, lowered, lowered-2, lowered-3, lowered-4)
