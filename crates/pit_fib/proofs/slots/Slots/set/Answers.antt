use Rattle.std.proofs.Common.{true, false, ◌∙◌}
use Rattle.pit_fib.proofs.Rows.{put_at}
use Rattle.pit_fib.proofs.slots.Slots.set.Goals as goal
use Rattle.pit_fib.proofs.slots.Slots.set.Goals.{in-Some-1, in-None-1}
use Rattle.pit_fib.proofs.slots.Slots.set.Goals.{in-Some-2, in-None-2}
use Rattle.pit_fib.proofs.slots.Slots.set.Goals.{in-Some-3, in-None-3}
use Rattle.pit_fib.proofs.slots.Slots.set.Goals.{in-Some-4, in-None-4}

pub returns-in-true-true : goal.returns-in-true-true
returns-in-true-true c =
    let is = c.in-true-true in
    let put = put_at true true c.args.entry c.self.inside.exact c.self.inside.exact_fresh c.self.inside.prefix c.self.inside.prefix_fresh c.args.self.now c.args.flags c.self.view_is is.is-0 is.is-1 in
    elim c.match-self.branch [ in-Some-1 w ↦ w.self-is ∙ put | in-None-1 w ↦ w.self-is ∙ put ]

pub returns-in-true-false : goal.returns-in-true-false
returns-in-true-false c =
    let is = c.in-true-false in
    let put = put_at true false c.args.entry c.self.inside.exact c.self.inside.exact_fresh c.self.inside.prefix c.self.inside.prefix_fresh c.args.self.now c.args.flags c.self.view_is is.is-0 is.is-1 in
    elim c.match-self-2.branch [ in-Some-2 w ↦ w.self-is ∙ put | in-None-2 w ↦ w.self-is ∙ put ]

pub returns-in-false-true : goal.returns-in-false-true
returns-in-false-true c =
    let is = c.in-false-true in
    let put = put_at false true c.args.entry c.self.inside.exact c.self.inside.exact_fresh c.self.inside.prefix c.self.inside.prefix_fresh c.args.self.now c.args.flags c.self.view_is is.is-0 is.is-1 in
    elim c.match-self-3.branch [ in-Some-3 w ↦ w.self-is ∙ put | in-None-3 w ↦ w.self-is ∙ put ]

pub returns-in-false-false : goal.returns-in-false-false
returns-in-false-false c =
    let is = c.in-false-false in
    let put = put_at false false c.args.entry c.self.inside.exact c.self.inside.exact_fresh c.self.inside.prefix c.self.inside.prefix_fresh c.args.self.now c.args.flags c.self.view_is is.is-0 is.is-1 in
    elim c.match-self-4.branch [ in-Some-4 w ↦ w.self-is ∙ put | in-None-4 w ↦ w.self-is ∙ put ]
