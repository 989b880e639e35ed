use Rattle.std.proofs.Common.{true, false, ap, ◌∙◌}
use Rattle.std.specs.Prelude.{Option}
use Rattle.pit_fib.specs.Kept.{Kept, by_flags, row_of}
use Rattle.pit_fib.proofs.Rows.{got_at, taken_at}
use Rattle.pit_fib.proofs.slots.Slots.take.Goals as goal

pub returns-in-true-true-clause-value : goal.returns-in-true-true-clause-value
returns-in-true-true-clause-value c =
    let is = c.in-true-true in
    c.take.ensures.value ∙ got_at true true c.self.inside.exact c.self.inside.exact_fresh c.self.inside.prefix c.self.inside.prefix_fresh c.args.self.now c.args.flags c.self.view_is is.is-0 is.is-1

pub returns-in-true-true-clause-left : goal.returns-in-true-true-clause-left
returns-in-true-true-clause-left c =
    let is = c.in-true-true in
    ap (λ (o : Option Kept). row_of (by_flags c.self.inside.exact c.self.inside.exact_fresh c.self.inside.prefix o)) c.take.ensures.after
    ∙ taken_at true true c.self.inside.exact c.self.inside.exact_fresh c.self.inside.prefix c.self.inside.prefix_fresh c.args.self.now c.args.flags c.self.view_is is.is-0 is.is-1

pub returns-in-true-false-clause-value : goal.returns-in-true-false-clause-value
returns-in-true-false-clause-value c =
    let is = c.in-true-false in
    c.take-in-true-false.ensures.value ∙ got_at true false c.self.inside.exact c.self.inside.exact_fresh c.self.inside.prefix c.self.inside.prefix_fresh c.args.self.now c.args.flags c.self.view_is is.is-0 is.is-1

pub returns-in-true-false-clause-left : goal.returns-in-true-false-clause-left
returns-in-true-false-clause-left c =
    let is = c.in-true-false in
    ap (λ (o : Option Kept). row_of (by_flags c.self.inside.exact c.self.inside.exact_fresh o c.self.inside.prefix_fresh)) c.take-in-true-false.ensures.after
    ∙ taken_at true false c.self.inside.exact c.self.inside.exact_fresh c.self.inside.prefix c.self.inside.prefix_fresh c.args.self.now c.args.flags c.self.view_is is.is-0 is.is-1

pub returns-in-false-true-clause-value : goal.returns-in-false-true-clause-value
returns-in-false-true-clause-value c =
    let is = c.in-false-true in
    c.take-in-false-true.ensures.value ∙ got_at false true c.self.inside.exact c.self.inside.exact_fresh c.self.inside.prefix c.self.inside.prefix_fresh c.args.self.now c.args.flags c.self.view_is is.is-0 is.is-1

pub returns-in-false-true-clause-left : goal.returns-in-false-true-clause-left
returns-in-false-true-clause-left c =
    let is = c.in-false-true in
    ap (λ (o : Option Kept). row_of (by_flags c.self.inside.exact o c.self.inside.prefix c.self.inside.prefix_fresh)) c.take-in-false-true.ensures.after
    ∙ taken_at false true c.self.inside.exact c.self.inside.exact_fresh c.self.inside.prefix c.self.inside.prefix_fresh c.args.self.now c.args.flags c.self.view_is is.is-0 is.is-1

pub returns-in-false-false-clause-value : goal.returns-in-false-false-clause-value
returns-in-false-false-clause-value c =
    let is = c.in-false-false in
    c.take-in-false-false.ensures.value ∙ got_at false false c.self.inside.exact c.self.inside.exact_fresh c.self.inside.prefix c.self.inside.prefix_fresh c.args.self.now c.args.flags c.self.view_is is.is-0 is.is-1

pub returns-in-false-false-clause-left : goal.returns-in-false-false-clause-left
returns-in-false-false-clause-left c =
    let is = c.in-false-false in
    ap (λ (o : Option Kept). row_of (by_flags o c.self.inside.exact_fresh c.self.inside.prefix c.self.inside.prefix_fresh)) c.take-in-false-false.ensures.after
    ∙ taken_at false false c.self.inside.exact c.self.inside.exact_fresh c.self.inside.prefix c.self.inside.prefix_fresh c.args.self.now c.args.flags c.self.view_is is.is-0 is.is-1
