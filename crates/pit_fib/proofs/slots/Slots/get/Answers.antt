use Rattle.std.proofs.Common.{◌≡◌, true, false, refl, ◌∙◌, Bor}
use Rattle.std.specs.Prelude.{Option, None, Some}
use Rattle.std.specs.Option.{option_map, option_copied}
use Rattle.pit_fib.specs.Kept.{Kept}
use Rattle.pit_fib.proofs.Rows.{got_at}
use Rattle.pit_fib.proofs.slots.Slots.get.Goals as goal

same : (o : Option (Bor Kept)) → option_map (λ e. e.now) o ≡ option_copied o
same None = refl
same (Some e) = refl

pub returns-in-true-true : goal.returns-in-true-true
returns-in-true-true c =
    let is = c.in-true-true in
    same c.as_ref.result ∙ c.as_ref.ensures.value
    ∙ got_at true true c.self.inside.exact c.self.inside.exact_fresh c.self.inside.prefix c.self.inside.prefix_fresh c.args.self.now c.args.flags c.self.view_is is.is-0 is.is-1

pub returns-in-true-false : goal.returns-in-true-false
returns-in-true-false c =
    let is = c.in-true-false in
    same c.as_ref-in-true-false.result ∙ c.as_ref-in-true-false.ensures.value
    ∙ got_at true false c.self.inside.exact c.self.inside.exact_fresh c.self.inside.prefix c.self.inside.prefix_fresh c.args.self.now c.args.flags c.self.view_is is.is-0 is.is-1

pub returns-in-false-true : goal.returns-in-false-true
returns-in-false-true c =
    let is = c.in-false-true in
    same c.as_ref-in-false-true.result ∙ c.as_ref-in-false-true.ensures.value
    ∙ got_at false true c.self.inside.exact c.self.inside.exact_fresh c.self.inside.prefix c.self.inside.prefix_fresh c.args.self.now c.args.flags c.self.view_is is.is-0 is.is-1

pub returns-in-false-false : goal.returns-in-false-false
returns-in-false-false c =
    let is = c.in-false-false in
    same c.as_ref-in-false-false.result ∙ c.as_ref-in-false-false.ensures.value
    ∙ got_at false false c.self.inside.exact c.self.inside.exact_fresh c.self.inside.prefix c.self.inside.prefix_fresh c.args.self.now c.args.flags c.self.view_is is.is-0 is.is-1
