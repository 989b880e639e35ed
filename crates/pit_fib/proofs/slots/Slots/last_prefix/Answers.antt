use Rattle.std.proofs.Common.{true, false, refl, ◌∙◌, Bor}
use Rattle.std.specs.Prelude.{Option}
use Rattle.std.specs.Option.{option_map}
use Rattle.pit_fib.specs.Flags.{flags}
use Rattle.pit_fib.specs.Last.{ask_in, later}
use Rattle.pit_fib.specs.Records.{InRecord}
use Rattle.pit_fib.proofs.Rows.{got_at}
use Rattle.pit_fib.proofs.slots.Slots.last_prefix.Goals as goal

pub returns : goal.returns
returns c =
    let inside = c.self.inside in
    let a = got_at true false inside.exact inside.exact_fresh inside.prefix inside.prefix_fresh c.args.self.now (flags true false) c.self.view_is refl refl in
    let b = got_at true true inside.exact inside.exact_fresh inside.prefix inside.prefix_fresh c.args.self.now (flags true true) c.self.view_is refl refl in
    let last : Option InRecord = option_map (λ (r : Bor InRecord). r.now) c.args.last in
    c.later.ensures
    ∙ (λ i. later (c.later-last.ensures i) (c.in_record_of-2.ensures i))
    ∙ (λ i. later (later last (c.in_record_of.ensures i)) (ask_in c.args.face inside.prefix_fresh))
    ∙ (λ i. later (later last (ask_in c.args.face (a i))) (ask_in c.args.face (b i)))
