use Rattle.std.proofs.Common.{◌≡◌, ap, sym, ◌∙◌, arith}
use Rattle.pit_fib.specs.RecordTally.{asks, asks_once, found}
use Rattle.pit_fib.proofs.RecordTallies.{found_entries}
use Rattle.pit_fib.proofs.entry.lower_faces.Goals as goal

pub lower_each-requires-clause-some : goal.lower_each-requires-clause-some
lower_each-requires-clause-some c = λ f.
    let at : found c.rows.result.now f ≡ asks_once c.args.entry.now f =
    ap (λ l. found l f) c.rows.ensures.rows ∙ found_entries c.entry.inside.in_records.values f ∙ ap (asks f) c.entry.view_is ∙ ap (λ o. asks_once o f) (sym c.in-Some.is) in
    let some = c.requires.some f in
    omega (arith, at, some)

pub returns-in-Some-clause-lowered : goal.returns-in-Some-clause-lowered
returns-in-Some-clause-lowered c = λ f.
    let at : found c.rows.result.now f ≡ asks_once c.args.entry.now f =
    ap (λ l. found l f) c.rows.ensures.rows ∙ found_entries c.entry.inside.in_records.values f ∙ ap (asks f) c.entry.view_is ∙ ap (λ o. asks_once o f) (sym c.in-Some.is) in
    let lowered = c.lower_each.ensures.lowered f in
    omega (arith, at, lowered)
