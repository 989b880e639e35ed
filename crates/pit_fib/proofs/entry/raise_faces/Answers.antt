use Rattle.std.proofs.Common.{◌≡◌, ap, sym, ◌∙◌, arith}
use Rattle.pit_fib.specs.RecordTally.{asks, asks_once, found}
use Rattle.pit_fib.specs.Laws.{at_most}
use Rattle.pit_fib.proofs.RecordTallies.{found_entries}
use Rattle.pit_fib.proofs.entry.raise_faces.Goals as goal

pub raise_each-requires-clause-small : goal.raise_each-requires-clause-small
raise_each-requires-clause-small c = λ f.
    let at : found c.rows.result.now f ≡ asks_once c.args.entry.now f =
    ap (λ l. found l f) c.rows.ensures.rows ∙ found_entries c.entry.inside.in_records.values f ∙ ap (asks f) c.entry.view_is ∙ ap (λ o. asks_once o f) (sym c.in-Some.is) in
    let small = c.requires.small f in
    omega (arith, at, small)

pub raise_each-requires-clause-room : goal.raise_each-requires-clause-room
raise_each-requires-clause-room c =
    at_most (λ f more.
    let at : found c.rows.result.now f ≡ asks_once c.args.entry.now f =
    ap (λ l. found l f) c.rows.ensures.rows ∙ found_entries c.entry.inside.in_records.values f ∙ ap (asks f) c.entry.view_is ∙ ap (λ o. asks_once o f) (sym c.in-Some.is) in
    omega (arith, at, more)) c.requires.room

pub returns-in-Some-clause-raised : goal.returns-in-Some-clause-raised
returns-in-Some-clause-raised c = λ f.
    let at : found c.rows.result.now f ≡ asks_once c.args.entry.now f =
    ap (λ l. found l f) c.rows.ensures.rows ∙ found_entries c.entry.inside.in_records.values f ∙ ap (asks f) c.entry.view_is ∙ ap (λ o. asks_once o f) (sym c.in-Some.is) in
    let raised = c.raise_each.ensures.raised f in
    omega (arith, at, raised)
