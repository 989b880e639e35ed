use Rattle.std.proofs.Common.{List, ap, sym, subst, ◌∙◌}
use Rattle.std.specs.Prelude.{IsSome, nat_eq}
use Rattle.std.specs.Map.{lookup, remove_entry}
use Rattle.content_store.specs.Rows.{Placed}
use Rattle.content_store.proofs.Changes.{displaced_there, some_inserted, removed_again}
use Rattle.content_store.proofs.store.put_new.Goals as goal

pub forget-requires-clause-there : goal.forget-requires-clause-there
forget-requires-clause-there c =
    let ok = c.in-Ok.ensures.ok in
    subst (λ (rs : List Placed). IsSome (lookup (nat_eq c.in-Ok-Some.other) rs)) (sym ok.1)
    (displaced_there c.args.rows.now c.args.used.now c.args.row.serial c.in-Ok.place c.args.at c.args.row (c.in-Ok-Some.field-0-0-0, c.in-Ok-Some.other) c.requires.sound ok.0
    (sym c.in-Ok-Some.ensures.old ∙ c.in-Ok-Some.field-0-is))

pub forget-requires-in-Err-clause-there : goal.forget-requires-in-Err-clause-there
forget-requires-in-Err-clause-there c =
    let ok = c.in-Ok.ensures.ok in
    subst (λ (rs : List Placed). IsSome (lookup (nat_eq c.in-Ok.place) rs)) (sym ok.1) (some_inserted c.args.rows.now c.in-Ok.place c.args.at c.args.row ok.0)

pub returns-in-Err-clause-refused : goal.returns-in-Err-clause-refused
returns-in-Err-clause-refused c =
    let ok = c.in-Ok.ensures.ok in
    λ _. (c.forget-in-Err.ensures.rows ∙ ap (remove_entry (nat_eq c.in-Ok.place)) ok.1 ∙ removed_again c.in-Ok.place c.args.row c.args.rows.now c.args.at ok.0, c.in-Err.ensures.err)
