use Rattle.std.proofs.Common.{ap, sym, ◌∙◌}
use Rattle.std.specs.FinMap.{entries, entries-from_sorted}
use Rattle.pit_fib.specs.Route.{Registered, route_cmp}
use Rattle.pit_fib.proofs.registered.Registered.rows.Goals as goal

pub returns-clause-rows : goal.returns-clause-rows
returns-clause-rows c =
    c.deref.ensures.value ∙ sym (entries-from_sorted route_cmp c.self.inside.rows.items c.self.invariant)
    ∙ ap (λ (m : Registered). entries m) c.self.view_is
