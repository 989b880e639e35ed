use Rattle.std.proofs.Common.{take, ap, sym, ◌∙◌}
use Rattle.std.specs.Ordering.{nat_cmp}
use Rattle.std.specs.FinMap.{entries, entries-from_sorted}
use Rattle.pit_fib.specs.Tables.{ByFace}
use Rattle.pit_fib.proofs.by_face.Used.as_slice.Goals as goal

pub returns-clause-rows : goal.returns-clause-rows
returns-clause-rows c =
    sym (entries-from_sorted nat_cmp (take c.self.inside.len c.self.inside.places) c.self.invariant.2) ∙ ap (λ (m : ByFace). entries m) c.self.view_is
