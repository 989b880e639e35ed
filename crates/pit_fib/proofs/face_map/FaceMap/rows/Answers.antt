use Rattle.std.proofs.Common.{ap, sym, ◌∙◌}
use Rattle.std.specs.Ordering.{nat_cmp}
use Rattle.std.specs.FinMap.{entries, entries-from_sorted}
use Rattle.pit_fib.specs.Faced.{Faced}
use Rattle.pit_fib.proofs.face_map.FaceMap.rows.Goals as goal

pub returns-clause-rows : goal.returns-clause-rows
returns-clause-rows g c =
    c.deref.ensures.value ∙ sym (entries-from_sorted nat_cmp c.self.inside.rows.items c.self.invariant.0)
    ∙ ap (λ (m : Faced g.row.V.Denot). entries m.values) c.self.view_is
