use Rattle.std.proofs.Common.{ap, sym, ◌∙◌}
use Rattle.std.specs.Ordering.{nat_cmp}
use Rattle.std.specs.FinMap.{get, get-from_sorted}
use Rattle.pit_fib.specs.Faced.{Faced}
use Rattle.pit_fib.proofs.face_map.FaceMap.get.Goals as goal

pub returns-in-Ok : goal.returns-in-Ok
returns-in-Ok g c =
    let found = rw c.deref.ensures.value at c.in-Ok.ensures.found in
    sym (ap (λ (m : Faced g.row.V.Denot). get m.values c.args.face) (sym c.self.view_is) ∙ get-from_sorted nat_cmp c.self.inside.rows.items c.args.face c.self.invariant.0 ∙ found.2 c.index.result.now c.index.ensures)

pub returns-in-Err : goal.returns-in-Err
returns-in-Err g c =
    let absent = rw c.deref.ensures.value at c.in-Err.ensures.absent in
    sym (ap (λ (m : Faced g.row.V.Denot). get m.values c.args.face) (sym c.self.view_is) ∙ get-from_sorted nat_cmp c.self.inside.rows.items c.args.face c.self.invariant.0 ∙ absent.2)
