use Rattle.std.proofs.Common.{arith, sym, subst, ◌∙◌}
use Rattle.pit_fib.specs.FaceSet.{IsRising}
use Rattle.pit_fib.proofs.RisingFaces.{with_rises}
use Rattle.pit_fib.proofs.face_set.Faces.insert.Goals as goal

pub invariant_of-self : goal.invariant_of-self
invariant_of-self c =
    let absent = c.in-Err.ensures.absent in
    let few = c.self.invariant.0 in
    (omega (arith, few, c.if-self-eq-MAX_FACES.false), subst IsRising (absent.2 ∙ sym c.insert_at.ensures) (with_rises c.args.face _ c.self.invariant.1 absent.1))
