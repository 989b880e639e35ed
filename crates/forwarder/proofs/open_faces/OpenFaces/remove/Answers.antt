use Rattle.std.proofs.Common.{◌==◌, not, sym, subst}
use Rattle.pit_fib.specs.FaceSet.{IsRising}
use Rattle.forwarder.proofs.Members.{IsRising-filter}
use Rattle.forwarder.proofs.Openness.{closed_shown, closed_are}
use Rattle.forwarder.proofs.open_faces.OpenFaces.remove.Goals as goal

pub invariant_of-self : goal.invariant_of-self
invariant_of-self c = (
  closed_are c.args.face c.args.self.now c.self.inside.all c.self.inside.local _ c.self.view_is c.self.invariant.0 _
      c.without_face-all.ensures c.without_face-local.ensures,
  subst IsRising (sym c.without_face-all.ensures) (IsRising-filter (λ f. not (f == c.args.face)) c.self.inside.all c.self.invariant.1),
)

pub returns : goal.returns
returns c =
    closed_shown c.args.face c.args.self.now c.self.inside.all c.self.inside.local _ c.self.view_is c.self.invariant.0 _
    c.without_face-all.ensures c.without_face-local.ensures
