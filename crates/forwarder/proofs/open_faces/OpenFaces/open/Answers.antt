use Rattle.forwarder.proofs.Openness.{far_are, far_shown, local_are, local_shown, rises}
use Rattle.forwarder.proofs.open_faces.OpenFaces.open.Goals as goal

pub invariant_of-self : goal.invariant_of-self
invariant_of-self c = (
  local_are c.args.face c.args.self.now c.self.inside.all c.self.inside.local _ c.self.view_is c.self.invariant.0
      c.requires.new c.requires.room _ c.insert.ensures _ _ c.insert-in-Local.ensures c.self.invariant.1,
  rises c.args.face c.args.self.now c.self.inside.all c.self.inside.local _ c.self.view_is c.self.invariant.0
      c.requires.new c.requires.room _ c.insert.ensures c.self.invariant.1,
)

pub invariant_of-self-in-Far : goal.invariant_of-self-in-Far
invariant_of-self-in-Far c = (
  far_are c.args.face c.args.self.now c.self.inside.all c.self.inside.local _ c.self.view_is c.self.invariant.0
      c.requires.new c.requires.room _ c.insert.ensures,
  rises c.args.face c.args.self.now c.self.inside.all c.self.inside.local _ c.self.view_is c.self.invariant.0
      c.requires.new c.requires.room _ c.insert.ensures c.self.invariant.1,
)

pub returns-in-Local : goal.returns-in-Local
returns-in-Local c =
    local_shown c.args.face c.args.self.now c.self.inside.all c.self.inside.local _ c.self.view_is c.self.invariant.0
    c.requires.new c.requires.room _ c.insert.ensures _ _ c.insert-in-Local.ensures c.args.scope c.in-Local.is

pub returns-in-Far : goal.returns-in-Far
returns-in-Far c =
    far_shown c.args.face c.args.self.now c.self.inside.all c.self.inside.local _ c.self.view_is c.self.invariant.0
    c.requires.new c.requires.room _ c.insert.ensures c.args.scope c.in-Far.is
