use Rattle.std.proofs.Common.{refl, sym, ap, ◌∙◌}
use Rattle.forwarder.specs.State.{policy_of, state_of}
use Rattle.forwarder.proofs.FaceSteps.{closes, closes_none}
use Rattle.forwarder.proofs.state.State.close.Goals as goal

pub returns-then-not-contains : goal.returns-then-not-contains
returns-then-not-contains c =
    closes_none (state_of c.args.self.now) (state_of c.pass_time.new.self) c.args.face c.args.now c.pass_time.ensures.later
    (sym c.contains.ensures ∙ c.if-not-contains.true)

pub returns : goal.returns
returns c =
    closes (state_of c.args.self.now) (state_of c.pass_time.new.self) c.args.face c.args.now c.pass_time.ensures.later
    (state_of c.next_version.new.self) (sym c.contains.ensures ∙ c.if-not-contains.false)
    (ap policy_of c.next_version.ensures ∙ rw (c.remove.ensures, c.close_face.ensures.table) refl)
    (rw (c.next_version.ensures) c.close_face-2.ensures.pending)
    (rw (c.next_version.ensures) c.close_face-2.ensures.living)
    (rw (c.next_version.ensures) refl)
