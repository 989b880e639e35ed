use Rattle.std.proofs.Common.{◌≤◌, ◌<◌, refl, sym, ◌∙◌, subst}
use Rattle.std.proofs.lemmas.Bool.{ne_eqb}
use Rattle.pit_fib.specs.declared.face_set.TheConstants.{MAX_FACES}
use Rattle.forwarder.specs.State.{state_of}
use Rattle.forwarder.proofs.FaceSteps.{opens, opens_no_zero, opens_no_twice, opens_no_more}
use Rattle.forwarder.proofs.state.State.open.Goals as goal

pub returns-then-face-eq0 : goal.returns-then-face-eq0
returns-then-face-eq0 c =
    opens_no_zero (state_of c.args.self.now) (state_of c.pass_time.new.self) c.args.face c.args.scope c.args.now c.pass_time.ensures.later
    c.if-face-eq0.true

pub returns-then-contains : goal.returns-then-contains
returns-then-contains c =
    opens_no_twice (state_of c.args.self.now) (state_of c.pass_time.new.self) c.args.face c.args.scope c.args.now c.pass_time.ensures.later
    (ne_eqb _ _ c.if-face-eq0.false) (sym c.contains.ensures ∙ c.if-contains.true)

pub returns-then-len-ge-MAX_FACES : goal.returns-then-len-ge-MAX_FACES
returns-then-len-ge-MAX_FACES c =
    opens_no_more (state_of c.args.self.now) (state_of c.pass_time.new.self) c.args.face c.args.scope c.args.now c.pass_time.ensures.later
    (ne_eqb _ _ c.if-face-eq0.false) (sym c.contains.ensures ∙ c.if-contains.false)
    (subst (λ n. MAX_FACES ≤ n) c.len.ensures.exact c.if-len-ge-MAX_FACES.true)

pub returns : goal.returns
returns c =
    opens (state_of c.args.self.now) (state_of c.pass_time.new.self) c.args.face c.args.scope c.args.now c.pass_time.ensures.later
    (ne_eqb _ _ c.if-face-eq0.false) (sym c.contains.ensures ∙ c.if-contains.false) _
    (subst (λ n. n < MAX_FACES) c.len.ensures.exact c.if-len-ge-MAX_FACES.false)
    (rw c.open.ensures refl) refl refl
