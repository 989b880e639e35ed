use Rattle.std.proofs.Common.{◌<◌, sym, ap, ◌∙◌, arith}
use Rattle.std.proofs.lemmas.Bool.{eq-eqb, ne_eqb}
use Rattle.pit_fib.specs.declared.face_set.TheConstants.{MAX_FACES}
use Rattle.forwarder.proofs.Openness.{kept_here, left_out}
use Rattle.forwarder.proofs.open_faces.without_face.Goals as goal
use Rattle.forwarder.proofs.open_faces.without_face.Goals.{then-other-face, else-other-face}

pub loop-i-preserved : goal.loop-i-preserved
loop-i-preserved c =
    let xs = c.args.faces.now in
    let i = c.loop-i.i in
    let few : i < MAX_FACES = omega (arith, c.loop-i-test.true, c.len-i-end.ensures.small) in
    elim c.if-other-face.branch [
      | then-other-face w ↦
          kept_here c.args.face xs i c.in-Some.other c.loop-i.rest c.if-other-face.rest c.len-i-end.ensures.rising
          (sym c.in-Some.ensures) few c.loop-i.invariant (ne_eqb _ _ w.if-other-face.true)
          (w.rest-is ∙ ap (λ p. p.1) w.insert.ensures)
      | else-other-face w ↦
          w.rest-is ∙ left_out c.args.face xs i c.in-Some.other c.loop-i.rest (sym c.in-Some.ensures) c.loop-i.invariant
          (eq-eqb _ _ w.if-other-face.false)
    ]
