use Rattle.std.proofs.Common.{Ok, flat_map, take, ◌∙◌}
use Rattle.ndn_log.specs.Notes.{left_texts}
use Rattle.ndn_log.proofs.Telling.{AreLogged-grows, on_err, one_more_told}
use Rattle.ndn_log.proofs.notes.put_faces_left.Goals as goal

pub returns-in_err-put_face_left-clause-err : goal.returns-in_err-put_face_left-clause-err
returns-in_err-put_face_left-clause-err c =
    let told = flat_map left_texts (take c.loop-line.line-index c.args.shown.now) in
    let (more, grown) = AreLogged-grows told c.args.text.now.items c.loop-line.text.items c.args.moment c.loop-line.invariant in
    on_err c.from_residual.result (more, c.in_err-put_face_left.ensures.err ∙ grown)

pub loop-line-preserved : goal.loop-line-preserved
loop-line-preserved c =
    one_more_told (Ok c.in_ok-put_face_left.field-0) c.args.shown.now c.loop-line.line-index (record { face = 0; left = 0 }) c.args.text.now.items c.loop-line.text.items c.put_face_left.new.text.items c.args.moment c.loop-line-test.true c.loop-line.invariant c.in_ok-put_face_left.ensures.ok
