use Rattle.std.proofs.Common.{flat_map}
use Rattle.ndn_log.specs.Notes.{left_texts}
use Rattle.ndn_log.proofs.Telling.{all_told_after, grown_after}
use Rattle.ndn_log.proofs.notes.put_all_left.Goals as goal

pub returns-clause-ok : goal.returns-clause-ok
returns-clause-ok c =
    let faces = rw c.shown.ensures at c.in_ok-put_faces_left.ensures.ok in
    let others = rw c.others.ensures at c.put_others.ensures.ok in
    all_told_after c.put_others.result c.args.limits.now c.args.text.now.items c.put_faces_left.new.text.items c.put_others.new.text.items c.args.moment faces others

pub returns-clause-err : goal.returns-clause-err
returns-clause-err c =
    grown_after c.put_others.result (flat_map left_texts c.shown.result.now) c.args.text.now.items c.put_faces_left.new.text.items c.put_others.new.text.items c.args.moment c.in_ok-put_faces_left.ensures.ok c.put_others.ensures.err
