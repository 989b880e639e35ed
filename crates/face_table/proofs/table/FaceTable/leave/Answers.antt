use Rattle.std.proofs.Common.{slice_index_or, sym, ◌∙◌}
use Rattle.std.proofs.lemmas.Option.{slice_get-get_or}
use Rattle.face_table.proofs.Meeting.{leaves}
use Rattle.face_table.proofs.Silent.{nobody}
use Rattle.face_table.proofs.table.FaceTable.leave.Goals as goal

pub returns-clause-left : goal.returns-clause-left
returns-clause-left c =
    let rows = c.self.inside.clients.rows in
    let place = c.in_ok-place.place in
    let client = slice_index_or rows place nobody in
    let is = slice_get-get_or rows place nobody c.in_ok-place.ensures.within in
    leaves _ _ c.self.view_is c.remove.new.self c.args.link c.face_at-face.result place client (sym c.place_of.ensures.first ∙ c.in_ok-place.was) is (c.face_at-face.ensures client is) c.remove.ensures
