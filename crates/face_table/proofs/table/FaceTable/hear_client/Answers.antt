use Rattle.std.proofs.Common.{subst}
use Rattle.face_table.proofs.Heard.{may_hear}
use Rattle.face_table.proofs.Meeting.{now_with}
use Rattle.face_table.specs.Clients.{MayHear}
use Rattle.face_table.specs.Table.{TableState}
use Rattle.face_table.proofs.table.FaceTable.hear_client.Goals as goal

pub returns : goal.returns
returns c =
    let is = c.self.view_is in
    let after = c.hear-face.new.self in
    let heard = may_hear c.self.inside.clients after c.args.link c.args.now c.hear-face.result c.hear-face.ensures.found c.hear-face.ensures.none in
    (heard.0, subst (λ (s : TableState). MayHear s.clients.rows heard.0 c.args.link c.args.now) is heard.1, now_with _ _ is after heard.0 heard.2)
