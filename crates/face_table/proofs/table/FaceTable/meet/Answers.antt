use Rattle.std.proofs.Common.{remove, slice_get, ap, subst, ◌∙◌}
use Rattle.face_table.specs.Clients.{ClientsState, HearsInTime}
use Rattle.face_table.proofs.Meeting.{closes_idle}
use Rattle.face_table.proofs.table.FaceTable.meet.Goals as goal

pub returns-in-Some : goal.returns-in-Some
returns-in-Some g c =
    let at = c.in-Some.place in
    let same = c.in-Some.ensures.same in
    let longest = c.in-Some.ensures.longest in
    let heard = c.hear_in_time.ensures.heard in
    let in_time = subst (λ (s : ClientsState). HearsInTime s.idle s.rows heard.0 c.args.link c.args.now) same heard.1 in
    let face = c.face_at-face.ensures longest.0 (ap (λ (s : ClientsState). slice_get s.rows at) same ∙ longest.1.is) in
    let rest = c.remove.ensures ∙ ap (λ (s : ClientsState). record s { rows = remove s.rows at }) (heard.2 ∙ ap (λ (s : ClientsState). record s { rows = heard.0 }) same) in
    closes_idle _ _ c.self.view_is c.remove.new.self c.args.link c.args.now (g.H.Holdings.Answers c.args.holdings.now) c.face_at-face.result at longest.0 face heard.0 longest.1 longest.2 in_time rest
