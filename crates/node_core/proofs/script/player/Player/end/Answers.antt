use Rattle.std.proofs.lemmas.Result.{err_from_is_err_and, on_ok_weaker}
use Rattle.node_core.specs.Script.Play.{place_of}
use Rattle.node_core.proofs.Playing.{LineStops-from_fails, LineStops-cut}
use Rattle.node_core.proofs.script.player.Player.end.Goals as goal

pub returns-in_err-answer_line-clause-stopped : goal.returns-in_err-answer_line-clause-stopped
returns-in_err-answer_line-clause-stopped g c =
    let p = err_from_is_err_and c.from_residual.result c.from_residual.ensures.1 in
    rw (p.1, p.2) (LineStops-from_fails c.in_err-answer_line.field-0.0 c.args.line.now (place_of c.args.self.now) _ c.in_err-answer_line.ensures.stopped)

pub returns-clause-stopped : goal.returns-clause-stopped
returns-clause-stopped g c =
    let r = c.in_ok-answer_line.ensures.played in
    let all = rw c.clear.ensures.items at r.2 in
    LineStops-cut c.put_all.result c.args.line.now (place_of c.args.self.now) (place_of c.answer_line.new.self) r.0 _ _ r.1 (rw all at (rw c.as_slice.ensures.value at c.put_all.ensures.cut)) c.put_all.ensures.fault

pub returns-clause-played : goal.returns-clause-played
returns-clause-played g c =
    let r = c.in_ok-answer_line.ensures.played in
    let all = rw c.clear.ensures.items at r.2 in
    on_ok_weaker c.put_all.result (λ h. (r.0, r.1, h)) (rw all at (rw c.as_slice.ensures.value at c.put_all.ensures.done))
