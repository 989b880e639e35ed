use Rattle.std.proofs.Common.{refl, sym, [], append-nil}
use Rattle.std.proofs.lemmas.Result.{err_from_is_err_and}
use Rattle.node_core.specs.Script.Play.{place_of}
use Rattle.forwarder.specs.Event.{plain_owned}
use Rattle.node_core.proofs.Playing.{Plays-skipped, Plays-event}
use Rattle.node_core.proofs.script.player.Player.answer_line.Goals as goal
use Rattle.node_core.proofs.script.player.Player.answer_line.Goals.{in-Skipped, in-Event+in_ok-answer-in-Event}

pub returns-clause-played : goal.returns-clause-played
returns-clause-played c =
    let line = c.args.line.now in
    elim c.match-said.branch [
      | in-Skipped w ↦
          let said = rw w.in-Skipped.is at c.in-Ok.ensures in
          rw w.self-is ([], Plays-skipped line _ _ c.requires.whole said refl refl refl, sym (append-nil _))
      | in-Event+in_ok-answer-in-Event w ↦
          let said = rw w.in-Event.is at c.in-Ok.ensures in
          let r = w.in_ok-answer-in-Event.ensures.handled in
          rw w.self-is
          (r.0, Plays-event line (plain_owned w.in-Event.event) _ (place_of w.answer.new.self) _ r.0 c.requires.whole said r.1 refl refl refl, r.2)
    ]

pub returns-in_err-answer-in-Event-clause-stopped : goal.returns-in_err-answer-in-Event-clause-stopped
returns-in_err-answer-in-Event-clause-stopped c =
    let p = err_from_is_err_and c.from_residual.result c.from_residual.ensures.1 in
    rw (p.1, p.2, c.in_err-answer-in-Event.ensures.fault) tt
