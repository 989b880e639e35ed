use Rattle.std.proofs.lemmas.Result.{err_from_is_err_and}
use Rattle.node_core.specs.Script.Play.{place_of}
use Rattle.node_core.proofs.Playing.{LineFails-from_add}
use Rattle.node_core.proofs.script.player.Player.end_line.Goals as goal

pub returns-in_err-add-clause-stopped : goal.returns-in_err-add-clause-stopped
returns-in_err-add-clause-stopped c =
    let p = err_from_is_err_and c.from_residual.result c.from_residual.ensures.1 in
    rw (p.1, p.2) (LineFails-from_add c.in_err-add.field-0.0 _ (place_of c.args.self.now) c.in_err-add.ensures.stopped)
