use Rattle.std.proofs.Common.{◌++◌}
use Rattle.std.proofs.lemmas.Result.{err_from_is_err_and}
use Rattle.node_core.specs.Script.Play.{place_of}
use Rattle.node_core.proofs.Playing.{gathered_cut, gathered_written, gathered_stopped}
use Rattle.node_core.proofs.script.player.Player.feed.Goals as goal

pub returns-in_err-put_all-clause-stopped : goal.returns-in_err-put_all-clause-stopped
returns-in_err-put_all-clause-stopped g c =
    let p = err_from_is_err_and c.from_residual.result c.from_residual.ensures.1 in
    rw (p.1, p.2, c.in_err-put_all.ensures.fault)
    (gathered_cut c.gather-done.result (c.args.line.now.items ++ c.args.chunk.now) (place_of c.args.self.now) (place_of c.gather-done.new.self) c.gather-done.new.line.items c.clear.new.self.items c.gather-done.new.self.text.items _ _ c.clear.ensures.items
    c.gather-done.ensures.played c.gather-done.ensures.stopped (rw c.as_slice.ensures.value at c.in_err-put_all.ensures.cut))

pub returns-clause-played : goal.returns-clause-played
returns-clause-played g c =
    gathered_written c.gather-done.result (c.args.line.now.items ++ c.args.chunk.now) (place_of c.args.self.now) (place_of c.gather-done.new.self) c.gather-done.new.line.items c.clear.new.self.items c.gather-done.new.self.text.items _ _ c.clear.ensures.items
    c.gather-done.ensures.played (rw c.as_slice.ensures.value at c.in_ok-put_all.ensures.done)

pub returns-clause-stopped : goal.returns-clause-stopped
returns-clause-stopped g c =
    gathered_stopped c.gather-done.result (c.args.line.now.items ++ c.args.chunk.now) (place_of c.args.self.now) c.clear.new.self.items c.gather-done.new.self.text.items _ _ c.clear.ensures.items
    c.gather-done.ensures.stopped (rw c.as_slice.ensures.value at c.in_ok-put_all.ensures.done)
