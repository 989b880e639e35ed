use Rattle.node_core.proofs.Finishing.{Stops-memory}
use Rattle.node_core.proofs.script.player.Player.run.Goals as goal

pub returns-in_default-clause-stopped : goal.returns-in_default-clause-stopped
returns-in_default-clause-stopped g c =
    Stops-memory c.args.self.now.node c.requires.node (g.R.Read.remaining c.args.reader.now) (g.W.Write.contents c.args.writer.now)
