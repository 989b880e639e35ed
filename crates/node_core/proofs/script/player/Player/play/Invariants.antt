use Rattle.std.proofs.Common.{ℕ, ◌*◌, ◌≤◌, List, []}
use Rattle.std.specs.Io.KnownBytes.{Consumes}
use Rattle.node_core.specs.Script.Play.{place_of, IsPending}
use Rattle.node_core.proofs.Playing.{Fed}
use Rattle.node_core.proofs.Finishing.{start}
use Rattle.node_core.proofs.script.player.Player.play.Given as goal

abbrev pub invariant-loop : goal.invariant-loop
invariant-loop g l = record {
  pending : IsPending l.line.items;
  few_lines : l.self.lines ≤ 65536 * l.counter;
  few_events : l.self.events ≤ 65536 * l.counter;
  fed : (front : List ℕ) × Consumes (g.R.Read.remaining l.initial.reader) (g.R.Read.remaining l.reader) front
      × Fed front (start l.initial.self.node) (place_of l.self) l.line.items [] (g.W.Write.contents l.initial.writer) (g.W.Write.contents l.writer);
}
