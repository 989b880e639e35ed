use Rattle.std.proofs.Common.{◌+◌, ◌≤◌, ◌++◌, length, Some}
use Rattle.node_core.specs.Script.Play.{place_of, IsPending}
use Rattle.node_core.proofs.Playing.{Fed}
use Rattle.node_core.proofs.script.player.Player.gather.Given as goal

abbrev pub invariant-loop-front : goal.invariant-loop-front
invariant-loop-front l = record {
  pending : IsPending l.line.items;
  few_lines : l.self.lines + length l.rest ≤ l.initial.self.lines + length l.chunk;
  few_events : l.self.events + length l.rest ≤ l.initial.self.events + length l.chunk;
  fed : Fed (l.initial.line.items ++ l.chunk) (place_of l.initial.self) (place_of l.self) l.line.items l.rest (Some l.initial.self.text.items) (Some l.self.text.items);
}

abbrev pub decreases-loop-front : goal.decreases-loop-front
decreases-loop-front l = length l.rest
