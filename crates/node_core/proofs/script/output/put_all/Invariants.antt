use Rattle.std.proofs.Common.{◌≡◌, ℕ, List, ◌++◌}
use Rattle.std.specs.Io.KnownBytes.{Appends}
use Rattle.node_core.proofs.script.output.put_all.Given as goal

abbrev pub invariant-loop : goal.invariant-loop
invariant-loop g l = (front : List ℕ) × (l.octets ≡ front ++ l.rest) × Appends (g.W.Write.contents l.initial.writer) (g.W.Write.contents l.writer) front
