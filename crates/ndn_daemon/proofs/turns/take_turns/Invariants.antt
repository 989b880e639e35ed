use Rattle.std.proofs.Common.{◌≡◌, List, ℕ, []}
use Rattle.node_ports.specs.Step.{PortStep}
use Rattle.ndn_daemon.specs.Turn.{Tells, Writes}
use Rattle.ndn_daemon.proofs.turns.take_turns.Given as goal

abbrev pub invariant-loop-number : goal.invariant-loop-number
invariant-loop-number g l = (text : List ℕ) × (steps : List PortStep)
    × g.P.Ports.does l.initial.ports steps l.ports
    × Tells (g.P.Ports.has_journal l.initial.ports) l.initial.node l.node l.number steps text
    × Writes (g.W.Write.contents l.initial.writer) (g.W.Write.contents l.writer) text l.text.items
    × (l.number ≡ 0 → l.text.items ≡ [])
