use Rattle.std.proofs.Common.{◌≤◌, List, take}
use Rattle.node_ports.specs.Serving.{AreSent}
use Rattle.node_ports.specs.Step.{PortStep}
use Rattle.node_ports.proofs.serving.send_all.Given as goal

abbrev pub invariant-loop-i : goal.invariant-loop-i
invariant-loop-i g l = record {
  few : l.failed ≤ l.i;
  sent : (steps : List PortStep) × g.P.Ports.does l.initial.ports steps l.ports × AreSent (take l.i l.outbox) l.failed steps;
}
