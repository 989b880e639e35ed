use Rattle.std.proofs.Common.{◌≡◌, ◌≤◌, ℕ, List, false}
use Rattle.node_ports.specs.Serving.{Serves}
use Rattle.node_ports.specs.Step.{PortStep, count_of}
use Rattle.node_ports.proofs.serving.serve.Given as goal

abbrev pub invariant-loop : goal.invariant-loop
invariant-loop g l = record {
  ended : l.served.ended ≡ false;
  few : l.served.refused ≤ l.served.events;
  events : l.served.events ≡ l.counter;
  serves : (failed : ℕ) × (steps : List PortStep) × g.P.Ports.does l.initial.ports steps l.ports
      × Serves (g.P.Ports.has_journal l.initial.ports) l.initial.node l.node l.served.events l.served.refused failed steps
      × (l.served.failed_sends ≡ count_of failed);
}
