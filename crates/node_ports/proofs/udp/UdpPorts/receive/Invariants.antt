use Rattle.node_ports.specs.Udp.{DropsStrangers}
use Rattle.node_ports.proofs.udp.UdpPorts.receive.Given as goal

abbrev pub invariant-loop : goal.invariant-loop
invariant-loop g l = DropsStrangers l.initial.self l.self
