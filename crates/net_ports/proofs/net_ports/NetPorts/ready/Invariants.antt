use Rattle.std.specs.Prelude.{◌≡◌}
use Rattle.net_ports.proofs.net_ports.NetPorts.ready.Given as goal

abbrev pub invariant-loop : goal.invariant-loop
invariant-loop g l = l.self.udp.failures ≡ l.fn.self.udp.failures
