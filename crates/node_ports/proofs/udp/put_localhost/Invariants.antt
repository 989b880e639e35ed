use Rattle.std.proofs.Common.{◌≡◌, length}
use Rattle.node_ports.proofs.Strangers.{ArePut}
use Rattle.node_ports.proofs.udp.put_localhost.Given as goal

abbrev pub invariant-loop-place : goal.invariant-loop-place
invariant-loop-place l = (length l.endpoints ≡ length l.ports) × ArePut l.ports l.endpoints l.place
