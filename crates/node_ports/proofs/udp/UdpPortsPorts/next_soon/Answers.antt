use Rattle.std.proofs.Common.{IfSome, subst}
use Rattle.forwarder.specs.Node.{NodeState}
use Rattle.node_ports.specs.Holdings.{NodeAnswers}
use Rattle.node_ports.specs.Udp.{UdpGives}
use Rattle.node_ports.proofs.udp.UdpPortsPorts.next_soon.Goals as goal

pub returns-clause-gives : goal.returns-clause-gives
returns-clause-gives g c =
    let gives = λ (n : NodeState). IfSome c.take.result (UdpGives (NodeAnswers n) c.args.self.now c.take.new.self c.take.new.buffer) in
    subst gives c.of.ensures c.take.ensures.gives
