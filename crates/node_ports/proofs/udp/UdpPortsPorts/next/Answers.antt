use Rattle.std.proofs.Common.{refl, subst}
use Rattle.forwarder.specs.Node.{NodeState}
use Rattle.node_ports.specs.Holdings.{NodeAnswers}
use Rattle.node_ports.specs.Udp.{UdpGives}
use Rattle.node_ports.proofs.udp.UdpPortsPorts.next.Goals as goal

pub returns-in-Some-clause-gives : goal.returns-in-Some-clause-gives
returns-in-Some-clause-gives g c =
    let arrival = c.in-Some.arrival in
    let gives = λ (n : NodeState). UdpGives (NodeAnswers n) c.args.self.now c.take.new.self c.take.new.buffer arrival in
    (arrival, refl, subst gives c.of.ensures c.in-Some.ensures.gives)
