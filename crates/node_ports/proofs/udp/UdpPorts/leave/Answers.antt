use Rattle.std.proofs.Common.{ap, subst}
use Rattle.face_table.specs.Table.{Leaves, TableState}
use Rattle.node_ports.specs.Udp.{UdpState}
use Rattle.node_ports.proofs.udp.UdpPorts.leave.Goals as goal

pub returns-clause-left : goal.returns-clause-left
returns-clause-left g c =
    let known = c.leave.new.self in
    let leaves = subst (λ (k : TableState). Leaves k known c.args.link c.in_ok-face.face) (ap (λ (u : UdpState). u.known) c.self.view_is) c.in_ok-face.ensures.left in
    (known, leaves, ap (λ (u : UdpState). record u { known = known }) c.self.view_is)
