use Rattle.std.proofs.Common.{ap, subst, ◌∙◌}
use Rattle.face_table.specs.Table.{Meets, TableState}
use Rattle.node_ports.specs.Udp.{UdpState}
use Rattle.node_ports.proofs.udp.UdpPorts.meet.Goals as goal

pub returns : goal.returns
returns g c =
    let known = c.meet.new.self in
    let is = c.self.view_is ∙ c.now-now.ensures in
    let meets = subst (λ (k : TableState). Meets k known c.args.link c.now-now.result (g.H.Holdings.Answers c.args.holdings.now) c.meet.result) (ap (λ (u : UdpState). u.known) is) c.meet.ensures in
    (known, meets, ap (λ (u : UdpState). record u { known = known }) is)
