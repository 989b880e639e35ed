use Rattle.std.proofs.Common.{ap, subst, take, ◌∙◌}
use Rattle.std.specs.Prelude.{None, Some}
use Rattle.face_table.specs.declared.table.Met.{Met}
use Rattle.face_table.specs.declared.table.Met.TheVariants.{Closing}
use Rattle.face_table.specs.declared.link.Link.TheVariants.{Udp}
use Rattle.face_table.specs.Table.{Meets, TableState}
use Rattle.node_ports.specs.Udp.{UdpState, kept}
use Rattle.node_ports.proofs.udp.UdpPorts.arrive.Goals as goal

pub returns-in-Closing-clause-brings : goal.returns-in-Closing-clause-brings
returns-in-Closing-clause-brings g c =
    let known = c.meet.new.self in
    let is = c.self.view_is ∙ c.now-now.ensures in
    let meets = subst (λ (k : TableState). Meets k known (Udp c.args.endpoint) c.now-now.result (g.H.Holdings.Answers c.args.holdings.now) (Closing c.in-Closing.face)) (ap (λ (u : UdpState). u.known) is) (subst (λ (m : Met). Meets c.self.inside.known known (Udp c.args.endpoint) c.now-now.result (g.H.Holdings.Answers c.args.holdings.now) m) c.in-Closing.is c.meet.ensures) in
    (known, meets, c.keep-in-Closing.ensures ∙ ap (λ (u : UdpState). record u { known = known; waiting = Some (kept c.args.endpoint None (take c.args.len c.args.buffer.now)) }) is)
