use Rattle.std.proofs.Common.{◌≡◌, ℕ, List, take, length, ap, ◌∙◌}
use Rattle.std.specs.Prelude.{Some}
use Rattle.node_ports.specs.Udp.{Datagram, UdpState}
use Rattle.node_ports.proofs.udp.UdpPorts.keep.Goals as goal

pub returns : goal.returns
returns g c =
    let put = c.put_front-self-inside in
    let datagram = c.args.datagram.now in
    let room : length put.new.buffer ≡ 9001 = put.auto.buffer ∙ c.self.told in
    let octets : take put.result put.new.buffer ≡ take 9001 datagram = put.ensures.front ∙ ap (λ (n : ℕ). take n datagram) room in
    let waits : List ℕ → Datagram = λ o. record { endpoint = c.args.endpoint; face = c.args.face; octets = o } in
    ap (λ (u : UdpState). record u { waiting = Some (waits (take put.result put.new.buffer)) }) c.self.view_is
    ∙ ap (λ (o : List ℕ). record c.args.self.now { waiting = Some (waits o) }) octets
