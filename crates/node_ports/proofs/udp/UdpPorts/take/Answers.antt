use Rattle.std.proofs.Common.{ℕ, take, ap, sym, ◌∙◌}
use Rattle.std.specs.Prelude.{Option, Some}
use Rattle.std.specs.Option.{option_map}
use Rattle.node_ports.specs.Udp.{Datagram, UdpState}
use Rattle.node_ports.proofs.Meeting.{datagram_of}
use Rattle.node_ports.proofs.udp.UdpPorts.take.Goals as goal

pub give_waiting-requires-clause-waiting : goal.give_waiting-requires-clause-waiting
give_waiting-requires-clause-waiting g c =
    let octets = take c.self.inside.len c.self.inside.octets in
    let with_face : Option ℕ → Option Datagram = λ face. Some (record { endpoint = c.in-Some.waiting.endpoint; face = face; octets = octets }) in
    (octets, sym (ap (λ (u : UdpState). u.waiting) c.self.view_is) ∙ ap (option_map (datagram_of octets)) c.in-Some.is ∙ ap with_face c.in-Some-face.is)

pub go_on-requires-clause-waiting : goal.go_on-requires-clause-waiting
go_on-requires-clause-waiting g c =
    let octets = take c.self.inside.len c.self.inside.octets in
    let with_face : Option ℕ → Option Datagram = λ face. Some (record { endpoint = c.in-Some.waiting.endpoint; face = face; octets = octets }) in
    (octets, sym (ap (λ (u : UdpState). u.waiting) c.self.view_is) ∙ ap (option_map (datagram_of octets)) c.in-Some.is ∙ ap with_face c.in-None.is)
