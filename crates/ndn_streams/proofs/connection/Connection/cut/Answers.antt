use Rattle.std.proofs.Common.{length, ap, subst, sym, inr, ◌∙◌}
use Rattle.std.specs.Prelude.{[]}
use Rattle.ndn_streams.specs.Connection.{ConnectionState, GivesPacket, Passes}
use Rattle.ndn_streams.specs.PacketStream.{StreamState}
use Rattle.ndn_streams.proofs.Connections.{cut_none, cut_some}
use Rattle.ndn_streams.proofs.connection.Connection.cut.Goals as goal

pub returns-in-Ok-Some-clause-packet : goal.returns-in-Ok-Some-clause-packet
returns-in-Ok-Some-clause-packet g c =
    let e = c.next_packet.ensures in
    let new = c.next_packet.new in
    let given = cut_some c.self.inside.stream new.self c.args.buffer.now new.buffer c.in-Ok-Some.len e.state (rw c.in-Ok-Some.field-0-is at (sym c.in-Ok-Some.is ∙ e.exact)) e.buffer e.gives in
    subst (λ (t : StreamState). GivesPacket t new.self new.buffer c.in-Ok-Some.len) (ap (λ (s : ConnectionState). s.stream) c.self.view_is) given

pub returns-in-Ok-None-clause-none : goal.returns-in-Ok-None-clause-none
returns-in-Ok-None-clause-none g c = λ none.
    let e = c.next_packet.ensures in
    let new = c.next_packet.new in
    let held = cut_none c.self.inside.stream new.self (length c.args.buffer.now) e.state (rw c.in-Ok-None.field-0-is at (sym c.in-Ok-None.is ∙ e.exact)) in
    inr (subst (λ (t : StreamState). Passes t new.self []) (ap (λ (s : ConnectionState). s.stream) c.self.view_is) held.0, held.1)
