use Rattle.std.proofs.Common.{ap, subst}
use Rattle.std.specs.Prelude.{IsOk}
use Rattle.ndn_streams.specs.Connection.{ConnectionState}
use Rattle.ndn_streams.specs.PacketStream.{StreamState}
use Rattle.ndn_streams.proofs.Connections.{passes_same}
use Rattle.ndn_streams.proofs.connection.Connection.next_packet.Goals as goal

pub loop-init : goal.loop-init
loop-init g c =
    let same = ap (λ (s : ConnectionState). s.stream) c.self.view_is in
    let ok = subst (λ (t : StreamState). IsOk t.left) same (c.self.invariant c.if-self.false) in
    let wrote = c.write.ensures.writes.1 in
    let stream = ap (λ (s : ConnectionState). s.stream) wrote in (
      passes_same c.args.self.now.stream c.write.new.self.stream ok (ap (λ (t : StreamState). t.left) stream) (ap (λ (t : StreamState). t.came) stream),
      (c.write.ensures.writes.0, ap (λ (t : StreamState). t.queue) stream),
      ap (λ (s : ConnectionState). s.begun) wrote,
      ap (λ (s : ConnectionState). s.is_open) wrote,
    )
