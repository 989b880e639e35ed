use Rattle.std.proofs.Common.{ap, length, List, ℕ}
use Rattle.std.specs.List.{slice_range}
use Rattle.ndn_streams.proofs.PacketStreams.{packet_cut}
use Rattle.ndn_streams.proofs.packet_stream.PacketStream.next_packet.Goals as goal

pub returns-in-Some-clause-state : goal.returns-in-Some-clause-state
returns-in-Some-clause-state c =
    let inside = c.self.inside in
    let part = ap (λ (x : List ℕ). slice_range x inside.start inside.end) c.deref.ensures.value in
    packet_cut c.args.self.now inside.cutter c.cut.new.cutter inside.inbox.items (slice_range c.deref.result.now inside.start inside.end) inside.start inside.end
    (length c.args.buffer.now) c.in-Some.count c.in-Some.after inside.queue c.self.view_is part c.self.invariant.0 c.self.invariant.1 c.cut.ensures.leaves (rw c.in-Some.is at c.in_ok-cut.ensures.exact) c.cut.ensures.gives
