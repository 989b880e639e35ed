use Rattle.ndn_streams.specs.PacketStream.{Writes}
use Rattle.ndn_streams.proofs.packet_stream.write_waiting.Given as goal

abbrev pub invariant-loop : goal.invariant-loop
invariant-loop g l = Writes l.initial.queue l.queue (g.W.Write.contents l.initial.sink) (g.W.Write.contents l.sink)
