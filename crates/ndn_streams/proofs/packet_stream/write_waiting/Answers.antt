use Rattle.ndn_streams.proofs.PacketStreams.{writes_more}
use Rattle.ndn_streams.proofs.packet_stream.write_waiting.Goals as goal

pub returns-in_err-write_once-clause-writes : goal.returns-in_err-write_once-clause-writes
returns-in_err-write_once-clause-writes g c = writes_more _ _ _ _ _ _ c.loop.invariant c.write_once.ensures.writes

pub returns-then-not-branch-clause-writes : goal.returns-then-not-branch-clause-writes
returns-then-not-branch-clause-writes g c = writes_more _ _ _ _ _ _ c.loop.invariant c.write_once.ensures.writes

pub loop-preserved : goal.loop-preserved
loop-preserved g c = writes_more _ _ _ _ _ _ c.loop.invariant c.write_once.ensures.writes
