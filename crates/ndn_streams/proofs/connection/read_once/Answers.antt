use Rattle.std.proofs.Common.{ap}
use Rattle.ndn_streams.specs.PacketStream.{StreamState}
use Rattle.ndn_streams.proofs.Connections.{passes_read}
use Rattle.ndn_streams.proofs.connection.read_once.Goals as goal

pub returns-in-Ok-eq0-clause-passes : goal.returns-in-Ok-eq0-clause-passes
returns-in-Ok-eq0-clause-passes g c = passes_read _ _ c.requires.whole c.requires.came (ap (λ (s : StreamState). s.left) c.read_from.ensures.same)

pub returns-in-Ok-clause-passes : goal.returns-in-Ok-clause-passes
returns-in-Ok-clause-passes g c = passes_read _ _ c.requires.whole c.requires.came (ap (λ (s : StreamState). s.left) c.read_from.ensures.same)

pub returns-in-WouldBlock-clause-passes : goal.returns-in-WouldBlock-clause-passes
returns-in-WouldBlock-clause-passes g c = passes_read _ _ c.requires.whole c.requires.came (ap (λ (s : StreamState). s.left) c.read_from.ensures.same)

pub returns-in-Interrupted-clause-passes : goal.returns-in-Interrupted-clause-passes
returns-in-Interrupted-clause-passes g c = passes_read _ _ c.requires.whole c.requires.came (ap (λ (s : StreamState). s.left) c.read_from.ensures.same)

pub returns-in_default-clause-passes : goal.returns-in_default-clause-passes
returns-in_default-clause-passes g c = passes_read _ _ c.requires.whole c.requires.came (ap (λ (s : StreamState). s.left) c.read_from.ensures.same)
