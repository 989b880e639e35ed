use Rattle.std.proofs.Common.{refl}
use Rattle.ndn_streams.specs.Queue.{empty}
use Rattle.ndn_streams.proofs.Queues.{written_whole, limited, counted}
use Rattle.ndn_streams.proofs.law.only_whole_packets_are_written.Goals as goal

pub returns-clause-whole : goal.returns-clause-whole
returns-clause-whole c limit calls = written_whole (empty limit) calls refl

pub returns-clause-limited : goal.returns-clause-limited
returns-clause-limited c limit calls = (limited limit calls).small

pub returns-clause-counted : goal.returns-clause-counted
returns-clause-counted c = counted
