use Rattle.ndn_packets.proofs.Held.{data_read}
use Rattle.ndn_packets.proofs.data.Data.digest.Goals as goal

pub returns-clause-packet : goal.returns-clause-packet
returns-clause-packet c = data_read c.args.self.now
