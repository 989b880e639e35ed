use Rattle.std.proofs.Common.{None}
use Rattle.ndn_packets.proofs.link.put_nack.Goals as goal

pub returns-clause-reads_back : goal.returns-clause-reads_back
returns-clause-reads_back c = λ i is. (None, c.put_lp.ensures.reads_back i is)
