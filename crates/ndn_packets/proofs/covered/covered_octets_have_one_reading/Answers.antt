use Rattle.ndn_packets.proofs.Covers.{one_covered}
use Rattle.ndn_packets.proofs.covered.covered_octets_have_one_reading.Goals as goal

pub returns : goal.returns
returns c = λ packet first second other_first other_second h g. one_covered packet first second other_first other_second h g
