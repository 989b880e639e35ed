use Rattle.std.proofs.Common.{refl}
use Rattle.ndn_packets.proofs.Covers.{data_covered, interest_covered, data_ends, interest_ends}
use Rattle.ndn_packets.proofs.covered.signed_packets_have_covered_octets.Goals as goal

pub returns-clause-data : goal.returns-clause-data
returns-clause-data c = λ text d h. (let covered = data_covered text d h in (covered.0, (covered.1, refl)))

pub returns-clause-interest : goal.returns-clause-interest
returns-clause-interest c = λ text i h. interest_covered text i h

pub returns-clause-data_ends : goal.returns-clause-data_ends
returns-clause-data_ends c = λ text covered d h covers. data_ends text d covered h covers.0

pub returns-clause-interest_ends : goal.returns-clause-interest_ends
returns-clause-interest_ends c = λ text first second i s h signed covers. interest_ends text i s first second h signed covers
