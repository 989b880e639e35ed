use Rattle.ndn_packets.proofs.Held.{interest_read, data_read}
use Rattle.ndn_packets.proofs.frame.packets_in_hand_are_read.Goals as goal

pub returns-clause-interest : goal.returns-clause-interest
returns-clause-interest c = λ i. interest_read i

pub returns-clause-data : goal.returns-clause-data
returns-clause-data c = λ d. data_read d
