use Rattle.info_rules.proofs.Shapes.{interest_shape, data_shape}
use Rattle.info_rules.proofs.packet.read_packets_have_a_shape.Goals as goal

pub returns-clause-data : goal.returns-clause-data
returns-clause-data c = λ text d reason read. data_shape text d reason read

pub returns-clause-interest : goal.returns-clause-interest
returns-clause-interest c = λ text i s read is. interest_shape text i s read is
