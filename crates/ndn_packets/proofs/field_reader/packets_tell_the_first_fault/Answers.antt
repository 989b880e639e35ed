use Rattle.ndn_packets.proofs.PacketFaults.{interest_tells, data_tells, info_tells}
use Rattle.ndn_packets.proofs.field_reader.packets_tell_the_first_fault.Goals as goal

pub returns : goal.returns
returns c = record { interest = interest_tells; packet = data_tells; signature_info = info_tells }
