use Rattle.ndn_streams.proofs.Packets.{fault_no_packet, no_packet_refused, one_fault}
use Rattle.ndn_streams.proofs.law.faults_are_told_at_once.Goals as goal

pub returns-clause-at_once : goal.returns-clause-at_once
returns-clause-at_once c octets bytes = ((λ h. fault_no_packet octets h.0 h.1), no_packet_refused octets bytes)

pub returns-clause-one : goal.returns-clause-one
returns-clause-one c = one_fault
