use Rattle.ndn_packets.proofs.FirstFaults.{tells_first_fault}
use Rattle.ndn_packets.proofs.field_reader.fields_tell_the_first_fault.Goals as goal

pub returns : goal.returns
returns c = record {
  interest = tells_first_fault _ _ _ _;
  packet = tells_first_fault _ _ _ _;
  meta_info = tells_first_fault _ _ _ _;
  signature_info = tells_first_fault _ _ _ _;
  nack = tells_first_fault _ _ _ _;
}
