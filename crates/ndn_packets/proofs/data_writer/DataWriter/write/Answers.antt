use Rattle.ndn_packets.proofs.Written.{data_reads_back, data_signed}
use Rattle.ndn_packets.proofs.data_writer.DataWriter.write.Goals as goal

pub returns-in_err-put-clause-reads_back : goal.returns-in_err-put-clause-reads_back
returns-in_err-put-clause-reads_back c = data_reads_back c.args.self.now c.value_len-value_len.ensures.sound

pub returns-in_err-put-clause-signed : goal.returns-in_err-put-clause-signed
returns-in_err-put-clause-signed c = data_signed c.args.self.now c.value_len-value_len.ensures.sound

pub returns-clause-reads_back : goal.returns-clause-reads_back
returns-clause-reads_back c = data_reads_back c.args.self.now c.value_len-value_len.ensures.sound

pub returns-clause-signed : goal.returns-clause-signed
returns-clause-signed c = data_signed c.args.self.now c.value_len-value_len.ensures.sound

pub returns-then-element_len-gt-MAX_PACKET-clause-reads_back : goal.returns-then-element_len-gt-MAX_PACKET-clause-reads_back
returns-then-element_len-gt-MAX_PACKET-clause-reads_back c = data_reads_back c.args.self.now c.value_len-value_len.ensures.sound

pub returns-then-element_len-gt-MAX_PACKET-clause-signed : goal.returns-then-element_len-gt-MAX_PACKET-clause-signed
returns-then-element_len-gt-MAX_PACKET-clause-signed c = data_signed c.args.self.now c.value_len-value_len.ensures.sound
