use Rattle.ndn_tlv.specs.Writing.{octets}
use Rattle.ndn_packets.specs.Writing.{interest_name, early_fields, later_fields}
use Rattle.ndn_packets.proofs.InterestWriting.{value_is_long}
use Rattle.ndn_packets.proofs.interest_writer.InterestWriter.lengths.Goals as goal

pub returns-clause-value : goal.returns-clause-value
returns-clause-value c =
    let writer = c.args.self.now in
    rw (c.saturating_add-value.ensures, c.saturating_add.ensures)
    (value_is_long (interest_name writer) (early_fields writer) (later_fields writer writer.sign) c.element_len.result c.early_len.result c.later_len.result
    (c.element_len.ensures (octets (interest_name writer)) c.name_len-name.ensures.len) c.early_len.ensures.len c.later_len.ensures.len)

pub returns-clause-sound : goal.returns-clause-sound
returns-clause-sound c = record {
  name = c.name_len-name.ensures.sound;
  nonce = c.early_len.ensures.nonce;
  nonce_len = c.early_len.ensures.nonce_len;
  lifetime = c.early_len.ensures.lifetime;
  hop_limit = c.early_len.ensures.hop_limit;
  parameters = c.later_len.ensures.parameters;
  time = c.later_len.ensures.time;
  seq = c.later_len.ensures.seq;
  sign = c.later_len.ensures.sign;
}
