use Rattle.std.specs.Prelude.{None}
use Rattle.ndn_names.specs.View.{components}
use Rattle.ndn_tlv.specs.Writing.{octets}
use Rattle.ndn_packets.specs.Writing.{meta_asked, content_asked, info_fields}
use Rattle.ndn_packets.proofs.DataWriting.{covered_is_long}
use Rattle.ndn_packets.proofs.data_writer.DataWriter.covered_len.Goals as goal

pub returns-clause-len : goal.returns-clause-len
returns-clause-len c =
    let writer = c.args.self.now in
    let name = components writer.name in
    rw (c.saturating_add-3.ensures, c.saturating_add-2.ensures, c.saturating_add.ensures)
    (covered_is_long writer.sign name (meta_asked writer) (content_asked writer) c.name_element_len.result c.meta_field_len.result c.optional_len.result c.element_len.result
    c.name_element_len.ensures.len c.meta_field_len.ensures.len c.optional_len.ensures.len
    (c.element_len.ensures (octets (info_fields writer.sign None None)) c.info_len.ensures.len))

pub returns-clause-sound : goal.returns-clause-sound
returns-clause-sound c = record {
  name = c.name_element_len.ensures.sound;
  freshness = c.meta_field_len.ensures.freshness;
  last = c.meta_field_len.ensures.last;
  content = c.optional_len.ensures.sound;
  sign = c.info_len.ensures.sign;
}
