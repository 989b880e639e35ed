use Rattle.std.proofs.Common.{arith}
use Rattle.ndn_names.specs.View.{components}
use Rattle.ndn_tlv.specs.Writing.{octets}
use Rattle.ndn_packets.specs.Writing.{meta_asked, content_asked, data_fields, data_value}
use Rattle.ndn_packets.proofs.Lengths.{length-value_of}
use Rattle.ndn_packets.proofs.DataWriting.{signed_is_long}
use Rattle.ndn_packets.proofs.data_writer.DataWriter.value_len.Goals as goal

pub returns-clause-len : goal.returns-clause-len
returns-clause-len c =
    let writer = c.args.self.now in
    let name = components writer.name in
    let value = data_value writer.sign name (meta_asked writer) (content_asked writer) in
    rw c.saturating_add.ensures
    (signed_is_long writer.sign name (meta_asked writer) (content_asked writer) c.covered_len.result c.element_len.result value c.covered_len.ensures.len
    (c.element_len.ensures value (omega (arith, length-value_of writer.sign (octets (data_fields writer.sign name (meta_asked writer) (content_asked writer)))))))
