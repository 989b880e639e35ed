use Rattle.std.proofs.Common.{◌≡◌, length}
use Rattle.ndn_tlv.specs.Reading.{elements_of}
use Rattle.ndn_packets.specs.Link.{nack_schema}
use Rattle.ndn_packets.specs.Fields.{is_even_high}
use Rattle.ndn_packets.specs.FieldReader.{fields_left}
use Rattle.ndn_packets.specs.Reading.{read_fields, fields_from}
use Rattle.ndn_packets.specs.FrameReading.{take_nack_field}
use Rattle.ndn_packets.proofs.link.nack_reason.Given as goal

abbrev pub invariant-loop-field : goal.invariant-loop-field
invariant-loop-field l = read_fields take_nack_field l.reason (fields_left l.fields) ≡ read_fields take_nack_field 0 (fields_from is_even_high nack_schema (elements_of l.fn.value))

abbrev pub decreases-loop-field : goal.decreases-loop-field
decreases-loop-field l = length l.fields.rest.now
