use Rattle.std.proofs.Common.{◌≡◌, length}
use Rattle.ndn_tlv.specs.Reading.{elements_of}
use Rattle.ndn_packets.specs.Fields.{data_schema, is_even_high}
use Rattle.ndn_packets.specs.FieldReader.{fields_left}
use Rattle.ndn_packets.specs.SoFar.{so_far}
use Rattle.ndn_packets.specs.Reading.{read_fields, take_data_field, nothing_yet, fields_from}
use Rattle.ndn_packets.proofs.Marks.{DataMark}
use Rattle.ndn_packets.proofs.data.fields_of.Given as goal

abbrev pub invariant-loop-field : goal.invariant-loop-field
invariant-loop-field l =
    (read_fields take_data_field (so_far l.found) (fields_left l.fields) ≡ read_fields take_data_field nothing_yet (fields_from is_even_high data_schema (elements_of l.fn.rest)))
    × DataMark l.fn.rest l.fields (so_far l.found).value l.found.from_value.now

abbrev pub decreases-loop-field : goal.decreases-loop-field
decreases-loop-field l = length l.fields.rest.now
