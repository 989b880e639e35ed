use Rattle.std.proofs.Common.{◌≡◌, length}
use Rattle.ndn_tlv.specs.Reading.{elements_of}
use Rattle.ndn_packets.specs.Fields.{meta_schema, is_ignored_in_meta_info}
use Rattle.ndn_packets.specs.FieldReader.{fields_left}
use Rattle.ndn_packets.specs.Reading.{read_fields, take_meta_field, fields_from}
use Rattle.ndn_packets.proofs.meta_info.freshness_of.Given as goal

abbrev pub invariant-loop-field : goal.invariant-loop-field
invariant-loop-field l = read_fields take_meta_field l.freshness (fields_left l.fields) ≡ read_fields take_meta_field 0 (fields_from is_ignored_in_meta_info meta_schema (elements_of l.fn.meta))

abbrev pub decreases-loop-field : goal.decreases-loop-field
decreases-loop-field l = length l.fields.rest.now
