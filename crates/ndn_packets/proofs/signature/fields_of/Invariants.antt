use Rattle.std.proofs.Common.{◌≡◌, length}
use Rattle.ndn_tlv.specs.Reading.{elements_of}
use Rattle.ndn_packets.specs.Fields.{info_schema, is_ignored_in_signature_info}
use Rattle.ndn_packets.specs.FieldReader.{fields_left}
use Rattle.ndn_packets.specs.SoFar.{info_so_far}
use Rattle.ndn_packets.specs.Reading.{read_fields, take_info_field, no_info_yet, fields_from}
use Rattle.ndn_packets.proofs.signature.fields_of.Given as goal

abbrev pub invariant-loop-field : goal.invariant-loop-field
invariant-loop-field l = read_fields take_info_field (info_so_far l.found) (fields_left l.fields) ≡ read_fields take_info_field no_info_yet (fields_from is_ignored_in_signature_info info_schema (elements_of l.fn.value))

abbrev pub decreases-loop-field : goal.decreases-loop-field
decreases-loop-field l = length l.fields.rest.now
