use Rattle.std.proofs.Common.{◌≡◌, drop}
use Rattle.ndn_packets.specs.Reading.{schema_after}
use Rattle.ndn_packets.proofs.field_reader.rest_of_schema.Given as goal

abbrev pub invariant-loop-i : goal.invariant-loop-i
invariant-loop-i l = schema_after l.kind (drop l.i l.schema) ≡ schema_after l.kind l.schema
