use Rattle.std.proofs.Common.{rules, ◌≡◌, Ok, arith}
use Rattle.ndn_tlv.specs.Reading.{elements_of}
use Rattle.ndn_packets.specs.Fields.{interest_schema, is_even_high}
use Rattle.ndn_packets.specs.SoFar.{interest_so_far}
use Rattle.ndn_packets.specs.Reading.{read_fields, take_interest_field, no_fields_yet, fields_from}
use Rattle.ndn_packets.proofs.Parameters.{noted_octets}
use Rattle.ndn_packets.proofs.Marks.{interest_still, interest_last}
use Rattle.ndn_packets.proofs.interest.fields_of.Goals as goal

pub loop-field-preserved : goal.loop-field-preserved
loop-field-preserved c = (search rules, search (rules, interest_still))

pub returns-clause-parameters : goal.returns-clause-parameters
returns-clause-parameters c =
    let read_all : read_fields take_interest_field no_fields_yet (fields_from is_even_high interest_schema (elements_of c.args.rest.now)) ≡ Ok (interest_so_far c.loop-field.found) = search rules in
    (interest_last _ _ _ c.args.rest.now c.loop-field.fields c.loop-field.found.parameters c.loop-field.found.info c.loop-field.found.value c.loop-field.found.from_parameters.now c.loop-field.found.from_value.now c.loop-field.invariant.1 _
    (noted_octets c.args.rest.now c.loop-field.found.from_parameters.now (interest_so_far c.loop-field.found) (λ i. omega (arith, c.type_inv.rest i)) read_all)).0

pub returns-clause-value : goal.returns-clause-value
returns-clause-value c =
    (interest_last _ _ _ c.args.rest.now c.loop-field.fields c.loop-field.found.parameters c.loop-field.found.info c.loop-field.found.value c.loop-field.found.from_parameters.now c.loop-field.found.from_value.now c.loop-field.invariant.1 (Unit {0}) (λ e. tt)).1
