use Rattle.std.proofs.lemmas.Grind.{common_steps}
use Rattle.std.proofs.Common.{rules, arith, ap, length, refl}
use Rattle.std.proofs.lemmas.List.{length-append}
use Rattle.ndn_packets.proofs.Lengths.{info_parts, info_put}
use Rattle.ndn_packets.proofs.field_writer.put_info.Goals as goal

pub returns-in_err-put_nni_element : goal.returns-in_err-put_nni_element
returns-in_err-put_nni_element c = record {
  ok = search rules;
  begins = grind (arith, common_steps);
  room = λ room.
      let total = info_parts c.args.kind c.info_len.result c.args.sign c.args.time c.args.seq c.info_len.ensures.len (omega (arith, room, c.args.out.now.small)) in
      grind (arith, length-append, ap length c.in_ok-put_header.ensures.ok);
  capacity = search rules;
}

pub returns-in_err-put_locator : goal.returns-in_err-put_locator
returns-in_err-put_locator c = record {
  ok = search rules;
  begins = grind (arith, common_steps);
  room = λ room.
      let total = info_parts c.args.kind c.info_len.result c.args.sign c.args.time c.args.seq c.info_len.ensures.len (omega (arith, room, c.args.out.now.small)) in
      grind (arith, length-append, ap length c.in_ok-put_header.ensures.ok, ap length c.in_ok-put_nni_element.ensures.ok);
  capacity = search rules;
}

pub returns-in_err-put_number_field : goal.returns-in_err-put_number_field
returns-in_err-put_number_field c = record {
  ok = search rules;
  begins = grind (arith, common_steps);
  room = λ room.
      let total = info_parts c.args.kind c.info_len.result c.args.sign c.args.time c.args.seq c.info_len.ensures.len (omega (arith, room, c.args.out.now.small)) in
      grind (arith, length-append, ap length c.in_ok-put_header.ensures.ok, ap length c.in_ok-put_nni_element.ensures.ok, ap length c.in_ok-put_locator.ensures.ok);
  capacity = search rules;
}

pub returns-in_err-put_number_field-2 : goal.returns-in_err-put_number_field-2
returns-in_err-put_number_field-2 c = record {
  ok = search rules;
  begins = grind (arith, common_steps);
  room = λ room.
      let total = info_parts c.args.kind c.info_len.result c.args.sign c.args.time c.args.seq c.info_len.ensures.len (omega (arith, room, c.args.out.now.small)) in
      grind (arith, length-append, ap length c.in_ok-put_header.ensures.ok, ap length c.in_ok-put_nni_element.ensures.ok, ap length c.in_ok-put_locator.ensures.ok, ap length c.in_ok-put_number_field.ensures.ok);
  capacity = search rules;
}

pub returns : goal.returns
returns c = record {
  ok =
      let out = c.put_number_field-2.new.out in
      info_put c.args.out.now.items c.args.kind c.info_len.result c.args.sign c.args.time c.args.seq out.items c.info_len.ensures.len
      (rw (c.in_ok-put_number_field-2.ensures.ok, c.in_ok-put_number_field.ensures.ok, c.in_ok-put_locator.ensures.ok, c.in_ok-put_nni_element.ensures.ok, c.in_ok-put_header.ensures.ok, c.kind_of.ensures) refl)
      (omega (arith, out.small, out.ok.0, out.ok.1));
  begins = grind (arith, common_steps);
  room = search rules;
  capacity = search rules;
}
