use Rattle.std.proofs.lemmas.Grind.{common_steps}
use Rattle.std.proofs.Common.{rules, ◌≡◌, ◌∙◌, ◌++◌, true, arith, ap, sym, length, replicate}
use Rattle.std.specs.Prelude.{not}
use Rattle.std.proofs.lemmas.List.{length-append}
use Rattle.ndn_names.specs.View.{components}
use Rattle.ndn_tlv.specs.Number.{spelling}
use Rattle.ndn_tlv.specs.Element.{element}
use Rattle.ndn_packets.specs.Reading.{is_nil}
use Rattle.ndn_tlv.specs.Writing.{octets}
use Rattle.ndn_packets.specs.Writing.{later_fields, name_with}
use Rattle.ndn_packets.proofs.InterestWriting.{zeroed_is_long, zeroed_begin, zeroed_put}
use Rattle.ndn_packets.proofs.interest_writer.InterestWriter.put_name.Goals as goal

pub returns-in_err-put_header : goal.returns-in_err-put_header
returns-in_err-put_header c = record {
  ok = search rules;
  begins = grind (arith, common_steps);
  room =
      let writer = c.args.self.now in
      let name = components writer.name in
      let later = later_fields writer writer.sign in
      let long = zeroed_is_long c.args.name_len name later c.requires.len c.requires.short in
      λ room.
      let fits = c.in_err-put_header.ensures.room (omega (arith, room, zeroed_begin name later c.args.name_len long)) in
      absurd cc;
  capacity = search rules;
}

pub returns-in_err-extend_from_slice : goal.returns-in_err-extend_from_slice
returns-in_err-extend_from_slice c = record {
  ok = search rules;
  begins = grind (arith, common_steps);
  room =
      let writer = c.args.self.now in
      let name = components writer.name in
      let later = later_fields writer writer.sign in
      let long = zeroed_is_long c.args.name_len name later c.requires.len c.requires.short in
      let header = spelling 7 ++ spelling c.args.name_len in
      λ room.
      let fits = c.in_err-extend_from_slice.ensures.succeeds (omega (
        arith,
        room,
        zeroed_begin name later c.args.name_len long,
        ap length c.as_octets.ensures.0.1,
        c.in_ok-put_header.ensures.capacity,
        ap length c.in_ok-put_header.ensures.ok,
        length-append c.args.out.now.items header,
      )) in
      absurd cc;
  capacity = search rules;
}

pub returns-in_err-put_element : goal.returns-in_err-put_element
returns-in_err-put_element c = record {
  ok = search rules;
  begins = grind (arith, common_steps);
  room =
      let writer = c.args.self.now in
      let name = components writer.name in
      let later = later_fields writer writer.sign in
      let some : not (is_nil later) ≡ true = sym c.has_digest.ensures ∙ c.if-has_digest.true in
      let long = zeroed_is_long c.args.name_len name later c.requires.len c.requires.short in
      let whole = element (7, octets (name_with (replicate 32 0) name later)) in
      let written : c.extend_from_slice.new.self.items ++ element (2, replicate 32 0) ≡ c.args.out.now.items ++ whole =
      rw (c.in_ok-extend_from_slice.ensures.items, c.in_ok-put_header.ensures.ok)
      (zeroed_put c.args.out.now.items c.as_octets.result.now name later c.args.name_len some c.as_octets.ensures long) in
      λ room.
      let fits = c.in_err-put_element.ensures.room (rw c.from.ensures (omega (
        arith,
        room,
        c.in_ok-put_header.ensures.capacity,
        c.in_ok-extend_from_slice.ensures.capacity,
        ap length written,
        length-append c.extend_from_slice.new.self.items (element (2, replicate 32 0)),
        length-append c.args.out.now.items whole,
      ))) in
      absurd cc;
  capacity = search rules;
}

pub returns-in_ok-put_element : goal.returns-in_ok-put_element
returns-in_ok-put_element c = record {
  ok =
      let writer = c.args.self.now in
      let name = components writer.name in
      let later = later_fields writer writer.sign in
      let some : not (is_nil later) ≡ true = sym c.has_digest.ensures ∙ c.if-has_digest.true in
      rw (c.in_ok-put_element.ensures.ok, c.in_ok-extend_from_slice.ensures.items, c.in_ok-put_header.ensures.ok, c.from.ensures)
      (zeroed_put c.args.out.now.items c.as_octets.result.now name later c.args.name_len some c.as_octets.ensures (zeroed_is_long c.args.name_len name later c.requires.len c.requires.short));
  begins = grind (arith, common_steps);
  room = search rules;
  capacity = search rules;
}
