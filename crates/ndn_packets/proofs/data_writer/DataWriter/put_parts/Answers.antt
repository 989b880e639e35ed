use Rattle.std.proofs.lemmas.Grind.{common_steps}
use Rattle.std.proofs.Common.{rules, ◌≡◌, ◌∙◌, ◌++◌, ℕ, arith, ap, sym, length}
use Rattle.std.proofs.lemmas.List.{length-append}
use Rattle.ndn_tlv.specs.Number.{spelling}
use Rattle.ndn_names.specs.View.{components}
use Rattle.ndn_tlv.specs.Writing.{octets}
use Rattle.ndn_packets.specs.Writing.{fields_covered, data_value, meta_asked, content_asked}
use Rattle.ndn_tlv.proofs.Lengths.{length-element}
use Rattle.ndn_packets.proofs.Lengths.{length-value_of}
use Rattle.ndn_packets.proofs.DataWriting.{packet_parts}
use Rattle.ndn_packets.proofs.data_writer.DataWriter.put_parts.Goals as goal

pub returns-in_err-put_covered : goal.returns-in_err-put_covered
returns-in_err-put_covered c = record {
  ok = search rules;
  begins = grind (arith, common_steps);
  room = λ room.
      let w = c.args.self.now in
      let total = packet_parts c.args.value_len (fields_covered w) (data_value w.sign (components w.name) (meta_asked w) (content_asked w)) c.requires (omega (arith, room, c.args.out.now.small)) in
      grind (arith, length-append, ap length c.in_ok-put_header.ensures.ok);
  capacity = search rules;
}

pub returns-in_err-put_element : goal.returns-in_err-put_element
returns-in_err-put_element c = record {
  ok = search rules;
  begins = grind (arith, common_steps);
  room = λ room.
      let w = c.args.self.now in
      let covered = octets (fields_covered w) in
      let value = data_value w.sign (components w.name) (meta_asked w) (content_asked w) in
      let made = c.value-value.result in
      let header = spelling 6 ++ spelling c.args.value_len in
      let total = packet_parts c.args.value_len (fields_covered w) value c.requires (omega (arith, room, c.args.out.now.small)) in
      let same : length made ≡ length value = ap length c.value-value.ensures ∙ (length-value_of w.sign _ ∙ sym (length-value_of w.sign covered)) in
      let fits = c.in_err-put_element.ensures.room (omega (
        arith,
        room,
        total,
        same,
        ap (λ (n : ℕ). length (spelling n)) same,
        length-element 23 made,
        length-element 23 value,
        ap length c.in_ok-reserve.ensures.items,
        c.in_ok-reserve.ensures.capacity,
        c.in_ok-put_header.ensures.capacity,
        c.in_ok-put_covered.ensures.capacity,
        ap length c.in_ok-put_header.ensures.ok,
        ap length c.in_ok-put_covered.ensures.ok,
        length-append c.reserve.new.self.items header,
        length-append c.put_header.new.out.items covered,
      )) in
      absurd cc;
  capacity = search rules;
}
