use Rattle.std.proofs.lemmas.Grind.{common_steps}
use Rattle.std.proofs.Common.{[], ◌∷◌, ◌++◌, rules, append_assoc, vec_len, arith, ap, length}
use Rattle.std.specs.Option.{option_map}
use Rattle.std.proofs.lemmas.List.{length-append}
use Rattle.ndn_tlv.specs.Element.{element}
use Rattle.ndn_tlv.specs.Writing.{octets, number, flag}
use Rattle.ndn_tlv.proofs.Lengths.{begins_more}
use Rattle.ndn_packets.proofs.InterestWriting.{early_length, early_put}
use Rattle.ndn_packets.proofs.interest_writer.InterestWriter.put_early.Goals as goal

pub returns-in_err-put_number_field : goal.returns-in_err-put_number_field
returns-in_err-put_number_field c = record {
  ok = search rules;
  begins =
      let writer = c.args.self.now in
      let old = c.args.out.now.items in
      let prefix = octets (flag 33 writer.can_be_prefix) in
      let fresh = octets (flag 18 writer.must_be_fresh) in
      let nonce = element (10, writer.nonce) in
      begins_more old c.put_element.new.out.items c.put_number_field.new.out.items ((prefix ++ fresh) ++ nonce)
      (vec_len c.args.out.now) (vec_len c.put_element.new.out) (search rules) (search rules)
      (rw (c.in_ok-put_element.ensures.ok, c.in_ok-put_flag-2.ensures.ok, c.in_ok-put_flag.ensures.ok) (simp append_assoc)) c.in_err-put_number_field.ensures.begins;
  room =
      let writer = c.args.self.now in
      λ room.
      let fits = c.in_err-put_number_field.ensures.room (omega (
        arith,
        room,
        early_length writer.can_be_prefix writer.must_be_fresh writer.nonce writer.lifetime (option_map (λ limit. limit ∷ []) writer.hop_limit),
        c.in_ok-put_flag.ensures.capacity,
        c.in_ok-put_flag-2.ensures.capacity,
        c.in_ok-put_element.ensures.capacity,
        ap length c.in_ok-put_flag.ensures.ok,
        ap length c.in_ok-put_flag-2.ensures.ok,
        ap length c.in_ok-put_element.ensures.ok,
        length-append c.args.out.now.items (octets (flag 33 writer.can_be_prefix)),
        length-append c.put_flag.new.out.items (octets (flag 18 writer.must_be_fresh)),
        length-append c.put_flag-2.new.out.items (element (10, writer.nonce)),
      )) in
      absurd cc;
  capacity = search rules;
}

pub returns-in_err-put_octet_field : goal.returns-in_err-put_octet_field
returns-in_err-put_octet_field c = record {
  ok = search rules;
  begins =
      let writer = c.args.self.now in
      let old = c.args.out.now.items in
      let prefix = octets (flag 33 writer.can_be_prefix) in
      let fresh = octets (flag 18 writer.must_be_fresh) in
      let nonce = element (10, writer.nonce) in
      let lifetime = octets (number 12 writer.lifetime) in
      begins_more old c.put_number_field.new.out.items c.put_octet_field.new.out.items (((prefix ++ fresh) ++ nonce) ++ lifetime)
      (vec_len c.args.out.now) (vec_len c.put_number_field.new.out) (search rules) (search rules)
      (rw (c.in_ok-put_number_field.ensures.ok, c.in_ok-put_element.ensures.ok, c.in_ok-put_flag-2.ensures.ok, c.in_ok-put_flag.ensures.ok) (simp append_assoc)) c.in_err-put_octet_field.ensures.begins;
  room =
      let writer = c.args.self.now in
      λ room.
      let fits = c.in_err-put_octet_field.ensures.room (omega (
        arith,
        room,
        early_length writer.can_be_prefix writer.must_be_fresh writer.nonce writer.lifetime (option_map (λ limit. limit ∷ []) writer.hop_limit),
        c.in_ok-put_flag.ensures.capacity,
        c.in_ok-put_flag-2.ensures.capacity,
        c.in_ok-put_element.ensures.capacity,
        c.in_ok-put_number_field.ensures.capacity,
        ap length c.in_ok-put_flag.ensures.ok,
        ap length c.in_ok-put_flag-2.ensures.ok,
        ap length c.in_ok-put_element.ensures.ok,
        ap length c.in_ok-put_number_field.ensures.ok,
        length-append c.args.out.now.items (octets (flag 33 writer.can_be_prefix)),
        length-append c.put_flag.new.out.items (octets (flag 18 writer.must_be_fresh)),
        length-append c.put_flag-2.new.out.items (element (10, writer.nonce)),
        length-append c.put_element.new.out.items (octets (number 12 writer.lifetime)),
      )) in
      absurd cc;
  capacity = search rules;
}

pub returns : goal.returns
returns c = record {
  ok =
      let writer = c.args.self.now in
      rw (c.in_ok-put_octet_field.ensures.ok, c.in_ok-put_number_field.ensures.ok, c.in_ok-put_element.ensures.ok, c.in_ok-put_flag-2.ensures.ok, c.in_ok-put_flag.ensures.ok)
      (early_put c.args.out.now.items writer.can_be_prefix writer.must_be_fresh writer.nonce writer.lifetime (option_map (λ limit. limit ∷ []) writer.hop_limit));
  begins = grind (arith, common_steps);
  room = search rules;
  capacity = search rules;
}
