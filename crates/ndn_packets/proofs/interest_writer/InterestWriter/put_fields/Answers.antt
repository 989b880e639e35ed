use Rattle.std.proofs.lemmas.Grind.{common_steps}
use Rattle.std.proofs.Common.{◌≡◌, ◌∙◌, ◌++◌, true, arith, ap, sym, rules, length, take, drop, refl, vec_len, replicate}
use Rattle.std.specs.Prelude.{not}
use Rattle.std.proofs.lemmas.List.{length-append, take_at}
use Rattle.ndn_names.specs.View.{components}
use Rattle.ndn_tlv.specs.Element.{element}
use Rattle.ndn_packets.specs.Reading.{is_nil}
use Rattle.ndn_tlv.specs.Writing.{octets}
use Rattle.ndn_packets.specs.Writing.{early_fields, later_fields, name_with}
use Rattle.ndn_packets.proofs.InterestWriting.{zeroed_value, zeroed_holds_digest, digest_put}
use Rattle.ndn_packets.proofs.interest_writer.InterestWriter.put_fields.Goals as goal

pub returns-in_err-put_name : goal.returns-in_err-put_name
returns-in_err-put_name c = record {
  ok = search rules;
  begins = grind (arith, common_steps);
  room =
      let writer = c.args.self.now in
      let name = components writer.name in
      let early = early_fields writer in
      let later = later_fields writer writer.sign in
      λ room.
      let fits = c.in_err-put_name.ensures.room (omega (arith, room, zeroed_value name early later)) in
      absurd cc;
  capacity = search rules;
}

pub returns-in_err-put_early : goal.returns-in_err-put_early
returns-in_err-put_early c = record {
  ok = search rules;
  begins = grind (arith, common_steps);
  room =
      let writer = c.args.self.now in
      let name = components writer.name in
      let early = early_fields writer in
      let later = later_fields writer writer.sign in
      let first = element (7, octets (name_with (replicate 32 0) name later)) in
      λ room.
      let fits = c.in_err-put_early.ensures.room (omega (
        arith,
        room,
        zeroed_value name early later,
        c.in_ok-put_name.ensures.capacity,
        ap length c.in_ok-put_name.ensures.ok,
        length-append c.args.out.now.items first,
      )) in
      absurd cc;
  capacity = search rules;
}

pub returns-in_err-put_later : goal.returns-in_err-put_later
returns-in_err-put_later c = record {
  ok = search rules;
  begins = grind (arith, common_steps);
  room =
      let writer = c.args.self.now in
      let name = components writer.name in
      let early = early_fields writer in
      let later = later_fields writer writer.sign in
      let first = element (7, octets (name_with (replicate 32 0) name later)) in
      λ room.
      let fits = c.in_err-put_later.ensures.room (omega (
        arith,
        room,
        zeroed_value name early later,
        c.in_ok-put_name.ensures.capacity,
        c.in_ok-put_early.ensures.capacity,
        ap length c.in_ok-put_name.ensures.ok,
        ap length c.in_ok-put_early.ensures.ok,
        length-append c.args.out.now.items first,
        length-append c.put_name.new.out.items (octets early),
      )) in
      absurd cc;
  capacity = search rules;
}

pub put_digest-requires-clause-after : goal.put_digest-requires-clause-after
put_digest-requires-clause-after c =
    let writer = c.args.self.now in
    let name = components writer.name in
    let later = later_fields writer writer.sign in
    let some : not (is_nil later) ≡ true = sym c.has_digest.ensures ∙ c.if-has_digest.true in
    let first = element (7, octets (name_with (replicate 32 0) name later)) in
    omega (arith, zeroed_holds_digest name later some, c.len-digest_end.ensures, ap length c.in_ok-put_name.ensures.ok, length-append c.args.out.now.items first)

pub returns-then-has_digest : goal.returns-then-has_digest
returns-then-has_digest c =
    let writer = c.args.self.now in
    let name = components writer.name in
    let early = early_fields writer in
    let later = later_fields writer writer.sign in
    let some : not (is_nil later) ≡ true = sym c.has_digest.ensures ∙ c.if-has_digest.true in
    let items = c.put_later.new.out.items in
    let zeroed : items ≡ ((c.args.out.now.items ++ element (7, octets (name_with (replicate 32 0) name later))) ++ octets early) ++ octets later =
    rw (c.in_ok-put_later.ensures.ok, c.in_ok-put_early.ensures.ok, c.in_ok-put_name.ensures.ok) refl in
    let written = c.put_digest.new.octets in
    let n = vec_len c.args.out.now in
    let done =
    take_at written (drop (length written) items) c.put_later.new.out.len (omega (arith, c.put_digest.auto.octets, c.deref_mut.ensures.len))
    ∙ (c.put_digest.ensures
    ∙ rw c.deref_mut.ensures.value
    (digest_put c.args.out.now.items name early later items c.len-digest_end.result c.len-start.result some zeroed
    (omega (arith, c.len-digest_end.ensures, ap length c.in_ok-put_name.ensures.ok))
    (omega (arith, c.len-digest_end.ensures, c.len-start.ensures, ap length c.in_ok-put_early.ensures.ok, length-append c.put_name.new.out.items (octets early))))) in
    record {
      ok = done;
      begins = ap (take n) done ∙ take_at c.args.out.now.items _ n (search rules);
      room = search rules;
      capacity = search rules;
    }
