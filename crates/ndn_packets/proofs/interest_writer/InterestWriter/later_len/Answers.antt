use Rattle.std.proofs.Common.{ℕ, List, subst, [], ◌++◌, arith}
use Rattle.ndn_names.specs.View.{components}
use Rattle.std.specs.Prelude.{unwrap_or}
use Rattle.std.specs.Option.{option_map}
use Rattle.ndn_tlv.specs.Writing.{octets}
use Rattle.ndn_packets.specs.Writing.{info_fields, covered_fields, interest_value, IsLength, AreOctets}
use Rattle.ndn_packets.proofs.Lengths.{length-value_of}
use Rattle.ndn_packets.proofs.InterestWriting.{later_is_long, parameters_are_sound}
use Rattle.ndn_packets.proofs.interest_writer.InterestWriter.later_len.Goals as goal

pub returns-in-Some-clause-len : goal.returns-in-Some-clause-len
returns-in-Some-clause-len c =
    let writer = c.args.self.now in
    let parameters = unwrap_or (option_map (λ p. p.now) writer.parameters) [] in
    let info = octets (info_fields c.in-Some.sign writer.time writer.seq) in
    let value = interest_value writer c.in-Some.sign in
    rw (c.in-Some.is, c.saturating_add-in-Some.ensures, c.saturating_add.ensures)
    (later_is_long parameters info value c.element_len.result c.element_len-in-Some.result c.element_len-in-Some-2.result
    (c.element_len.ensures parameters (subst (λ (x : List ℕ). IsLength c.octets_len.result x) c.parameter_octets.ensures c.octets_len.ensures.len))
    (c.element_len-in-Some.ensures info c.info_len.ensures.len)
    (c.element_len-in-Some-2.ensures value (omega (arith, length-value_of c.in-Some.sign (octets (components writer.name) ++ octets (covered_fields writer c.in-Some.sign))))))

pub returns-in-Some-clause-parameters : goal.returns-in-Some-clause-parameters
returns-in-Some-clause-parameters c =
    parameters_are_sound c.args.self.now.parameters (subst (λ (x : List ℕ). AreOctets x) c.parameter_octets.ensures c.octets_len.ensures.sound)
