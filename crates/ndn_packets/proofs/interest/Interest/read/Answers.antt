use Rattle.std.proofs.Common.{rules, ◌≡◌, ◌∙◌, ℕ, false, ltb, List, length, Option, None, Some, Result, Ok, refl, sym, ap, subst}
use Rattle.std.specs.Prelude.{OnSome}
use Rattle.std.specs.Option.{option_map}
use Rattle.sha2.specs.Sha256.{sha256}
use Rattle.ndn_tlv.specs.declared.fault.TlvFault.{TlvFault}
use Rattle.ndn_tlv.specs.Element.{Field, IsElement}
use Rattle.ndn_tlv.specs.Reading.{elements_of}
use Rattle.ndn_names.specs.View.{components}
use Rattle.ndn_packets.specs.Packet.{PlainInterest, PlainSignature, PlainSignatureInfo, plain_signature, digests_in}
use Rattle.ndn_packets.specs.Fields.{interest_schema, is_even_high}
use Rattle.ndn_packets.specs.SoFar.{interest_so_far, plain_info}
use Rattle.ndn_packets.specs.Covered.{HoldsSecond}
use Rattle.ndn_packets.specs.Reading.{InterestSoFar, leading_name_at, is_nil, read_fields, take_interest_field, no_fields_yet, fields_from, digest_fault, parameters_on, octets_of_read, interest_made, signature_of, interest_at}
use Rattle.ndn_packets.specs.FrameReading.{interest_of}
use Rattle.ndn_packets.proofs.Rules.{nil_tests}
use Rattle.ndn_packets.proofs.Steps.{IsBytes-inside}
use Rattle.ndn_packets.proofs.Digests.{fault_is, fault_read}
use Rattle.ndn_packets.proofs.Covers.{second_noted, second_within, noted_after}
use Rattle.ndn_packets.proofs.Packets.{interest_of_found}
use Rattle.ndn_packets.proofs.interest.Interest.read.Goals as goal
use Rattle.ndn_packets.proofs.interest.Interest.read.Goals.{After-second_part}

pub returns-in-Some-digest_fault-clause-exact : goal.returns-in-Some-digest_fault-clause-exact
unfolding interest_at
returns-in-Some-digest_fault-clause-exact c =
    let right = sha256 c.in_ok-found.found.from_parameters.now in
    let parameters = option_map (λ p. p.now) c.in_ok-found.found.parameters in
    let fault = c.digest_fault.ensures ∙ sym (fault_is (components c.in_ok-name.name) parameters c.in_ok-name.digest right c.in_ok-name.ensures.digest) in
    search (rules, nil_tests, fault)

read_whole : (text value : List ℕ) (name : List Field) (later : List (Result Field TlvFault)) (s : InterestSoFar) (nonce : List ℕ) → ltb 8800 (length text) ≡ false → leading_name_at (elements_of value) ≡ Ok (name, later) → is_nil name ≡ false
    → read_fields take_interest_field no_fields_yet (fields_from is_even_high interest_schema later) ≡ Ok s → s.nonce ≡ Some nonce → digest_fault s.parameters (digests_in name) (sha256 (octets_of_read (parameters_on later))) ≡ None
    → interest_of text value ≡ Ok (interest_made name s nonce)
unfolding interest_at
read_whole text value name later s nonce short named some read made right = rw (short, named, some, read, made, right) refl

-- the Interest that is returned
abbrev made : (c : After-second_part) → PlainInterest
made c =
    let found = c.in_ok-found.found in
    record (interest_made (components c.in_ok-name.name) (interest_so_far found) c.in-Some.nonce) { signature = option_map plain_signature c.signature_of-signature.result }

is_read : (c : After-second_part) → interest_of c.args.outer.whole.now c.args.outer.value.now ≡ Ok (made c)
is_read c =
    let name = components c.in_ok-name.name in
    let later = elements_of c.in_ok-name.rest.now in
    let found = c.in_ok-found.found in
    let short : ltb 8800 (length c.args.outer.whole.now) ≡ false = search rules in
    let named : leading_name_at (elements_of c.args.outer.value.now) ≡ Ok (name, later) = search rules in
    let some : is_nil name ≡ false = search (rules, nil_tests) in
    let read : read_fields take_interest_field no_fields_yet (fields_from is_even_high interest_schema later) ≡ Ok (interest_so_far found) = search rules in
    let right = fault_read _ name found.parameters c.in_ok-name.digest found.from_parameters.now (octets_of_read (parameters_on later)) c.in_ok-name.ensures.digest c.in_ok-found.ensures.parameters ∙ sym c.digest_fault.ensures ∙ c.in_default-digest_fault.is in
    read_whole c.args.outer.whole.now c.args.outer.value.now name later (interest_so_far found) c.in-Some.nonce short named some read c.in-Some.is right
    ∙ ap (λ (s : Option PlainSignature). Ok (record (interest_made name (interest_so_far found) c.in-Some.nonce) { signature = s })) (sym c.signature_of-signature.ensures)

pub returns-clause-exact : goal.returns-clause-exact
returns-clause-exact c = sym (is_read c.before)

-- if a statement holds when there is an InterestSignatureValue, it also holds when there is a
-- signature, because each signature has an InterestSignatureValue
noted : {A B C : Type 0} (f : A → PlainSignature) (g : B → PlainSignatureInfo) (h : C → List ℕ) (s : Option A) (info : Option B) (value : Option C) (X : Type 0) → option_map f s ≡ signature_of (option_map g info) (option_map h value) → OnSome value X
    → OnSome s X × OnSome (option_map f s) X
noted f g h None info value X is at = (tt, tt)
noted f g h (Some s) None value X is at = absurd cc
noted f g h (Some s) (Some i) None X is at = absurd cc
noted f g h (Some s) (Some i) (Some v) X is at = (at, at)

on_some : {A : Type 0} (o : Option A) (X Y : Type 0) → (X → Y) → OnSome o X → OnSome o Y
on_some None X Y f h = tt
on_some (Some x) X Y f h = f h

pub second_part-requires : goal.second_part-requires
second_part-requires c =
    let whole = c.args.outer.whole.now in
    let value = c.args.outer.value.now in
    let found = c.in_ok-found.found in
    let own : IsElement whole 5 value = subst (λ kind. IsElement whole kind value) c.requires c.args.outer.spelled in
    let fits = IsBytes-inside whole value 5 c.is_too_long.ensures.octets own in
    on_some c.signature_of-signature.result _ _
    (λ at. second_within value found.from_parameters.now found.from_value.now fits (noted_after value c.in_ok-name.rest.now found.from_parameters.now found.from_value.now c.in_ok-name.ensures.place at))
    (noted plain_signature plain_info (λ v. v.now) c.signature_of-signature.result found.info found.value _ c.signature_of-signature.ensures c.in_ok-found.ensures.value).0

pub invariant_of-result : goal.invariant_of-result
invariant_of-result c =
    let whole = c.args.outer.whole.now in
    let value = c.args.outer.value.now in
    let found = c.in_ok-found.found in
    let own : IsElement whole 5 value = subst (λ kind. IsElement whole kind value) c.requires c.args.outer.spelled in
    let h = interest_of_found whole value (made c) c.is_too_long.ensures.octets own (is_read c) in
    let at = on_some (option_map plain_signature c.signature_of-signature.result) _ _ (noted_after value c.in_ok-name.rest.now found.from_parameters.now found.from_value.now c.in_ok-name.ensures.place)
    (noted plain_signature plain_info (λ v. v.now) c.signature_of-signature.result found.info found.value _ c.signature_of-signature.ensures c.in_ok-found.ensures.value).1 in
    let second = second_noted whole value (made c) c.in_ok-name.digest found.from_parameters.now found.from_value.now h own c.in_ok-name.ensures.digest at in
    record { spelled = ∣ h ∣₁; covers = ∣ subst (HoldsSecond (components c.in_ok-name.name) whole) (sym c.second_part.ensures) second ∣₁ }
