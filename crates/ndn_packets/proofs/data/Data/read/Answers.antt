use Rattle.std.proofs.Common.{rules, ◌≡◌, ◌≢◌, ℕ, List, Option, None, Some, Ok, refl, subst, ◌∙◌}
use Rattle.std.specs.Prelude.{OnSome}
use Rattle.std.proofs.lemmas.Bool.{eqb-false}
use Rattle.std.specs.Option.{option_map}
use Rattle.ndn_tlv.specs.Element.{IsElement}
use Rattle.ndn_names.specs.View.{components}
use Rattle.ndn_packets.specs.Packet.{PlainData, plain_signature}
use Rattle.ndn_packets.specs.Reading.{data_at}
use Rattle.ndn_packets.specs.FrameReading.{data_of}
use Rattle.ndn_packets.specs.Covered.{from_first}
use Rattle.ndn_packets.proofs.Covers.{data_covers}
use Rattle.ndn_packets.proofs.Cuts.{cut_within}
use Rattle.ndn_packets.proofs.Steps.{IsBytes-inside}
use Rattle.ndn_packets.proofs.Packets.{data_of_found}
use Rattle.ndn_packets.proofs.data.Data.read.Goals as goal

-- the octets from the SignatureValue on are the same in the fields after the Name and in the whole
-- TLV-VALUE of the Data
noted : {A : Type 0} (octets rest : List ℕ) (o : Option A) (from : List ℕ) (value : A) → ((kind : ℕ) → kind ≢ 7 → from_first kind octets ≡ from_first kind rest) → OnSome o (from_first 23 rest ≡ Some from) → o ≡ Some value
    → from_first 23 octets ≡ Some from
noted octets rest None from value place mark is = absurd cc
noted octets rest (Some x) from value place mark is = place 23 (eqb-false 23 7 refl) ∙ mark

pub invariant_of-result : goal.invariant_of-result
unfolding data_at
invariant_of-result c =
    let whole = c.args.outer.whole.now in
    let value = c.args.outer.value.now in
    let d : PlainData = record {
      name = components c.in_ok-name.name;
      freshness = c.in_ok-found.found.freshness;
      content = option_map (λ x. x.now) c.in_ok-found.found.content;
      signature = plain_signature c.with_value.result;
    } in
    let own : IsElement whole 6 value = subst (λ kind. IsElement whole kind value) c.requires c.args.outer.spelled in
    let read : data_of whole value ≡ Ok d = search rules in
    let h = data_of_found whole value d c.is_too_long.ensures.octets own read in
    let found = c.in_ok-found.found in
    let mark = noted value c.in_ok-name.rest.now found.value found.from_value.now c.in-Some-Some.value c.in_ok-name.ensures.place c.in_ok-found.ensures.value c.in-Some-Some.is-1 in
    record { spelled = ∣ h ∣₁; covers = ∣ data_covers whole value c.octets_before.result.now found.from_value.now d h own mark c.octets_before.ensures ∣₁ }

pub octets_before-requires : goal.octets_before-requires
octets_before-requires c =
    let whole = c.args.outer.whole.now in
    let value = c.args.outer.value.now in
    let found = c.in_ok-found.found in
    let mark = noted value c.in_ok-name.rest.now found.value found.from_value.now c.in-Some-Some.value c.in_ok-name.ensures.place c.in_ok-found.ensures.value c.in-Some-Some.is-1 in
    let own : IsElement whole 6 value = subst (λ kind. IsElement whole kind value) c.requires c.args.outer.spelled in
    cut_within 23 value found.from_value.now (IsBytes-inside whole value 6 c.is_too_long.ensures.octets own) mark
