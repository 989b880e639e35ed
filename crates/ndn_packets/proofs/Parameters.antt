-- The octets of an Interest from its ApplicationParameters on, and the elements in these octets.
use Rattle.std.proofs.Common.{◌≡◌, ℕ, true, false, cond, eqb, List, [], ◌∷◌, ◌++◌, map, Some, Result, Ok, refl, sym, ap, ◌∙◌}
use Rattle.std.specs.List.{filter_map, flat_map, AllByRecursion}
use Rattle.std.specs.Result.{result_ok}
use Rattle.std.proofs.lemmas.Bool.{eqb-true, eqb-false}
use Rattle.std.proofs.lemmas.List.Concat.{flat_map-cons}
use Rattle.ndn_tlv.specs.declared.fault.TlvFault.{TlvFault}
use Rattle.ndn_tlv.specs.Element.{Field, IsField, element}
use Rattle.ndn_tlv.specs.Reading.{element_at, elements_of}
use Rattle.ndn_tlv.proofs.Numbers.{IsBytes}
use Rattle.ndn_tlv.proofs.Fields.{element_again, elements_read}
use Rattle.ndn_packets.specs.Fields.{interest_schema, is_even_high}
use Rattle.ndn_packets.specs.Grammar.{from_parameters}
use Rattle.ndn_packets.specs.Covered.{from_first}
use Rattle.ndn_packets.specs.Reading.{parameters_on, octets_of_read, fields_from, read_fields, InterestSoFar, no_fields_yet, take_interest_field}
use Rattle.ndn_packets.proofs.Steps.{read, some_is, none_is_not_some}
use Rattle.ndn_packets.proofs.FieldLists.{fields_found}
use Rattle.ndn_packets.proofs.Cuts.{next_is, next_other, never_in}

-- ---- the octets of the elements from the ApplicationParameters on

parameters_read : (fields : List Field) → parameters_on (map read fields) ≡ map read (from_parameters fields)
parameters_read [] = refl
parameters_read (f ∷ fields) =
    elim (eqb f.0 36) as (λ b. cond b (read f ∷ map read fields) (parameters_on (map read fields)) ≡ map read (cond b (f ∷ fields) (from_parameters fields))) [
      | true ↦ refl
      | false ↦ parameters_read fields
    ]

octets_read : (fields : List Field) → octets_of_read (map read fields) ≡ flat_map element fields
octets_read [] = refl
octets_read (f ∷ fields) = flat_map-cons element f (filter_map result_ok (map read fields)) ∙ ap (λ (octets : List ℕ). element f ++ octets) (octets_read fields) ∙ sym (flat_map-cons element f fields)

pub parameters_octets : (fields : List Field) → octets_of_read (parameters_on (map read fields)) ≡ flat_map element (from_parameters fields)
parameters_octets fields = ap octets_of_read (parameters_read fields) ∙ octets_read (from_parameters fields)

-- the octets from the first ApplicationParameters on are the octets of the elements that
-- `from_parameters` returns
noted : (fields : List Field) (from : List ℕ) → AllByRecursion IsField fields → from_first 36 (flat_map element fields) ≡ Some from → from ≡ flat_map element (from_parameters fields)
noted [] from sizes e = absurd (none_is_not_some from (sym (never_in 36 [] tt tt) ∙ e))
noted (f ∷ fields) from sizes e =
    let here : Ok (f, flat_map element fields) ≡ element_at (flat_map element (f ∷ fields)) = sym (element_again f (flat_map element fields) sizes.0) in
    elim (eqb f.0 36) as (λ b. eqb f.0 36 ≡ b → from ≡ flat_map element (cond b (f ∷ fields) (from_parameters fields))) [
      | true ↦ λ is. sym (some_is (flat_map element (f ∷ fields)) from (sym (next_is 36 (flat_map element (f ∷ fields)) f (flat_map element fields) here (eqb-true f.0 36 is)) ∙ e))
      | false ↦ λ other. noted fields from sizes.1 (sym (next_other 36 (flat_map element (f ∷ fields)) f (flat_map element fields) here (eqb-false f.0 36 other)) ∙ e)
    ] refl

-- if all fields of an Interest are read, the octets from the first ApplicationParameters on are the
-- octets of the elements that `parameters_on` returns
pub noted_octets : (text from : List ℕ) (t : InterestSoFar) → IsBytes text → read_fields take_interest_field no_fields_yet (fields_from is_even_high interest_schema (elements_of text)) ≡ Ok t → from_first 36 text ≡ Some from
    → from ≡ octets_of_read (parameters_on (elements_of text))
noted_octets text from t fits read_all mark =
    let r = fields_found take_interest_field is_even_high interest_schema (elements_of text) no_fields_yet t read_all in
    let all = elements_read text r.plain fits r.all in
    noted r.plain from all.0 (ap (from_first 36) (sym all.1) ∙ mark) ∙ sym (parameters_octets r.plain) ∙ ap (λ (es : List (Result Field TlvFault)). octets_of_read (parameters_on es)) (sym r.all)
