-- The reader accepts exactly the octets that are the TLV-VALUE of a Nack in the grammar.
use Rattle.std.proofs.Common.{◌≡◌, ℕ, List, ◌++◌, map, Option, Some, None, Ok, refl, sym, ap, subst, ◌∙◌}
use Rattle.std.specs.Prelude.{unwrap_or}
use Rattle.std.proofs.lemmas.List.{append-nil}
use Rattle.ndn_tlv.specs.Element.{Field}
use Rattle.ndn_tlv.specs.Reading.{elements_of}
use Rattle.ndn_tlv.proofs.Numbers.{IsBytes}
use Rattle.ndn_tlv.proofs.Fields.{elements_exact, elements_read}
use Rattle.ndn_tlv.specs.Writing.{optional}
use Rattle.ndn_packets.specs.Fields.{Fields, is_even_high}
use Rattle.ndn_packets.specs.Grammar.{IsNumber}
use Rattle.ndn_packets.specs.Reading.{read_fields}
use Rattle.ndn_packets.specs.Link.{nack_schema, IsNack}
use Rattle.ndn_packets.specs.FrameReading.{take_nack_field, nack_at}
use Rattle.ndn_packets.proofs.Steps.{good, ok_is, IsBytes-fields}
use Rattle.ndn_packets.proofs.FieldLists.{FieldsRead, fields_found, fields_again, fields_in, fields_keep, Took, took_first, MayBeBytes, bytes_first}
use Rattle.ndn_packets.proofs.Numbers.{number_found, number_again}

reason_taken : (value : Option (List ℕ)) (t : ℕ) → MayBeBytes value → Took take_nack_field 0 801 value t → (n : Option ℕ) × IsNumber value n × (t ≡ unwrap_or n 0)
reason_taken None t fits took = (None, refl, took)
reason_taken (Some v) t fits took = (Some t, (t, number_found v t fits took, refl), refl)

joined : (value : List ℕ) (reason : ℕ) → IsBytes value → FieldsRead take_nack_field is_even_high nack_schema (elements_of value) 0 reason → IsNack value reason
joined value reason fits r =
    let inner = elements_read value r.plain fits r.all in
    let f = fields_in is_even_high nack_schema r.plain r.fields r.recognised in
    let t = took_first take_nack_field 0 reason 801 f.0 r.fields f.1 f.2 r.taken in
    let kept = fields_keep (λ f. IsBytes f.1) is_even_high nack_schema r.plain r.fields r.recognised (IsBytes-fields r.plain (subst IsBytes inner.1 fits)) in
    let n = reason_taken f.0 t.0 (bytes_first 801 f.0 r.fields f.1 f.2 kept).0 t.1 in
    let last : t.0 ≡ reason = ok_is t.0 reason (subst (λ (fs : List Field). read_fields take_nack_field t.0 (map good fs) ≡ Ok reason) f.3 t.2) in
    let all : r.fields ≡ optional 801 f.0 = f.2 ∙ (λ k. optional 801 f.0 ++ f.3 k) ∙ append-nil (optional 801 f.0) in
    record {
      reason_value = f.0;
      elements = r.plain;
      inner = inner;
      recognised = subst (Fields is_even_high nack_schema r.plain) all r.recognised;
      number = (n.0, n.1, sym last ∙ n.2);
    }

pub nack_found : (value : List ℕ) (reason : ℕ) → IsBytes value → nack_at value ≡ Ok reason → IsNack value reason
unfolding nack_at
nack_found value reason fits e = joined value reason fits (fields_found take_nack_field is_even_high nack_schema (elements_of value) 0 reason e)

reason_again : (value : Option (List ℕ)) (n : Option ℕ) → IsNumber value n → read_fields take_nack_field 0 (map good (optional 801 value)) ≡ Ok (unwrap_or n 0)
reason_again None n h = ap (λ (o : Option ℕ). good (unwrap_or o 0)) (sym h)
reason_again (Some v) n h = rw (number_again v h.0 h.1) (ap (λ (o : Option ℕ). good (unwrap_or o 0)) (sym h.2))

pub nack_again : (value : List ℕ) (reason : ℕ) → IsNack value reason → nack_at value ≡ Ok reason
unfolding nack_at
nack_again value reason h =
    rw (elements_exact value h.elements h.inner, fields_again is_even_high nack_schema h.elements (optional 801 h.reason_value) h.recognised)
    (reason_again h.reason_value h.number.0 h.number.1 ∙ ap (λ (n : ℕ). good n) (sym h.number.2))
