-- The reader accepts exactly the MetaInfos of the grammar.
use Rattle.std.proofs.Common.{◌≡◌, ℕ, List, ◌++◌, map, Option, Some, None, Ok, refl, sym, ap, subst, ◌∙◌}
use Rattle.std.specs.Prelude.{unwrap_or}
use Rattle.std.proofs.lemmas.List.{append-nil}
use Rattle.ndn_tlv.specs.Element.{Field}
use Rattle.ndn_tlv.specs.Reading.{elements_of}
use Rattle.ndn_tlv.proofs.Numbers.{IsBytes}
use Rattle.ndn_tlv.proofs.Fields.{elements_exact, elements_read}
use Rattle.ndn_tlv.specs.Writing.{optional}
use Rattle.ndn_packets.specs.Fields.{Fields, is_ignored_in_meta_info, meta_schema}
use Rattle.ndn_packets.specs.Grammar.{IsNumber, IsMetaInfo}
use Rattle.ndn_packets.specs.Reading.{read_fields, nni_value_at, take_meta_field, meta_at}
use Rattle.ndn_packets.proofs.Steps.{bind_ok, good, ok_is, IsBytes-fields}
use Rattle.ndn_packets.proofs.FieldLists.{FieldsRead, fields_found, fields_again, fields_in, fields_keep, Took, took_first, MayBeBytes, bytes_first}
use Rattle.ndn_packets.proofs.Numbers.{number_found, number_again}

-- ---- the reader accepts only MetaInfos of the grammar

content_type_taken : (value : Option (List ℕ)) (s t : ℕ) → MayBeBytes value → Took take_meta_field s 24 value t → (t ≡ s) × ((n : Option ℕ) × IsNumber value n)
content_type_taken None s t fits took = (took, (None, refl))
content_type_taken (Some v) s t fits took =
    let b = bind_ok (nni_value_at v) (λ _. good s) t took in
    (sym (ok_is s t b.2), (Some b.0, (b.0, number_found v b.0 fits b.1, refl)))

period_taken : (value : Option (List ℕ)) (t : ℕ) → MayBeBytes value → Took take_meta_field 0 25 value t → (n : Option ℕ) × IsNumber value n × (t ≡ unwrap_or n 0)
period_taken None t fits took = (None, refl, took)
period_taken (Some v) t fits took = (Some t, (t, number_found v t fits took, refl), refl)

final_block_taken : (value : Option (List ℕ)) (s t : ℕ) → Took take_meta_field s 26 value t → t ≡ s
final_block_taken None s t took = took
final_block_taken (Some v) s t took = sym (ok_is s t took)

joined : (value : List ℕ) (freshness : ℕ) → IsBytes value → FieldsRead take_meta_field is_ignored_in_meta_info meta_schema (elements_of value) 0 freshness → IsMetaInfo value freshness
joined value freshness fits r =
    let inner = elements_read value r.plain fits r.all in
    let c = fields_in is_ignored_in_meta_info meta_schema r.plain r.fields r.recognised in
    let p = c.3 in
    let f = p.3 in
    let content_type = took_first take_meta_field 0 freshness 24 c.0 r.fields c.1 c.2 r.taken in
    let period = took_first take_meta_field content_type.0 freshness 25 p.0 c.1 p.1 p.2 content_type.2 in
    let final_block = took_first take_meta_field period.0 freshness 26 f.0 p.1 f.1 f.2 period.2 in
    let bytes = bytes_first 24 c.0 r.fields c.1 c.2 (fields_keep (λ f. IsBytes f.1) is_ignored_in_meta_info meta_schema r.plain r.fields r.recognised (IsBytes-fields r.plain (subst IsBytes inner.1 fits))) in
    let period_bytes = bytes_first 25 p.0 c.1 p.1 p.2 bytes.1 in
    let first = content_type_taken c.0 0 content_type.0 bytes.0 content_type.1 in
    let second = period_taken p.0 period.0 period_bytes.0 (subst (λ (s : ℕ). Took take_meta_field s 25 p.0 period.0) first.0 period.1) in
    let last : period.0 ≡ freshness = sym (final_block_taken f.0 period.0 final_block.0 final_block.1) ∙ ok_is final_block.0 freshness (subst (λ (fs : List Field). read_fields take_meta_field final_block.0 (map good fs) ≡ Ok freshness) f.3 final_block.2) in
    let all : r.fields ≡ optional 24 c.0 ++ (optional 25 p.0 ++ optional 26 f.0) = c.2 ∙ ap (λ (fs : List Field). optional 24 c.0 ++ fs) (p.2 ∙ ap (λ (fs : List Field). optional 25 p.0 ++ fs) (f.2 ∙ (ap (λ (fs : List Field). optional 26 f.0 ++ fs) f.3 ∙ append-nil (optional 26 f.0)))) in
    record {
      content_type = c.0;
      period = p.0;
      final_block = f.0;
      elements = r.plain;
      inner = inner;
      recognised = subst (Fields is_ignored_in_meta_info meta_schema r.plain) all r.recognised;
      content_type_number = first.1;
      period_number = (second.0, second.1, sym last ∙ second.2);
    }

pub meta_found : (value : List ℕ) (freshness : ℕ) → IsBytes value → meta_at value ≡ Ok freshness → IsMetaInfo value freshness
unfolding meta_at
meta_found value freshness fits e = joined value freshness fits (fields_found take_meta_field is_ignored_in_meta_info meta_schema (elements_of value) 0 freshness e)

-- ---- the reader accepts each MetaInfo of the grammar

final_block_again : (value : Option (List ℕ)) (s : ℕ) → read_fields take_meta_field s (map good (optional 26 value)) ≡ Ok s
final_block_again None s = refl
final_block_again (Some v) s = refl

period_again : (value final_block : Option (List ℕ)) (n : Option ℕ) → IsNumber value n → read_fields take_meta_field 0 (map good (optional 25 value ++ optional 26 final_block)) ≡ Ok (unwrap_or n 0)
period_again None final_block n h = final_block_again final_block 0 ∙ ap (λ (o : Option ℕ). good (unwrap_or o 0)) (sym h)
period_again (Some v) final_block n h = rw (number_again v h.0 h.1) (final_block_again final_block h.0 ∙ ap (λ (o : Option ℕ). good (unwrap_or o 0)) (sym h.2))

content_type_again : (value : Option (List ℕ)) (n : Option ℕ) (s : ℕ) (later : List Field) → IsNumber value n → read_fields take_meta_field s (map good (optional 24 value ++ later)) ≡ read_fields take_meta_field s (map good later)
content_type_again None n s later h = refl
content_type_again (Some v) n s later h = rw (number_again v h.0 h.1) refl

pub meta_again : (value : List ℕ) (freshness : ℕ) → IsMetaInfo value freshness → meta_at value ≡ Ok freshness
unfolding meta_at
meta_again value freshness h =
    let fields = optional 24 h.content_type ++ (optional 25 h.period ++ optional 26 h.final_block) in
    rw (elements_exact value h.elements h.inner, fields_again is_ignored_in_meta_info meta_schema h.elements fields h.recognised)
    (content_type_again h.content_type h.content_type_number.0 0 (optional 25 h.period ++ optional 26 h.final_block) h.content_type_number.1
    ∙ (period_again h.period h.final_block h.period_number.0 h.period_number.1 ∙ ap (λ (n : ℕ). good n) (sym h.period_number.2)))
