-- The reader accepts exactly the SignatureInfos of the grammar.
use Rattle.std.proofs.Common.{◌≡◌, ℕ, List, [], ◌++◌, map, Option, Some, None, Ok, refl, sym, ap, subst, ◌∙◌}
use Rattle.std.proofs.lemmas.List.{append-nil}
use Rattle.ndn_tlv.specs.Number.{IsNni}
use Rattle.ndn_tlv.specs.Element.{Field, IsElements}
use Rattle.ndn_tlv.specs.Reading.{◌>>=◌, elements_of}
use Rattle.ndn_tlv.proofs.Numbers.{IsBytes}
use Rattle.ndn_tlv.proofs.Fields.{elements_exact, elements_read}
use Rattle.ndn_packets.specs.declared.fault.PacketFault.TheVariants.{BadField}
use Rattle.ndn_packets.specs.Packet.{PlainLocator, Missing, PlainSignatureInfo}
use Rattle.ndn_tlv.specs.Writing.{optional}
use Rattle.ndn_packets.specs.Fields.{Fields, is_ignored_in_signature_info, info_schema}
use Rattle.ndn_packets.specs.Grammar.{IsNumber, IsLocator, IsSignatureInfo}
use Rattle.ndn_packets.specs.Reading.{fields_from, read_fields, nni_value_at, InfoSoFar, no_info_yet, take_info_field, found_or, info_at}
use Rattle.ndn_packets.proofs.Steps.{bind_ok, good, ok_is, found_some, some_is, none_is_not_some, IsBytes-fields}
use Rattle.ndn_packets.proofs.FieldLists.{fields_found, fields_again, InSchema, fields_in, Took, took_first, took_again, fields_keep, MayBeBytes, AreBytes, bytes_first}
use Rattle.ndn_packets.proofs.Numbers.{number_found, number_again}
use Rattle.ndn_packets.proofs.Locators.{locator_found, locator_again}

abbrev so_far : Option ℕ → PlainLocator → Option ℕ → Option ℕ → InfoSoFar
so_far kind locator time seq = record { kind = kind; locator = locator; time = time; seq = seq }

abbrev info_of : InfoSoFar → ℕ → PlainSignatureInfo
info_of t kind = record { kind = kind; locator = t.locator; time = t.time; seq = t.seq }

-- ---- reading one optional field

number_taken : (v : List ℕ) (made : ℕ → InfoSoFar) (t : InfoSoFar) → IsBytes v → (nni_value_at v >>= λ n. good (made n)) ≡ Ok t → (n : ℕ) × IsNni v n × (t ≡ made n)
number_taken v made t fits took =
    let b = bind_ok (nni_value_at v) (λ n. good (made n)) t took in
    (b.0, number_found v b.0 fits b.1, sym (ok_is (made b.0) t b.2))

-- the parts of the state `t` are what the TLV-VALUEs of the four optional fields encode
record Says (kind_value locator_value time_value seq_value : Option (List ℕ)) (t : InfoSoFar) : Type 0 where
  kind : IsNumber kind_value t.kind
  locator : IsLocator locator_value t.locator
  time : IsNumber time_value t.time
  seq : IsNumber seq_value t.seq

says_nothing : Says None None None None no_info_yet
says_nothing = record { kind = refl; locator = refl; time = refl; seq = refl }

kind_says : (value : Option (List ℕ)) (s t : InfoSoFar) → MayBeBytes value → Took take_info_field s 27 value t → Says None None None None s → Says value None None None t
kind_says None s t fits took h = subst (Says None None None None) (sym took) h
kind_says (Some v) s t fits took h =
    let n = number_taken v (λ n. so_far (Some n) s.locator s.time s.seq) t fits took in
    subst (Says (Some v) None None None) (sym n.2) (record { kind = (n.0, n.1, refl); locator = h.locator; time = h.time; seq = h.seq })

locator_says : (kind value : Option (List ℕ)) (s t : InfoSoFar) → MayBeBytes value → Took take_info_field s 28 value t → Says kind None None None s → Says kind value None None t
locator_says kind None s t fits took h = subst (Says kind None None None) (sym took) h
locator_says kind (Some v) s t fits took h =
    subst (Says kind (Some v) None None) (ok_is _ t took) (record { kind = h.kind; locator = locator_found v fits; time = h.time; seq = h.seq })

nonce_says : (kind locator value : Option (List ℕ)) (s t : InfoSoFar) → Took take_info_field s 38 value t → Says kind locator None None s → Says kind locator None None t
nonce_says kind locator None s t took h = subst (Says kind locator None None) (sym took) h
nonce_says kind locator (Some v) s t took h = subst (Says kind locator None None) (ok_is s t took) h

time_says : (kind locator value : Option (List ℕ)) (s t : InfoSoFar) → MayBeBytes value → Took take_info_field s 40 value t → Says kind locator None None s → Says kind locator value None t
time_says kind locator None s t fits took h = subst (Says kind locator None None) (sym took) h
time_says kind locator (Some v) s t fits took h =
    let n = number_taken v (λ n. so_far s.kind s.locator (Some n) s.seq) t fits took in
    subst (Says kind locator (Some v) None) (sym n.2) (record { kind = h.kind; locator = h.locator; time = (n.0, n.1, refl); seq = h.seq })

seq_says : (kind locator time value : Option (List ℕ)) (s t : InfoSoFar) → MayBeBytes value → Took take_info_field s 42 value t → Says kind locator time None s → Says kind locator time value t
seq_says kind locator time None s t fits took h = subst (Says kind locator time None) (sym took) h
seq_says kind locator time (Some v) s t fits took h =
    let n = number_taken v (λ n. so_far s.kind s.locator s.time (Some n)) t fits took in
    subst (Says kind locator time (Some v)) (sym n.2) (record { kind = h.kind; locator = h.locator; time = h.time; seq = (n.0, n.1, refl) })

-- ---- the reader accepts only SignatureInfos of the grammar

abbrev info_fields : Option (List ℕ) → Option (List ℕ) → Option (List ℕ) → Option (List ℕ) → Option (List ℕ) → List Field
info_fields kind locator nonce time seq = optional 27 kind ++ (optional 28 locator ++ (optional 38 nonce ++ (optional 40 time ++ optional 42 seq)))

record InfoParts (fields : List Field) (t : InfoSoFar) : Type 0 where
  kind_value : Option (List ℕ)
  locator_value : Option (List ℕ)
  nonce : Option (List ℕ)
  time_value : Option (List ℕ)
  seq_value : Option (List ℕ)
  all : fields ≡ info_fields kind_value locator_value nonce time_value seq_value
  says : Says kind_value locator_value time_value seq_value t

info_parts : (fields : List Field) (t : InfoSoFar) → AreBytes fields → InSchema info_schema fields → read_fields take_info_field no_info_yet (map good fields) ≡ Ok t → InfoParts fields t
info_parts fields t fit kind e =
    let locator = kind.3 in
    let nonce = locator.3 in
    let time = nonce.3 in
    let seq = time.3 in
    let kind_took = took_first take_info_field no_info_yet t 27 kind.0 fields kind.1 kind.2 e in
    let locator_took = took_first take_info_field kind_took.0 t 28 locator.0 kind.1 locator.1 locator.2 kind_took.2 in
    let nonce_took = took_first take_info_field locator_took.0 t 38 nonce.0 locator.1 nonce.1 nonce.2 locator_took.2 in
    let time_took = took_first take_info_field nonce_took.0 t 40 time.0 nonce.1 time.1 time.2 nonce_took.2 in
    let seq_took = took_first take_info_field time_took.0 t 42 seq.0 time.1 seq.1 seq.2 time_took.2 in
    let kind_fits = bytes_first 27 kind.0 fields kind.1 kind.2 fit in
    let locator_fits = bytes_first 28 locator.0 kind.1 locator.1 locator.2 kind_fits.1 in
    let nonce_fits = bytes_first 38 nonce.0 locator.1 nonce.1 nonce.2 locator_fits.1 in
    let time_fits = bytes_first 40 time.0 nonce.1 time.1 time.2 nonce_fits.1 in
    let seq_fits = bytes_first 42 seq.0 time.1 seq.1 seq.2 time_fits.1 in
    let kind_read = kind_says kind.0 no_info_yet kind_took.0 kind_fits.0 kind_took.1 says_nothing in
    let locator_read = locator_says kind.0 locator.0 kind_took.0 locator_took.0 locator_fits.0 locator_took.1 kind_read in
    let nonce_read = nonce_says kind.0 locator.0 nonce.0 locator_took.0 nonce_took.0 nonce_took.1 locator_read in
    let time_read = time_says kind.0 locator.0 time.0 nonce_took.0 time_took.0 time_fits.0 time_took.1 nonce_read in
    let seq_read = seq_says kind.0 locator.0 time.0 seq.0 time_took.0 seq_took.0 seq_fits.0 seq_took.1 time_read in
    let last : seq_took.0 ≡ t = ok_is seq_took.0 t (subst (λ (fs : List Field). read_fields take_info_field seq_took.0 (map good fs) ≡ Ok t) seq.3 seq_took.2) in
    let seq_all : time.1 ≡ optional 42 seq.0 = seq.2 ∙ ap (λ (fs : List Field). optional 42 seq.0 ++ fs) seq.3 ∙ append-nil (optional 42 seq.0) in
    let all = kind.2 ∙ (λ i. optional 27 kind.0 ++ (locator.2 ∙ (λ i. optional 28 locator.0 ++ (nonce.2 ∙ (λ i. optional 38 nonce.0 ++ (time.2 ∙ (λ i. optional 40 time.0 ++ seq_all i)) i)) i)) i) in
    record {
      kind_value = kind.0;
      locator_value = locator.0;
      nonce = nonce.0;
      time_value = time.0;
      seq_value = seq.0;
      all = all;
      says = subst (Says kind.0 locator.0 time.0 seq.0) {x = seq_took.0} last seq_read;
    }

number_there : (value : Option (List ℕ)) (n : Option ℕ) (k : ℕ) → IsNumber value n → n ≡ Some k → (v : List ℕ) × (value ≡ Some v) × IsNni v k
number_there None n k h is = absurd (none_is_not_some k (sym h ∙ is))
number_there (Some v) n k h is = (v, refl, subst (IsNni v) (some_is h.0 k (sym h.2 ∙ is)) h.1)

joined : (value : List ℕ) (elements fields : List Field) (t : InfoSoFar) (kind : ℕ) → IsElements value elements → Fields is_ignored_in_signature_info info_schema elements fields → InfoParts fields t → t.kind ≡ Some kind
    → IsSignatureInfo value (info_of t kind)
joined value elements fields t kind inner recognised p is =
    let k = number_there p.kind_value t.kind kind p.says.kind is in
    record {
      kind_value = k.0;
      locator_value = p.locator_value;
      nonce = p.nonce;
      time_value = p.time_value;
      seq_value = p.seq_value;
      elements = elements;
      inner = inner;
      recognised = subst (Fields is_ignored_in_signature_info info_schema elements) (p.all ∙ ap (λ o. info_fields o p.locator_value p.nonce p.time_value p.seq_value) k.1) recognised;
      kind = k.2;
      locator = p.says.locator;
      time = p.says.time;
      seq = p.says.seq;
    }

pub info_found : (value : List ℕ) (s : PlainSignatureInfo) → IsBytes value → info_at value ≡ Ok s → IsSignatureInfo value s
unfolding info_at
info_found value s fits e =
    let a = bind_ok (read_fields take_info_field no_info_yet (fields_from is_ignored_in_signature_info info_schema (elements_of value))) (λ t. found_or BadField t.kind >>= λ kind. good (info_of t kind)) s e in
    let b = bind_ok (found_or BadField a.0.kind) (λ kind. good (info_of a.0 kind)) s a.2 in
    let r = fields_found take_info_field is_ignored_in_signature_info info_schema (elements_of value) no_info_yet a.0 a.1 in
    let inner = elements_read value r.plain fits r.all in
    let fit = fields_keep (λ f. IsBytes f.1) is_ignored_in_signature_info info_schema r.plain r.fields r.recognised (IsBytes-fields r.plain (subst IsBytes inner.1 fits)) in
    let parts = info_parts r.fields a.0 fit (fields_in is_ignored_in_signature_info info_schema r.plain r.fields r.recognised) r.taken in
    subst (IsSignatureInfo value) (ok_is _ s b.2) (joined value r.plain r.fields a.0 b.0 inner r.recognised parts (found_some BadField a.0.kind b.0 b.1))

-- ---- the reader accepts each SignatureInfo of the grammar

takes_kind : (v : List ℕ) (kind : ℕ) → IsNni v kind → Took take_info_field no_info_yet 27 (Some v) (so_far (Some kind) Missing None None)
takes_kind v kind h = rw (number_again v kind h) refl

takes_locator : (value : Option (List ℕ)) (kind : Option ℕ) (locator : PlainLocator) → MayBeBytes value → IsLocator value locator → Took take_info_field (so_far kind Missing None None) 28 value (so_far kind locator None None)
takes_locator None kind locator fits h = ap (λ l. so_far kind l None None) h
takes_locator (Some v) kind locator fits h = ap (λ l. good (so_far kind l None None)) (locator_again v locator fits h)

takes_nonce : (value : Option (List ℕ)) (s : InfoSoFar) → Took take_info_field s 38 value s
takes_nonce None s = refl
takes_nonce (Some v) s = refl

takes_time : (value : Option (List ℕ)) (kind : Option ℕ) (locator : PlainLocator) (time : Option ℕ) → IsNumber value time → Took take_info_field (so_far kind locator None None) 40 value (so_far kind locator time None)
takes_time None kind locator time h = ap (λ n. so_far kind locator n None) h
takes_time (Some v) kind locator time h = rw (number_again v h.0 h.1, h.2) refl

takes_seq : (value : Option (List ℕ)) (kind : Option ℕ) (locator : PlainLocator) (time seq : Option ℕ) → IsNumber value seq → Took take_info_field (so_far kind locator time None) 42 value (so_far kind locator time seq)
takes_seq None kind locator time seq h = ap (λ n. so_far kind locator time n) h
takes_seq (Some v) kind locator time seq h = rw (number_again v h.0 h.1, h.2) refl

fields_read : (value : List ℕ) (s : PlainSignatureInfo) (h : IsSignatureInfo value s) → MayBeBytes h.locator_value
    → read_fields take_info_field no_info_yet (map good (info_fields (Some h.kind_value) h.locator_value h.nonce h.time_value h.seq_value)) ≡ Ok (so_far (Some s.kind) s.locator s.time s.seq)
fields_read value s h fits =
    let kind = Some s.kind in
    let after_time = optional 42 h.seq_value in
    let after_nonce = optional 40 h.time_value ++ after_time in
    let after_locator = optional 38 h.nonce ++ after_nonce in
    let after_kind = optional 28 h.locator_value ++ after_locator in
    took_again take_info_field no_info_yet (so_far kind Missing None None) 27 (Some h.kind_value) after_kind (takes_kind h.kind_value s.kind h.kind)
    ∙ took_again take_info_field (so_far kind Missing None None) (so_far kind s.locator None None) 28 h.locator_value after_locator (takes_locator h.locator_value kind s.locator fits h.locator)
    ∙ took_again take_info_field (so_far kind s.locator None None) (so_far kind s.locator None None) 38 h.nonce after_nonce (takes_nonce h.nonce (so_far kind s.locator None None))
    ∙ took_again take_info_field (so_far kind s.locator None None) (so_far kind s.locator s.time None) 40 h.time_value after_time (takes_time h.time_value kind s.locator s.time h.time)
    ∙ ap (λ (fs : List Field). read_fields take_info_field (so_far kind s.locator s.time None) (map good fs)) (sym (append-nil after_time))
    ∙ took_again take_info_field (so_far kind s.locator s.time None) (so_far kind s.locator s.time s.seq) 42 h.seq_value [] (takes_seq h.seq_value kind s.locator s.time s.seq h.seq)

locator_bytes : (value : List ℕ) (s : PlainSignatureInfo) → IsBytes value → (h : IsSignatureInfo value s) → MayBeBytes h.locator_value
locator_bytes value s fits h =
    let fields = info_fields (Some h.kind_value) h.locator_value h.nonce h.time_value h.seq_value in
    let fit = fields_keep (λ f. IsBytes f.1) is_ignored_in_signature_info info_schema h.elements fields h.recognised (IsBytes-fields h.elements (subst IsBytes h.inner.1 fits)) in
    (bytes_first 28 h.locator_value _ (optional 38 h.nonce ++ (optional 40 h.time_value ++ optional 42 h.seq_value)) refl fit.1).0

pub info_again : (value : List ℕ) (s : PlainSignatureInfo) → IsBytes value → IsSignatureInfo value s → info_at value ≡ Ok s
unfolding info_at
info_again value s fits h =
    let fields = info_fields (Some h.kind_value) h.locator_value h.nonce h.time_value h.seq_value in
    rw (elements_exact value h.elements h.inner, fields_again is_ignored_in_signature_info info_schema h.elements fields h.recognised, fields_read value s h (locator_bytes value s fits h)) refl
