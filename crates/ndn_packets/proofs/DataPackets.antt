-- The reader accepts exactly the Data of the grammar.
use Rattle.std.proofs.Common.{◌≡◌, ℕ, List, [], ◌∷◌, ◌++◌, map, Option, Some, None, Result, Ok, refl, sym, ap, subst, ◌∙◌}
use Rattle.ndn_tlv.specs.declared.fault.TlvFault.{TlvFault}
use Rattle.ndn_tlv.specs.Element.{Field}
use Rattle.ndn_tlv.specs.Reading.{◌>>=◌, elements_of}
use Rattle.ndn_tlv.proofs.Numbers.{IsBytes}
use Rattle.ndn_tlv.proofs.Fields.{elements_exact, elements_read}
use Rattle.ndn_names.specs.Reading.{name_at}
use Rattle.ndn_names.proofs.Names.{name_found, name_again}
use Rattle.ndn_packets.specs.declared.fault.PacketFault.TheVariants.{BadField}
use Rattle.ndn_packets.specs.Packet.{PlainSignatureInfo, PlainData}
use Rattle.ndn_tlv.specs.Writing.{optional}
use Rattle.ndn_packets.specs.Fields.{Fields, is_even_high, data_schema}
use Rattle.ndn_packets.specs.Grammar.{IsFreshness, IsData}
use Rattle.ndn_packets.specs.Reading.{fields_from, read_fields, leading_name_at, meta_at, info_at, DataSoFar, nothing_yet, take_data_field, found_or, data_at}
use Rattle.ndn_packets.specs.PacketFaults.{Leads}
use Rattle.ndn_packets.proofs.Steps.{bind_ok, good, ok_is, found_some, some_is, none_is_not_some, read, IsBytes-fields, IsBytes-inside, IsOne, IsBytes-of_one, lead}
use Rattle.ndn_packets.proofs.FieldLists.{FieldsRead, fields_found, fields_again, fields_in, fields_keep, Took, took_first, MayBeBytes, AreBytes, bytes_first}
use Rattle.ndn_packets.proofs.MetaInfos.{meta_found, meta_again}
use Rattle.ndn_packets.proofs.SignatureInfos.{info_found, info_again}

-- ---- how each field changes the state of the reader

abbrev ReadsFreshness : Option (List ℕ) → ℕ → Type 0
ReadsFreshness None freshness = freshness ≡ 0
ReadsFreshness (Some value) freshness = meta_at value ≡ Ok freshness

abbrev ReadsInfo : Option (List ℕ) → Option PlainSignatureInfo → Type 0
ReadsInfo None info = info ≡ None
ReadsInfo (Some value) info = (s : PlainSignatureInfo) × (info_at value ≡ Ok s) × (info ≡ Some s)

meta_taken : (value : Option (List ℕ)) (t : DataSoFar) → Took take_data_field nothing_yet 20 value t
    → (freshness : ℕ) × ReadsFreshness value freshness × (t ≡ record { freshness = freshness; content = None; info = None; value = None })
meta_taken None t e = (0, refl, e)
meta_taken (Some v) t e =
    let b = bind_ok (meta_at v) (λ freshness. good (record { freshness = freshness; content = None; info = None; value = None })) t e in
    (b.0, b.1, sym (ok_is _ t b.2))

content_taken : (value : Option (List ℕ)) (freshness : ℕ) (s t : DataSoFar) → s ≡ record { freshness = freshness; content = None; info = None; value = None } → Took take_data_field s 21 value t
    → t ≡ record { freshness = freshness; content = value; info = None; value = None }
content_taken None freshness s t is e = e ∙ is
content_taken (Some v) freshness s t is e =
    sym (ok_is _ t (subst (λ (u : DataSoFar). take_data_field u (21, v) ≡ Ok t) is e))

info_taken : (value content : Option (List ℕ)) (freshness : ℕ) (s t : DataSoFar) → s ≡ record { freshness = freshness; content = content; info = None; value = None } → Took take_data_field s 22 value t
    → (info : Option PlainSignatureInfo) × ReadsInfo value info × (t ≡ record { freshness = freshness; content = content; info = info; value = None })
info_taken None content freshness s t is e = (None, refl, e ∙ is)
info_taken (Some v) content freshness s t is e =
    let b = bind_ok (info_at v) (λ info. good (record { freshness = freshness; content = content; info = Some info; value = None })) t (subst (λ (u : DataSoFar). take_data_field u (22, v) ≡ Ok t) is e) in
    (Some b.0, (b.0, b.1, refl), sym (ok_is _ t b.2))

value_taken : (value content : Option (List ℕ)) (freshness : ℕ) (info : Option PlainSignatureInfo) (s t : DataSoFar) → s ≡ record { freshness = freshness; content = content; info = info; value = None }
    → Took take_data_field s 23 value t → t ≡ record { freshness = freshness; content = content; info = info; value = value }
value_taken None content freshness info s t is e = e ∙ is
value_taken (Some v) content freshness info s t is e =
    sym (ok_is _ t (subst (λ (u : DataSoFar). take_data_field u (23, v) ≡ Ok t) is e))

-- ---- the fields after the Name

record DataFields (fields : List Field) (t : DataSoFar) : Type 0 where
  meta : Option (List ℕ)
  content : Option (List ℕ)
  info : Option (List ℕ)
  value : Option (List ℕ)
  freshness : ℕ
  said : Option PlainSignatureInfo
  all : fields ≡ optional 20 meta ++ (optional 21 content ++ (optional 22 info ++ (optional 23 value ++ [])))
  meta_is : ReadsFreshness meta freshness
  info_is : ReadsInfo info said
  made : t ≡ record { freshness = freshness; content = content; info = said; value = value }

data_fields : (plain fields : List Field) (t : DataSoFar) → Fields is_even_high data_schema plain fields → read_fields take_data_field nothing_yet (map good fields) ≡ Ok t → DataFields fields t
data_fields plain fields t recognised taken =
    let i20 = fields_in is_even_high data_schema plain fields recognised in
    let i21 = i20.3 in
    let i22 = i21.3 in
    let i23 = i22.3 in
    let t20 = took_first take_data_field nothing_yet t 20 i20.0 fields i20.1 i20.2 taken in
    let t21 = took_first take_data_field t20.0 t 21 i21.0 i20.1 i21.1 i21.2 t20.2 in
    let t22 = took_first take_data_field t21.0 t 22 i22.0 i21.1 i22.1 i22.2 t21.2 in
    let t23 = took_first take_data_field t22.0 t 23 i23.0 i22.1 i23.1 i23.2 t22.2 in
    let m = meta_taken i20.0 t20.0 t20.1 in
    let c = content_taken i21.0 m.0 t20.0 t21.0 m.2 t21.1 in
    let n = info_taken i22.0 i21.0 m.0 t21.0 t22.0 c t22.1 in
    let v = value_taken i23.0 i21.0 m.0 n.0 t22.0 t23.0 n.2 t23.1 in
    let last : t23.0 ≡ t = ok_is t23.0 t (subst (λ (fs : List Field). read_fields take_data_field t23.0 (map good fs) ≡ Ok t) i23.3 t23.2) in
    record {
      meta = i20.0;
      content = i21.0;
      info = i22.0;
      value = i23.0;
      freshness = m.0;
      said = n.0;
      all = i20.2 ∙ (λ k. optional 20 i20.0 ++ i21.2 k) ∙ (λ k. optional 20 i20.0 ++ (optional 21 i21.0 ++ i22.2 k)) ∙ (λ k. optional 20 i20.0 ++ (optional 21 i21.0 ++ (optional 22 i22.0 ++ i23.2 k)))
          ∙ (λ k. optional 20 i20.0 ++ (optional 21 i21.0 ++ (optional 22 i22.0 ++ (optional 23 i23.0 ++ i23.3 k))));
      meta_is = m.1;
      info_is = n.1;
      made = sym last ∙ v;
    }

info_there : (value : Option (List ℕ)) (said : Option PlainSignatureInfo) (s : PlainSignatureInfo) → ReadsInfo value said → said ≡ Some s → (v : List ℕ) × (value ≡ Some v) × (info_at v ≡ Ok s)
info_there None said s h is = absurd (none_is_not_some s (sym h ∙ is))
info_there (Some v) said s h is = (v, refl, h.1 ∙ ap good (some_is h.0 s (sym h.2 ∙ is)))

freshness_found : (meta : Option (List ℕ)) (freshness : ℕ) → MayBeBytes meta → ReadsFreshness meta freshness → IsFreshness meta freshness
freshness_found None freshness fits h = h
freshness_found (Some v) freshness fits h = meta_found v freshness fits h

abbrev data_of : List Field → ℕ → Option (List ℕ) → PlainSignatureInfo → List ℕ → PlainData
data_of name freshness content info signature = record { name = name; freshness = freshness; content = content; signature = record { info = info; value = signature } }

abbrev fields_with : Option (List ℕ) → Option (List ℕ) → List ℕ → List ℕ → List Field
fields_with meta content info signature = optional 20 meta ++ (optional 21 content ++ ((22, info) ∷ (23, signature) ∷ []))

-- if the values of all fields consist of octets, the values of the MetaInfo and of the
-- SignatureInfo do too
fields_bytes : (meta content : Option (List ℕ)) (info signature : List ℕ) → AreBytes (fields_with meta content info signature) → MayBeBytes meta × IsBytes info
fields_bytes meta content info signature h =
    let first = bytes_first 20 meta (fields_with meta content info signature) _ refl h in
    let second = bytes_first 21 content _ ((22, info) ∷ (23, signature) ∷ []) refl first.1 in
    (first.0, second.1.0)

joined : (text value : List ℕ) (name : List Field) (later : List (Result Field TlvFault)) (t : DataSoFar) (info : PlainSignatureInfo) (signature : List ℕ) → IsOne text 6 value → Leads (elements_of value) name later
    → FieldsRead take_data_field is_even_high data_schema later nothing_yet t → t.info ≡ Some info → t.value ≡ Some signature → IsData text (data_of name t.freshness t.content info signature)
joined text value name later t info signature one l r info_is value_is =
    let octets = IsBytes-of_one text value 6 one in
    let f = data_fields r.plain r.fields t r.recognised r.taken in
    let i = info_there f.info f.said info f.info_is (sym (ap (λ (u : DataSoFar). u.info) f.made) ∙ info_is) in
    let v : f.value ≡ Some signature = sym (ap (λ (u : DataSoFar). u.value) f.made) ∙ value_is in
    let fields : r.fields ≡ fields_with f.meta f.content i.0 signature = f.all ∙ (λ k. optional 20 f.meta ++ (optional 21 f.content ++ (optional 22 (i.1 k) ++ (optional 23 (v k) ++ [])))) in
    let inner = elements_read value ((7, l.value) ∷ r.plain) octets (l.front ∙ (λ k. read (7, l.value) ∷ r.all k)) in
    let bytes = IsBytes-fields ((7, l.value) ∷ r.plain) (subst IsBytes inner.1 octets) in
    let kept = subst AreBytes fields (fields_keep (λ f. IsBytes f.1) is_even_high data_schema r.plain r.fields r.recognised bytes.1) in
    let parts : IsData text (data_of name f.freshness f.content info signature) = record {
      name_value = l.value;
      meta_value = f.meta;
      info_value = i.0;
      fields = record {
        value = value;
        elements = r.plain;
        outer = one.outer;
        inner = inner;
        recognised = subst (Fields is_even_high data_schema r.plain) fields r.recognised;
        short = one.short;
        octets = one.octets;
      };
      name = name_found l.value name bytes.0 l.name_is;
      freshness = freshness_found f.meta f.freshness (fields_bytes f.meta f.content i.0 signature kept).0 f.meta_is;
      info = info_found i.0 info (fields_bytes f.meta f.content i.0 signature kept).1 i.2;
    } in
    subst (λ (u : DataSoFar). IsData text (data_of name u.freshness u.content info signature)) (sym f.made) parts

after_fields : (text value : List ℕ) (first : List Field × List (Result Field TlvFault)) (t : DataSoFar) (d : PlainData) → IsOne text 6 value → leading_name_at (elements_of value) ≡ Ok first → read_fields take_data_field nothing_yet (fields_from is_even_high data_schema first.1) ≡ Ok t
    → (found_or BadField t.info >>= λ info. found_or BadField t.value >>= λ signature. good (data_of first.0 t.freshness t.content info signature)) ≡ Ok d → IsData text d
after_fields text value first t d one name_is fields_are e =
    let i = bind_ok (found_or BadField t.info) (λ info. found_or BadField t.value >>= λ signature. good (data_of first.0 t.freshness t.content info signature)) d e in
    let v = bind_ok (found_or BadField t.value) (λ signature. good (data_of first.0 t.freshness t.content i.0 signature)) d i.2 in
    subst (IsData text) (ok_is (data_of first.0 t.freshness t.content i.0 v.0) d v.2)
    (joined text value first.0 first.1 t i.0 v.0 one (lead (elements_of value) first name_is) (fields_found take_data_field is_even_high data_schema first.1 nothing_yet t fields_are)
    (found_some BadField t.info i.0 i.1) (found_some BadField t.value v.0 v.1))

pub data_found : (text value : List ℕ) (d : PlainData) → IsOne text 6 value → data_at value ≡ Ok d → IsData text d
unfolding data_at
data_found text value d one e =
    let a = bind_ok (leading_name_at (elements_of value))
    (λ first. read_fields take_data_field nothing_yet (fields_from is_even_high data_schema first.1) >>= λ t. found_or BadField t.info >>= λ info. found_or BadField t.value >>= λ signature. good (data_of first.0 t.freshness t.content info signature)) d e in
    let b = bind_ok (read_fields take_data_field nothing_yet (fields_from is_even_high data_schema a.0.1))
    (λ t. found_or BadField t.info >>= λ info. found_or BadField t.value >>= λ signature. good (data_of a.0.0 t.freshness t.content info signature)) d a.2 in
    after_fields text value a.0 b.0 d one a.1 b.1 b.2

-- ---- the reader accepts each Data of the grammar

data_computes : (value name_value : List ℕ) (elements : List Field) (meta content : Option (List ℕ)) (info_value : List ℕ) (name : List Field) (freshness : ℕ) (info : PlainSignatureInfo) (signature : List ℕ)
    → elements_of value ≡ map read ((7, name_value) ∷ elements) → name_at name_value ≡ Ok name → fields_from is_even_high data_schema (map read elements) ≡ map good (fields_with meta content info_value signature)
    → ReadsFreshness meta freshness → info_at info_value ≡ Ok info → data_at value ≡ good (data_of name freshness content info signature)
unfolding data_at
data_computes value name_value elements None None info_value name freshness info signature all name_is fields_are meta_is info_is = rw (all, name_is, fields_are, info_is, meta_is) refl
data_computes value name_value elements None (Some c) info_value name freshness info signature all name_is fields_are meta_is info_is = rw (all, name_is, fields_are, info_is, meta_is) refl
data_computes value name_value elements (Some m) None info_value name freshness info signature all name_is fields_are meta_is info_is = rw (all, name_is, fields_are, meta_is, info_is) refl
data_computes value name_value elements (Some m) (Some c) info_value name freshness info signature all name_is fields_are meta_is info_is = rw (all, name_is, fields_are, meta_is, info_is) refl

reads_freshness : (meta : Option (List ℕ)) (freshness : ℕ) → IsFreshness meta freshness → ReadsFreshness meta freshness
reads_freshness None freshness h = h
reads_freshness (Some v) freshness h = meta_again v freshness h

pub data_again : (text : List ℕ) (d : PlainData) (h : IsData text d) → data_at h.fields.value ≡ Ok d
data_again text d h =
    let value = h.fields.value in
    let elements = h.fields.elements in
    let fits = IsBytes-inside text value 6 h.fields.octets h.fields.outer in
    let bytes = IsBytes-fields ((7, h.name_value) ∷ elements) (subst IsBytes h.fields.inner.1 fits) in
    let kept = fields_keep (λ f. IsBytes f.1) is_even_high data_schema elements (fields_with h.meta_value d.content h.info_value d.signature.value) h.fields.recognised bytes.1 in
    data_computes value h.name_value elements h.meta_value d.content h.info_value d.name d.freshness d.signature.info d.signature.value (elements_exact value ((7, h.name_value) ∷ elements) h.fields.inner)
    (name_again h.name_value d.name h.name) (fields_again is_even_high data_schema elements _ h.fields.recognised) (reads_freshness h.meta_value d.freshness h.freshness)
    (info_again h.info_value d.signature.info (fields_bytes h.meta_value d.content h.info_value d.signature.value kept).1 h.info)
