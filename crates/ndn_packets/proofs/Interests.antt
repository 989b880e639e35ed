-- The reader accepts exactly the Interests of the grammar.
use Rattle.std.proofs.Common.{◌≡◌, ◌≢◌, ℕ, Bool, true, false, cond, eqb, List, [], ◌∷◌, ◌++◌, length, map, Option, Some, None, Result, Ok, Err, refl, sym, ap, subst, ◌∙◌, eq-eqb}
use Rattle.std.specs.Prelude.{unwrap_or}
use Rattle.std.proofs.lemmas.Bool.{eqb-true}
use Rattle.std.proofs.lemmas.List.{append-nil}
use Rattle.ndn_tlv.specs.declared.fault.TlvFault.{TlvFault}
use Rattle.ndn_tlv.specs.Element.{Field, IsElements}
use Rattle.ndn_tlv.specs.Reading.{◌>>=◌, elements_of}
use Rattle.ndn_tlv.proofs.Numbers.{IsBytes}
use Rattle.ndn_tlv.proofs.Fields.{elements_exact, elements_read}
use Rattle.ndn_names.specs.Name.{IsNameValue}
use Rattle.ndn_names.proofs.Names.{name_found, name_again}
use Rattle.ndn_packets.specs.declared.fault.PacketFault.{PacketFault}
use Rattle.ndn_packets.specs.declared.fault.PacketFault.TheVariants.{NoName, BadField, NoNonce}
use Rattle.ndn_packets.specs.Packet.{PlainSignatureInfo, PlainSignature, PlainInterest, digests_in}
use Rattle.ndn_tlv.specs.Writing.{optional, flag}
use Rattle.ndn_packets.specs.Fields.{Fields, is_even_high, interest_schema}
use Rattle.ndn_packets.specs.Grammar.{IsNumber, IsOctet, IsSignatureInfo, IsSigned, IsInterest}
use Rattle.ndn_tlv.specs.Options.{on_option}
use Rattle.ndn_packets.specs.Reading.{fields_from, read_fields, leading_name_at, nni_value_at, octet_at, parameters_on, octets_of_read, digest_fault, signature_of, info_at, InterestSoFar, no_fields_yet, take_interest_field, interest_made, is_nil, found_or, interest_at}
use Rattle.ndn_packets.proofs.Rules.{is_nil-false}
use Rattle.ndn_packets.specs.PacketFaults.{Leads}
use Rattle.ndn_packets.proofs.Steps.{bind_ok, good, err_is_not_ok, unless_ok, ok_is, found_some, not_nil, read, IsBytes-fields, IsBytes-inside, IsOne, IsBytes-of_one, lead}
use Rattle.ndn_packets.proofs.FieldLists.{FieldsRead, fields_found, fields_again, fields_in, fields_keep, Took, took_first, took_again, MayBeBytes, AreBytes, bytes_first}
use Rattle.ndn_packets.proofs.Numbers.{number_found, number_again}
use Rattle.ndn_packets.proofs.SignatureInfos.{info_found, info_again}
use Rattle.ndn_packets.proofs.Digests.{digest_found, digest_again}
use Rattle.sha2.specs.Sha256.{sha256}

abbrev fields_with : Bool → Bool → Option (List ℕ) → List ℕ → Option (List ℕ) → Option (List ℕ) → Option (List ℕ) → Option (List ℕ) → Option (List ℕ) → List Field
fields_with prefix fresh hint nonce lifetime hop parameters info value =
    flag 33 prefix ++ (flag 18 fresh ++ (optional 30 hint ++ ((10, nonce) ∷ (optional 12 lifetime ++ (optional 34 hop ++ (optional 36 parameters ++ (optional 44 info ++ optional 46 value)))))))

-- ---- how each field changes the state of the reader

abbrev so_far : Bool → Bool → Option (List ℕ) → ℕ → Option ℕ → InterestSoFar
so_far prefix fresh nonce lifetime hop =
    record { can_be_prefix = prefix; must_be_fresh = fresh; nonce = nonce; lifetime = lifetime; hop_limit = hop; parameters = None; info = None; value = None }

-- the state `s` with the given values of ApplicationParameters, InterestSignatureInfo and
-- InterestSignatureValue
abbrev signed_so_far : InterestSoFar → Option (List ℕ) → Option PlainSignatureInfo → Option (List ℕ) → InterestSoFar
signed_so_far s parameters info value = record {
  can_be_prefix = s.can_be_prefix;
  must_be_fresh = s.must_be_fresh;
  nonce = s.nonce;
  lifetime = s.lifetime;
  hop_limit = s.hop_limit;
  parameters = parameters;
  info = info;
  value = value;
}

is_nil_is : (xs : List ℕ) → is_nil xs ≡ true → xs ≡ []
is_nil_is [] e = refl
is_nil_is (x ∷ xs) e = absurd cc

tested : {A : Type 0} (b : Bool) (x y : A) → cond b (good x) (Err BadField) ≡ Ok y → (b ≡ true) × (x ≡ y)
tested true x y e = (refl, ok_is x y e)
tested false x y e = absurd (err_is_not_ok _ y e)

prefix_taken : (value : Option (List ℕ)) (t : InterestSoFar) → Took take_interest_field no_fields_yet 33 value t → (b : Bool) × (optional 33 value ≡ flag 33 b) × (t ≡ so_far b false None 4000 None)
prefix_taken None t took = (false, refl, took)
prefix_taken (Some v) t took =
    let p = tested (is_nil v) (so_far true false None 4000 None) t took in
    (true, ap (λ (x : List ℕ). optional 33 (Some x)) (is_nil_is v p.0), sym p.1)

fresh_taken : (value : Option (List ℕ)) (prefix : Bool) (s t : InterestSoFar) → s ≡ so_far prefix false None 4000 None → Took take_interest_field s 18 value t
    → (b : Bool) × (optional 18 value ≡ flag 18 b) × (t ≡ so_far prefix b None 4000 None)
fresh_taken None prefix s t is took = (false, refl, took ∙ is)
fresh_taken (Some v) prefix s t is took =
    let p = tested (is_nil v) (so_far prefix true None 4000 None) t (subst (λ (u : InterestSoFar). take_interest_field u (18, v) ≡ Ok t) is took) in
    (true, ap (λ (x : List ℕ). optional 18 (Some x)) (is_nil_is v p.0), sym p.1)

hint_taken : (value : Option (List ℕ)) (s t : InterestSoFar) → Took take_interest_field s 30 value t → t ≡ s
hint_taken None s t took = took
hint_taken (Some v) s t took = sym (ok_is s t took)

-- a Nonce, if present, has 4 octets
abbrev IsFour : Option (List ℕ) → Type 0
IsFour None = Unit {0}
IsFour (Some nonce) = length nonce ≡ 4

nonce_taken : (value : Option (List ℕ)) (prefix fresh : Bool) (s t : InterestSoFar) → s ≡ so_far prefix fresh None 4000 None → Took take_interest_field s 10 value t → IsFour value × (t ≡ so_far prefix fresh value 4000 None)
nonce_taken None prefix fresh s t is took = (tt, took ∙ is)
nonce_taken (Some v) prefix fresh s t is took =
    let p = tested (eqb (length v) 4) (so_far prefix fresh (Some v) 4000 None) t (subst (λ (u : InterestSoFar). take_interest_field u (10, v) ≡ Ok t) is took) in
    (eqb-true (length v) 4 p.0, sym p.1)

lifetime_taken : (value given : Option (List ℕ)) (prefix fresh : Bool) (s t : InterestSoFar) → MayBeBytes value → s ≡ so_far prefix fresh given 4000 None → Took take_interest_field s 12 value t
    → (n : Option ℕ) × IsNumber value n × (t ≡ so_far prefix fresh given (unwrap_or n 4000) None)
lifetime_taken None given prefix fresh s t fits is took = (None, refl, took ∙ is)
lifetime_taken (Some v) given prefix fresh s t fits is took =
    let b = bind_ok (nni_value_at v) (λ n. good (so_far prefix fresh given n None)) t (subst (λ (u : InterestSoFar). take_interest_field u (12, v) ≡ Ok t) is took) in
    (Some b.0, (b.0, number_found v b.0 fits b.1, refl), sym (ok_is _ t b.2))

octet_found : (value : List ℕ) (n : ℕ) → octet_at value ≡ Ok n → value ≡ n ∷ []
octet_found [] n e = absurd (err_is_not_ok _ n e)
octet_found (k ∷ []) n e = ap (λ (x : ℕ). x ∷ []) (ok_is k n e)
octet_found (k ∷ l ∷ value) n e = absurd (err_is_not_ok _ n e)

hop_taken : (value given : Option (List ℕ)) (prefix fresh : Bool) (lifetime : ℕ) (s t : InterestSoFar) → s ≡ so_far prefix fresh given lifetime None → Took take_interest_field s 34 value t
    → (n : Option ℕ) × IsOctet value n × (t ≡ so_far prefix fresh given lifetime n)
hop_taken None given prefix fresh lifetime s t is took = (None, refl, took ∙ is)
hop_taken (Some v) given prefix fresh lifetime s t is took =
    let b = bind_ok (octet_at v) (λ n. good (so_far prefix fresh given lifetime (Some n))) t (subst (λ (u : InterestSoFar). take_interest_field u (34, v) ≡ Ok t) is took) in
    (Some b.0, (b.0, octet_found v b.0 b.1, refl), sym (ok_is _ t b.2))

parameters_taken : (value : Option (List ℕ)) (front s t : InterestSoFar) → s ≡ signed_so_far front None None None → Took take_interest_field s 36 value t → t ≡ signed_so_far front value None None
parameters_taken None front s t is took = took ∙ is
parameters_taken (Some v) front s t is took = sym (ok_is _ t (subst (λ (u : InterestSoFar). take_interest_field u (36, v) ≡ Ok t) is took))

-- `said` is the plain data of an optional InterestSignatureInfo
abbrev SaysInfo : Option (List ℕ) → Option PlainSignatureInfo → Type 0
SaysInfo None said = said ≡ None
SaysInfo (Some value) said = (info : PlainSignatureInfo) × IsSignatureInfo value info × (said ≡ Some info)

info_taken : (value parameters : Option (List ℕ)) (front s t : InterestSoFar) → MayBeBytes value → s ≡ signed_so_far front parameters None None → Took take_interest_field s 44 value t
    → (said : Option PlainSignatureInfo) × SaysInfo value said × (t ≡ signed_so_far front parameters said None)
info_taken None parameters front s t fits is took = (None, refl, took ∙ is)
info_taken (Some v) parameters front s t fits is took =
    let b = bind_ok (info_at v) (λ info. good (signed_so_far front parameters (Some info) None)) t (subst (λ (u : InterestSoFar). take_interest_field u (44, v) ≡ Ok t) is took) in
    (Some b.0, (b.0, info_found v b.0 fits b.1, refl), sym (ok_is _ t b.2))

value_taken : (value parameters : Option (List ℕ)) (said : Option PlainSignatureInfo) (front s t : InterestSoFar) → s ≡ signed_so_far front parameters said None → Took take_interest_field s 46 value t
    → t ≡ signed_so_far front parameters said value
value_taken None parameters said front s t is took = took ∙ is
value_taken (Some v) parameters said front s t is took = sym (ok_is _ t (subst (λ (u : InterestSoFar). take_interest_field u (46, v) ≡ Ok t) is took))

signature_found : (info value : Option (List ℕ)) (said : Option PlainSignatureInfo) → SaysInfo info said → IsSigned info value (signature_of said value)
signature_found None value said h = ap (λ (s : Option PlainSignatureInfo). signature_of s value) h
signature_found (Some v) None said h = (h.0, h.1, ap (λ (s : Option PlainSignatureInfo). signature_of s None) h.2)
signature_found (Some v) (Some w) said h = (h.0, h.1, ap (λ (s : Option PlainSignatureInfo). signature_of s (Some w)) h.2)

-- ---- the fields after the Name

record InterestFields (fields : List Field) (t : InterestSoFar) : Type 0 where
  prefix : Bool
  fresh : Bool
  hint : Option (List ℕ)
  nonce : Option (List ℕ)
  lifetime : Option (List ℕ)
  hop : Option (List ℕ)
  parameters : Option (List ℕ)
  info : Option (List ℕ)
  value : Option (List ℕ)
  number : Option ℕ
  limit : Option ℕ
  said : Option PlainSignatureInfo
  all : fields ≡ flag 33 prefix ++ (flag 18 fresh ++ (optional 30 hint ++ (optional 10 nonce ++ (optional 12 lifetime ++ (optional 34 hop ++ (optional 36 parameters ++ (optional 44 info ++ optional 46 value)))))))
  four : IsFour nonce
  number_is : IsNumber lifetime number
  limit_is : IsOctet hop limit
  info_is : SaysInfo info said
  made : t ≡ signed_so_far (so_far prefix fresh nonce (unwrap_or number 4000) limit) parameters said value

interest_fields : (plain fields : List Field) (t : InterestSoFar) → AreBytes fields → Fields is_even_high interest_schema plain fields → read_fields take_interest_field no_fields_yet (map good fields) ≡ Ok t → InterestFields fields t
interest_fields plain fields t fit recognised taken =
    let i33 = fields_in is_even_high interest_schema plain fields recognised in
    let i18 = i33.3 in
    let i30 = i18.3 in
    let i10 = i30.3 in
    let i12 = i10.3 in
    let i34 = i12.3 in
    let i36 = i34.3 in
    let i44 = i36.3 in
    let i46 = i44.3 in
    let t33 = took_first take_interest_field no_fields_yet t 33 i33.0 fields i33.1 i33.2 taken in
    let t18 = took_first take_interest_field t33.0 t 18 i18.0 i33.1 i18.1 i18.2 t33.2 in
    let t30 = took_first take_interest_field t18.0 t 30 i30.0 i18.1 i30.1 i30.2 t18.2 in
    let t10 = took_first take_interest_field t30.0 t 10 i10.0 i30.1 i10.1 i10.2 t30.2 in
    let t12 = took_first take_interest_field t10.0 t 12 i12.0 i10.1 i12.1 i12.2 t10.2 in
    let t34 = took_first take_interest_field t12.0 t 34 i34.0 i12.1 i34.1 i34.2 t12.2 in
    let t36 = took_first take_interest_field t34.0 t 36 i36.0 i34.1 i36.1 i36.2 t34.2 in
    let t44 = took_first take_interest_field t36.0 t 44 i44.0 i36.1 i44.1 i44.2 t36.2 in
    let t46 = took_first take_interest_field t44.0 t 46 i46.0 i44.1 i46.1 i46.2 t44.2 in
    let b33 = bytes_first 33 i33.0 fields i33.1 i33.2 fit in
    let b18 = bytes_first 18 i18.0 i33.1 i18.1 i18.2 b33.1 in
    let b30 = bytes_first 30 i30.0 i18.1 i30.1 i30.2 b18.1 in
    let b10 = bytes_first 10 i10.0 i30.1 i10.1 i10.2 b30.1 in
    let b12 = bytes_first 12 i12.0 i10.1 i12.1 i12.2 b10.1 in
    let b34 = bytes_first 34 i34.0 i12.1 i34.1 i34.2 b12.1 in
    let b36 = bytes_first 36 i36.0 i34.1 i36.1 i36.2 b34.1 in
    let b44 = bytes_first 44 i44.0 i36.1 i44.1 i44.2 b36.1 in
    let p = prefix_taken i33.0 t33.0 t33.1 in
    let f = fresh_taken i18.0 p.0 t33.0 t18.0 p.2 t18.1 in
    let n = nonce_taken i10.0 p.0 f.0 t30.0 t10.0 (hint_taken i30.0 t18.0 t30.0 t30.1 ∙ f.2) t10.1 in
    let l = lifetime_taken i12.0 i10.0 p.0 f.0 t10.0 t12.0 b12.0 n.1 t12.1 in
    let h = hop_taken i34.0 i10.0 p.0 f.0 (unwrap_or l.0 4000) t12.0 t34.0 l.2 t34.1 in
    let front = so_far p.0 f.0 i10.0 (unwrap_or l.0 4000) h.0 in
    let a = parameters_taken i36.0 front t34.0 t36.0 h.2 t36.1 in
    let s = info_taken i44.0 i36.0 front t36.0 t44.0 b44.0 a t44.1 in
    let v = value_taken i46.0 i36.0 s.0 front t44.0 t46.0 s.2 t46.1 in
    let last : t46.0 ≡ t = ok_is t46.0 t (subst (λ (fs : List Field). read_fields take_interest_field t46.0 (map good fs) ≡ Ok t) i46.3 t46.2) in
    let after_info : i44.1 ≡ optional 46 i46.0 = i46.2 ∙ ap (λ (fs : List Field). optional 46 i46.0 ++ fs) i46.3 ∙ append-nil (optional 46 i46.0) in
    let after_parameters : i36.1 ≡ optional 44 i44.0 ++ optional 46 i46.0 = i44.2 ∙ ap (λ (fs : List Field). optional 44 i44.0 ++ fs) after_info in
    let after_hop : i34.1 ≡ optional 36 i36.0 ++ (optional 44 i44.0 ++ optional 46 i46.0) = i36.2 ∙ ap (λ (fs : List Field). optional 36 i36.0 ++ fs) after_parameters in
    let after_lifetime : i12.1 ≡ optional 34 i34.0 ++ (optional 36 i36.0 ++ (optional 44 i44.0 ++ optional 46 i46.0)) = i34.2 ∙ ap (λ (fs : List Field). optional 34 i34.0 ++ fs) after_hop in
    let after_nonce : i10.1 ≡ optional 12 i12.0 ++ (optional 34 i34.0 ++ (optional 36 i36.0 ++ (optional 44 i44.0 ++ optional 46 i46.0))) = i12.2 ∙ ap (λ (fs : List Field). optional 12 i12.0 ++ fs) after_lifetime in
    let after_hint : i30.1 ≡ optional 10 i10.0 ++ (optional 12 i12.0 ++ (optional 34 i34.0 ++ (optional 36 i36.0 ++ (optional 44 i44.0 ++ optional 46 i46.0)))) = i10.2 ∙ ap (λ (fs : List Field). optional 10 i10.0 ++ fs) after_nonce in
    let after_fresh : i18.1 ≡ optional 30 i30.0 ++ (optional 10 i10.0 ++ (optional 12 i12.0 ++ (optional 34 i34.0 ++ (optional 36 i36.0 ++ (optional 44 i44.0 ++ optional 46 i46.0))))) =
    i30.2 ∙ ap (λ (fs : List Field). optional 30 i30.0 ++ fs) after_hint in
    record {
      prefix = p.0;
      fresh = f.0;
      hint = i30.0;
      nonce = i10.0;
      lifetime = i12.0;
      hop = i34.0;
      parameters = i36.0;
      info = i44.0;
      value = i46.0;
      number = l.0;
      limit = h.0;
      said = s.0;
      all = i33.2 ∙ (λ k. p.1 k ++ i18.2 k) ∙ (λ k. flag 33 p.0 ++ (f.1 k ++ after_fresh k));
      four = n.0;
      number_is = l.1;
      limit_is = h.1;
      info_is = s.1;
      made = sym last ∙ v;
    }

-- ---- the reader accepts only Interests of the grammar

nonce_there : (value : Option (List ℕ)) (nonce : List ℕ) → value ≡ Some nonce → IsFour value → length nonce ≡ 4
nonce_there value nonce is four = subst IsFour is four

-- the digest of parameters that the name of an Interest must have if the Interest has
-- ApplicationParameters
abbrev right_digest : List (Result Field TlvFault) → List ℕ
right_digest later = sha256 (octets_of_read (parameters_on later))

-- the result of the last step of reading an Interest; this step checks the digest of parameters
abbrev unless_digest : List Field → List (Result Field TlvFault) → InterestSoFar → List ℕ → Result PlainInterest PacketFault
unless_digest name later t nonce = on_option (λ fault. Err fault) (good (interest_made name t nonce)) (digest_fault t.parameters (digests_in name) (right_digest later))

no_fault : {A : Type 0} (fault : Option PacketFault) (x y : A) → on_option (λ f. Err f) (good x) fault ≡ Ok y → (fault ≡ None) × (x ≡ y)
no_fault None x y e = (refl, ok_is x y e)
no_fault (Some f) x y e = absurd (err_is_not_ok f y e)

joined : (text value : List ℕ) (name : List Field) (later : List (Result Field TlvFault)) (t : InterestSoFar) (nonce : List ℕ) → IsOne text 5 value → Leads (elements_of value) name later → name ≢ []
    → digest_fault t.parameters (digests_in name) (right_digest later) ≡ None → FieldsRead take_interest_field is_even_high interest_schema later no_fields_yet t → t.nonce ≡ Some nonce
    → IsInterest text (interest_made name t nonce)
joined text value name later t nonce one l named right r nonce_is =
    let fits = IsBytes-of_one text value 5 one in
    let inner = elements_read value ((7, l.value) ∷ r.plain) fits (l.front ∙ (λ k. read (7, l.value) ∷ r.all k)) in
    let bytes = IsBytes-fields ((7, l.value) ∷ r.plain) (subst IsBytes inner.1 fits) in
    let f = interest_fields r.plain r.fields t (fields_keep (λ f. IsBytes f.1) is_even_high interest_schema r.plain r.fields r.recognised bytes.1) r.recognised r.taken in
    let there : f.nonce ≡ Some nonce = sym (ap (λ (u : InterestSoFar). u.nonce) f.made) ∙ nonce_is in
    let fields : r.fields ≡ fields_with f.prefix f.fresh f.hint nonce f.lifetime f.hop f.parameters f.info f.value =
    f.all ∙ (λ k. flag 33 f.prefix ++ (flag 18 f.fresh ++ (optional 30 f.hint ++ (optional 10 (there k) ++ (optional 12 f.lifetime ++ (optional 34 f.hop ++ (optional 36 f.parameters ++ (optional 44 f.info ++ optional 46 f.value)))))))) in
    let parts : IsInterest text (interest_made name (signed_so_far (so_far f.prefix f.fresh f.nonce (unwrap_or f.number 4000) f.limit) f.parameters f.said f.value) nonce) = record {
      name_value = l.value;
      hint = f.hint;
      lifetime_value = f.lifetime;
      hop_value = f.hop;
      info_value = f.info;
      signature_value = f.value;
      fields = record {
        value = value;
        elements = r.plain;
        outer = one.outer;
        inner = inner;
        recognised = subst (Fields is_even_high interest_schema r.plain) fields r.recognised;
        short = one.short;
        octets = one.octets;
      };
      name = name_found l.value name bytes.0 l.name_is;
      named = named;
      nonce = nonce_there f.nonce nonce there f.four;
      lifetime = (f.number, f.number_is, refl);
      hop_limit = f.limit_is;
      digested = digest_found name r.plain f.parameters ((λ k. digest_fault (sym f.made k).parameters (digests_in name) (right_digest (sym r.all k))) ∙ right);
      signature = signature_found f.info f.value f.said f.info_is;
    } in
    subst (λ (u : InterestSoFar). IsInterest text (interest_made name u nonce)) (sym f.made) parts

after_name : (text value : List ℕ) (first : List Field × List (Result Field TlvFault)) (t : InterestSoFar) (i : PlainInterest) → IsOne text 5 value → leading_name_at (elements_of value) ≡ Ok first → first.0 ≢ []
    → read_fields take_interest_field no_fields_yet (fields_from is_even_high interest_schema first.1) ≡ Ok t
    → (found_or NoNonce t.nonce >>= λ nonce. unless_digest first.0 first.1 t nonce) ≡ Ok i → IsInterest text i
after_name text value first t i one name_is named fields_are e =
    let n = bind_ok (found_or NoNonce t.nonce) (λ nonce. unless_digest first.0 first.1 t nonce) i e in
    let g = no_fault (digest_fault t.parameters (digests_in first.0) (right_digest first.1)) (interest_made first.0 t n.0) i n.2 in
    subst (IsInterest text) g.1
    (joined text value first.0 first.1 t n.0 one (lead (elements_of value) first name_is) named g.0
    (fields_found take_interest_field is_even_high interest_schema first.1 no_fields_yet t fields_are) (found_some NoNonce t.nonce n.0 n.1))

pub interest_found : (text value : List ℕ) (i : PlainInterest) → IsOne text 5 value → interest_at value ≡ Ok i → IsInterest text i
unfolding interest_at
interest_found text value i one e =
    let a = bind_ok (leading_name_at (elements_of value))
    (λ first. cond (is_nil first.0) (Err NoName) (good first.0) >>= λ name. read_fields take_interest_field no_fields_yet (fields_from is_even_high interest_schema first.1)
    >>= λ t. found_or NoNonce t.nonce >>= λ nonce. unless_digest name first.1 t nonce) i e in
    let g = unless_ok (is_nil a.0.0) NoName a.0.0
    (λ name. read_fields take_interest_field no_fields_yet (fields_from is_even_high interest_schema a.0.1)
    >>= λ t. found_or NoNonce t.nonce >>= λ nonce. unless_digest name a.0.1 t nonce) i a.2 in
    let b = bind_ok (read_fields take_interest_field no_fields_yet (fields_from is_even_high interest_schema a.0.1))
    (λ t. found_or NoNonce t.nonce >>= λ nonce. unless_digest a.0.0 a.0.1 t nonce) i g.1 in
    after_name text value a.0 b.0 i one a.1 (not_nil a.0.0 g.0) b.1 b.2

-- ---- the reader accepts each Interest of the grammar

abbrev flag_value : Bool → Option (List ℕ)
flag_value true = Some []
flag_value false = None

flag_is : (kind : ℕ) (b : Bool) → flag kind b ≡ optional kind (flag_value b)
flag_is kind true = refl
flag_is kind false = refl

prefix_again : (b : Bool) → Took take_interest_field no_fields_yet 33 (flag_value b) (so_far b false None 4000 None)
prefix_again true = refl
prefix_again false = refl

fresh_again : (prefix b : Bool) → Took take_interest_field (so_far prefix false None 4000 None) 18 (flag_value b) (so_far prefix b None 4000 None)
fresh_again prefix true = refl
fresh_again prefix false = refl

hint_again : (value : Option (List ℕ)) (s : InterestSoFar) → Took take_interest_field s 30 value s
hint_again None s = refl
hint_again (Some v) s = refl

nonce_again : (nonce : List ℕ) (prefix fresh : Bool) → length nonce ≡ 4 → Took take_interest_field (so_far prefix fresh None 4000 None) 10 (Some nonce) (so_far prefix fresh (Some nonce) 4000 None)
nonce_again nonce prefix fresh four = rw (eq-eqb (length nonce) 4 four) refl

lifetime_again : (value given : Option (List ℕ)) (prefix fresh : Bool) (n : Option ℕ) → IsNumber value n → Took take_interest_field (so_far prefix fresh given 4000 None) 12 value (so_far prefix fresh given (unwrap_or n 4000) None)
lifetime_again None given prefix fresh n is = ap (λ (m : Option ℕ). so_far prefix fresh given (unwrap_or m 4000) None) is
lifetime_again (Some v) given prefix fresh n is =
    ap (λ (r : Result ℕ PacketFault). r >>= λ m. good (so_far prefix fresh given m None)) (number_again v is.0 is.1) ∙ ap (λ (m : Option ℕ). good (so_far prefix fresh given (unwrap_or m 4000) None)) (sym is.2)

hop_again : (value given : Option (List ℕ)) (prefix fresh : Bool) (lifetime : ℕ) (n : Option ℕ) → IsOctet value n → Took take_interest_field (so_far prefix fresh given lifetime None) 34 value (so_far prefix fresh given lifetime n)
hop_again None given prefix fresh lifetime n is = ap (λ (m : Option ℕ). so_far prefix fresh given lifetime m) is
hop_again (Some v) given prefix fresh lifetime n is =
    ap (λ (x : List ℕ). octet_at x >>= λ m. good (so_far prefix fresh given lifetime (Some m))) is.1 ∙ ap (λ (m : Option ℕ). good (so_far prefix fresh given lifetime m)) (sym is.2)

parameters_again : (value : Option (List ℕ)) (front : InterestSoFar) → Took take_interest_field (signed_so_far front None None None) 36 value (signed_so_far front value None None)
parameters_again None front = refl
parameters_again (Some v) front = refl

info_taken_again : (value parameters : Option (List ℕ)) (front : InterestSoFar) (said : Option PlainSignatureInfo) → MayBeBytes value → SaysInfo value said
    → Took take_interest_field (signed_so_far front parameters None None) 44 value (signed_so_far front parameters said None)
info_taken_again None parameters front said fits is = ap (λ (i : Option PlainSignatureInfo). signed_so_far front parameters i None) is
info_taken_again (Some v) parameters front said fits is =
    ap (λ (r : Result PlainSignatureInfo PacketFault). r >>= λ i. good (signed_so_far front parameters (Some i) None)) (info_again v is.0 fits is.1)
    ∙ ap (λ (i : Option PlainSignatureInfo). good (signed_so_far front parameters i None)) (sym is.2)

value_again : (value parameters : Option (List ℕ)) (said : Option PlainSignatureInfo) (front : InterestSoFar)
    → Took take_interest_field (signed_so_far front parameters said None) 46 value (signed_so_far front parameters said value)
value_again None parameters said front = refl
value_again (Some v) parameters said front = refl

-- `signature_of` returns the signature that the grammar assigns to an InterestSignatureInfo and an
-- InterestSignatureValue
signature_again : (info value : Option (List ℕ)) (signature : Option PlainSignature) → IsSigned info value signature → (said : Option PlainSignatureInfo) × SaysInfo info said × (signature_of said value ≡ signature)
signature_again None value signature h = (None, refl, sym h)
signature_again (Some v) None signature h = (Some h.0, (h.0, h.1, refl), sym h.2)
signature_again (Some v) (Some w) signature h = (Some h.0, (h.0, h.1, refl), sym h.2)

-- reading the fields of an Interest of the grammar ends in the state that has the values of these
-- fields
fields_computed : (prefix fresh : Bool) (hint : Option (List ℕ)) (nonce : List ℕ) (lifetime hop parameters info value : Option (List ℕ)) (number limit : Option ℕ) (said : Option PlainSignatureInfo) → length nonce ≡ 4
    → IsNumber lifetime number → IsOctet hop limit → MayBeBytes info → SaysInfo info said
    → read_fields take_interest_field no_fields_yet (map good (fields_with prefix fresh hint nonce lifetime hop parameters info value))
    ≡ Ok (signed_so_far (so_far prefix fresh (Some nonce) (unwrap_or number 4000) limit) parameters said value)
fields_computed prefix fresh hint nonce lifetime hop parameters info value number limit said four number_is limit_is fits info_is =
    let take = take_interest_field in
    let s33 = so_far prefix false None 4000 None in
    let s18 = so_far prefix fresh None 4000 None in
    let s10 = so_far prefix fresh (Some nonce) 4000 None in
    let s12 = so_far prefix fresh (Some nonce) (unwrap_or number 4000) None in
    let s34 = so_far prefix fresh (Some nonce) (unwrap_or number 4000) limit in
    let s36 = signed_so_far s34 parameters None None in
    let s44 = signed_so_far s34 parameters said None in
    let s46 = signed_so_far s34 parameters said value in
    let from46 = optional 46 value in
    let from44 = optional 44 info ++ from46 in
    let from36 = optional 36 parameters ++ from44 in
    let from34 = optional 34 hop ++ from36 in
    let from12 = optional 12 lifetime ++ from34 in
    let from10 = optional 10 (Some nonce) ++ from12 in
    let from30 = optional 30 hint ++ from10 in
    ap (λ (fs : List Field). read_fields take no_fields_yet (map good fs)) (λ k. flag_is 33 prefix k ++ (flag_is 18 fresh k ++ from30))
    ∙ took_again take no_fields_yet s33 33 (flag_value prefix) (optional 18 (flag_value fresh) ++ from30) (prefix_again prefix)
    ∙ took_again take s33 s18 18 (flag_value fresh) from30 (fresh_again prefix fresh)
    ∙ took_again take s18 s18 30 hint from10 (hint_again hint s18)
    ∙ took_again take s18 s10 10 (Some nonce) from12 (nonce_again nonce prefix fresh four)
    ∙ took_again take s10 s12 12 lifetime from34 (lifetime_again lifetime (Some nonce) prefix fresh number number_is)
    ∙ took_again take s12 s34 34 hop from36 (hop_again hop (Some nonce) prefix fresh (unwrap_or number 4000) limit limit_is)
    ∙ took_again take s34 s36 36 parameters from44 (parameters_again parameters s34)
    ∙ took_again take s36 s44 44 info from46 (info_taken_again info parameters s34 said fits info_is)
    ∙ ap (λ (fs : List Field). read_fields take s44 (map good fs)) (sym (append-nil from46))
    ∙ took_again take s44 s46 46 value [] (value_again value parameters said s34)

interest_computes : (value name_value : List ℕ) (elements fields : List Field) (name : List Field) (t : InterestSoFar) (nonce : List ℕ) → IsElements value ((7, name_value) ∷ elements) → IsNameValue name_value name → name ≢ []
    → digest_fault t.parameters (digests_in name) (right_digest (map read elements)) ≡ None → fields_from is_even_high interest_schema (map read elements) ≡ map good fields
    → read_fields take_interest_field no_fields_yet (map good fields) ≡ Ok t → t.nonce ≡ Some nonce → interest_at value ≡ good (interest_made name t nonce)
unfolding interest_at
interest_computes value name_value elements fields name t nonce inner name_is named right fields_are taken nonce_is =
    rw (elements_exact value ((7, name_value) ∷ elements) inner, name_again name_value name name_is, is_nil-false name named, fields_are, taken, nonce_is, right) refl

-- if all fields consist of octets, the TLV-VALUE of the InterestSignatureInfo consists of octets
info_bytes : (prefix fresh : Bool) (hint : Option (List ℕ)) (nonce : List ℕ) (lifetime hop parameters info value : Option (List ℕ)) → AreBytes (fields_with prefix fresh hint nonce lifetime hop parameters info value) → MayBeBytes info
info_bytes prefix fresh hint nonce lifetime hop parameters info value fit =
    let from46 = optional 46 value in
    let from44 = optional 44 info ++ from46 in
    let from36 = optional 36 parameters ++ from44 in
    let from34 = optional 34 hop ++ from36 in
    let from12 = optional 12 lifetime ++ from34 in
    let from10 = optional 10 (Some nonce) ++ from12 in
    let from30 = optional 30 hint ++ from10 in
    let b33 = bytes_first 33 (flag_value prefix) _ (flag 18 fresh ++ from30) (λ k. flag_is 33 prefix k ++ (flag 18 fresh ++ from30)) fit in
    let b18 = bytes_first 18 (flag_value fresh) _ from30 (λ k. flag_is 18 fresh k ++ from30) b33.1 in
    let b30 = bytes_first 30 hint _ from10 refl b18.1 in
    let b10 = bytes_first 10 (Some nonce) _ from12 refl b30.1 in
    let b12 = bytes_first 12 lifetime _ from34 refl b10.1 in
    let b34 = bytes_first 34 hop _ from36 refl b12.1 in
    let b36 = bytes_first 36 parameters _ from44 refl b34.1 in
    (bytes_first 44 info _ from46 refl b36.1).0

pub interest_again : (text : List ℕ) (i : PlainInterest) (h : IsInterest text i) → interest_at h.fields.value ≡ Ok i
interest_again text i h =
    let value = h.fields.value in
    let elements = h.fields.elements in
    let s = signature_again h.info_value h.signature_value i.signature h.signature in
    let t = signed_so_far (so_far i.can_be_prefix i.must_be_fresh (Some i.nonce) (unwrap_or h.lifetime.0 4000) i.hop_limit) i.parameters s.0 h.signature_value in
    let fields = fields_with i.can_be_prefix i.must_be_fresh h.hint i.nonce h.lifetime_value h.hop_value i.parameters h.info_value h.signature_value in
    let fits = IsBytes-inside text value 5 h.fields.octets h.fields.outer in
    let bytes = IsBytes-fields ((7, h.name_value) ∷ elements) (subst IsBytes h.fields.inner.1 fits) in
    let kept = fields_keep (λ f. IsBytes f.1) is_even_high interest_schema elements fields h.fields.recognised bytes.1 in
    let info_fits = info_bytes i.can_be_prefix i.must_be_fresh h.hint i.nonce h.lifetime_value h.hop_value i.parameters h.info_value h.signature_value kept in
    interest_computes value h.name_value elements fields i.name t i.nonce h.fields.inner h.name h.named (digest_again i.name elements i.parameters h.digested) (fields_again is_even_high interest_schema elements fields h.fields.recognised)
    (fields_computed i.can_be_prefix i.must_be_fresh h.hint i.nonce h.lifetime_value h.hop_value i.parameters h.info_value h.signature_value h.lifetime.0 i.hop_limit s.0 h.nonce h.lifetime.1 h.hop_limit info_fits s.1) refl
    ∙ (λ k. good (record { name = i.name; can_be_prefix = i.can_be_prefix; must_be_fresh = i.must_be_fresh; nonce = i.nonce; lifetime = sym h.lifetime.2 k; hop_limit = i.hop_limit; parameters = i.parameters; signature = s.2 k }))
