-- Readers of packets report the first fault.
use Rattle.std.proofs.Common.{◌≡◌, ◌≢◌, ℕ, Bool, true, false, cond, eqb, List, [], ◌∷◌, map, Option, Some, None, Result, Ok, Err, refl, sym, ap, ◌∙◌, ◌⊎◌, inl, inr, eq-eqb}
use Rattle.std.specs.Prelude.{◌↔◌, IsErr}
use Rattle.std.specs.Str.{bytes_eq}
use Rattle.std.proofs.lemmas.Bool.{eqb-true, eqb-false, ne_eqb}
use Rattle.sha2.specs.Sha256.{sha256}
use Rattle.ndn_tlv.specs.declared.fault.TlvFault.{TlvFault}
use Rattle.ndn_tlv.specs.Element.{Field}
use Rattle.ndn_tlv.specs.Reading.{◌>>=◌, on_result, elements_of}
use Rattle.ndn_names.specs.declared.fault.NameFault.{NameFault as RefusedName}
use Rattle.ndn_names.specs.Reading.{name_at}
use Rattle.ndn_packets.specs.declared.fault.PacketFault.{PacketFault}
use Rattle.ndn_packets.specs.declared.fault.PacketFault.TheVariants.{Tlv, NoName, CriticalUnknown, BadField, NoNonce, DigestMissing, DigestWrong, DigestWithout}
use Rattle.ndn_packets.specs.Packet.{PlainSignatureInfo, PlainInterest, PlainData, digests_in}
use Rattle.ndn_packets.specs.Fields.{is_even_high, is_ignored_in_signature_info, interest_schema, data_schema, info_schema}
use Rattle.ndn_tlv.specs.Options.{on_option}
use Rattle.ndn_packets.specs.Reading.{schema_after, fields_from, read_fields, is_nil, found_or, leading_name_at, name_value_at, InfoSoFar, take_info_field, no_info_yet, info_at, InterestSoFar, take_interest_field, no_fields_yet, interest_made, interest_at, DataSoFar, take_data_field, nothing_yet, data_at, digest_fault, octets_of_read, parameters_on}
use Rattle.ndn_packets.specs.FirstFault.{Passes, AllPass}
use Rattle.ndn_packets.specs.PacketFaults.{InfoFault, Leads, NameFault, DigestFault, InterestEndsWrong, AfterInterestName, InterestFault, AfterDataName, DataFault}
use Rattle.ndn_packets.proofs.Steps.{bind_ok, good, read, err_is_not_ok, ok_is, some_is, none_is_not_some, lead}
use Rattle.ndn_packets.proofs.FieldLists.{IsSchemaAfter, after_found, after_again, after_none}
use Rattle.ndn_packets.proofs.Digests.{digest_found, digest_again}
use Rattle.ndn_packets.proofs.FirstFaults.{bad, err_is, ok_is_not_err, tells_first_fault}

-- ---- a sequence of steps of which one fails

pub bind_err : {A B : Type 0} (r : Result A PacketFault) (f : A → Result B PacketFault) (fault : PacketFault) → (r >>= f) ≡ Err fault → (r ≡ Err fault) ⊎ ((x : A) × (r ≡ Ok x) × (f x ≡ Err fault))
bind_err (Ok x) f fault e = inr (x, refl, e)
bind_err {A} {B} (Err d) f fault e = inl (ap (bad A) (sym (err_is B d fault e)))

pub told : (A : Type 0) (d fault : PacketFault) → fault ≡ d → bad A d ≡ bad A fault
told A d fault e = ap (bad A) (sym e)

-- ---- fields that are all read without a fault

pub all_passed : {S : Type 0} (take : S → Field → Result S PacketFault) (ignores : ℕ → Bool) (schema : List ℕ) (elements : List (Result Field TlvFault)) (s t : S)
    → read_fields take s (fields_from ignores schema elements) ≡ Ok t → (plain : List Field) × AllPass take ignores schema s elements plain t
all_passed take ignores schema [] s t e = ([], (refl, (schema, (refl, sym (ok_is s t e)))))
all_passed take ignores schema (Err f ∷ elements) s t e = absurd (err_is_not_ok _ t e)
all_passed {S} take ignores schema (Ok x ∷ elements) s t e =
    elim (schema_after x.0 schema) as (λ r. IsSchemaAfter x.0 schema r
    → read_fields take s (on_option (λ later. Ok x ∷ fields_from ignores later elements) (cond (ignores x.0) (fields_from ignores schema elements) (Err CriticalUnknown ∷ [])) r) ≡ Ok t
    → (plain : List Field) × AllPass take ignores schema s (Ok x ∷ elements) plain t) [
      | Some later ↦ λ counts e.
          let b = bind_ok (take s x) (λ u. read_fields take u (fields_from ignores later elements)) t e in
          let r = all_passed take ignores later elements b.0 t b.2 in
          (x ∷ r.0, (ap (λ (es : List (Result Field TlvFault)). read x ∷ es) r.1.0, (r.1.1.0, inl (later, b.0, counts, b.1, r.1.1.1))))
      | None ↦ λ none e.
          elim (ignores x.0) as (λ b. ignores x.0 ≡ b → read_fields take s (cond b (fields_from ignores schema elements) (Err CriticalUnknown ∷ [])) ≡ Ok t → (plain : List Field) × AllPass take ignores schema s (Ok x ∷ elements) plain t) [
            | true ↦ λ ignored e.
                let r = all_passed take ignores schema elements s t e in
                (x ∷ r.0, (ap (λ (es : List (Result Field TlvFault)). read x ∷ es) r.1.0, (r.1.1.0, inr (none, ignored, r.1.1.1))))
            | false ↦ λ _ e. absurd (err_is_not_ok _ t e)
          ] refl e
    ] (after_found x.0 schema) e

passed_plain : {S : Type 0} (take : S → Field → Result S PacketFault) (ignores : ℕ → Bool) (schema later : List ℕ) (s t : S) (plain : List Field) → Passes take ignores schema s plain later t → read_fields take s (fields_from ignores schema (map read plain)) ≡ Ok t
passed_plain take ignores schema later s t [] p = ap good (sym p.1)
passed_plain take ignores schema later s t (e ∷ plain) (inl p) = rw (after_again e.0 schema p.0 p.2, p.3) (passed_plain take ignores p.0 later p.1 t plain p.4)
passed_plain take ignores schema later s t (e ∷ plain) (inr p) = rw (after_none e.0 schema p.0, p.1) (passed_plain take ignores schema later s t plain p.2)

pub passed_again : {S : Type 0} (take : S → Field → Result S PacketFault) (ignores : ℕ → Bool) (schema : List ℕ) (s t : S) (elements : List (Result Field TlvFault)) (plain : List Field) → AllPass take ignores schema s elements plain t
    → read_fields take s (fields_from ignores schema elements) ≡ Ok t
passed_again take ignores schema s t elements plain a =
    ap (λ (es : List (Result Field TlvFault)). read_fields take s (fields_from ignores schema es)) a.0 ∙ passed_plain take ignores schema a.1.0 s t plain a.1.1

-- ---- the fault of reading a SignatureInfo

none_found : {A B : Type 0} (d fault : PacketFault) (o : Option A) (f : A → B) → (found_or d o >>= λ x. good (f x)) ≡ Err fault → (o ≡ None) × (fault ≡ d)
none_found {A} {B} d fault None f e = (refl, err_is B d fault e)
none_found d fault (Some x) f e = absurd (ok_is_not_err (f x) fault e)

abbrev info_of : InfoSoFar → ℕ → PlainSignatureInfo
info_of s kind = record { kind = kind; locator = s.locator; time = s.time; seq = s.seq }

abbrev info_end : InfoSoFar → Result PlainSignatureInfo PacketFault
info_end s = found_or BadField s.kind >>= λ kind. good (info_of s kind)

pub info_tells : (value : List ℕ) (fault : PacketFault) → (info_at value ≡ Err fault) ↔ InfoFault (elements_of value) fault
unfolding info_at
info_tells value fault = (
  λ e. elim (bind_err (read_fields take_info_field no_info_yet (fields_from is_ignored_in_signature_info info_schema (elements_of value))) info_end fault e) [
    | inl r ↦ inl ((tells_first_fault take_info_field is_ignored_in_signature_info info_schema no_info_yet (elements_of value) fault).0 r)
    | inr r ↦
        let a = all_passed take_info_field is_ignored_in_signature_info info_schema (elements_of value) no_info_yet r.0 r.1 in
        let n = none_found BadField fault r.0.kind (info_of r.0) r.2 in
        inr (record { plain = a.0; taken = r.0; pass = a.1; missing = n.0; told = n.1 })
  ],
  λ h. elim h [
    | inl f ↦ ap (λ (r : Result InfoSoFar PacketFault). r >>= info_end) ((tells_first_fault take_info_field is_ignored_in_signature_info info_schema no_info_yet (elements_of value) fault).1 f)
    | inr w ↦
        ap (λ (r : Result InfoSoFar PacketFault). r >>= info_end) (passed_again take_info_field is_ignored_in_signature_info info_schema no_info_yet w.taken (elements_of value) w.plain w.pass)
        ∙ ap (λ (o : Option ℕ). found_or BadField o >>= λ kind. good (info_of w.taken kind)) w.missing
        ∙ told PlainSignatureInfo BadField fault w.told
  ],
)

-- ---- the fault of reading the Name at the beginning of a packet

abbrev Named : Type 0
Named = List Field × List (Result Field TlvFault)

value_fault : (r : Result (List Field) RefusedName) (later : List (Result Field TlvFault)) (fault : PacketFault) → (on_result (λ n. good n) (λ _. Err BadField) r >>= λ name. good {A = Named} (name, later)) ≡ Err fault → IsErr r × (fault ≡ BadField)
value_fault (Ok n) later fault e = absurd (ok_is_not_err (n, later) fault e)
value_fault (Err d) later fault e = (refl, err_is Named BadField fault e)

value_fault_again : (r : Result (List Field) RefusedName) (later : List (Result Field TlvFault)) (fault : PacketFault) → IsErr r → fault ≡ BadField → (on_result (λ n. good n) (λ _. Err BadField) r >>= λ name. good {A = Named} (name, later)) ≡ Err fault
value_fault_again (Ok n) later fault is e = absurd cc
value_fault_again (Err d) later fault is e = told Named BadField fault e

name_fault : (elements : List (Result Field TlvFault)) (fault : PacketFault) → leading_name_at elements ≡ Err fault → NameFault elements fault
name_fault [] fault e = err_is Named NoName fault e
name_fault (Err f ∷ elements) fault e = err_is Named (Tlv f) fault e
name_fault (Ok x ∷ elements) fault e =
    elim (eqb x.0 7) as (λ b. eqb x.0 7 ≡ b → (cond b (good {A = List ℕ × List (Result Field TlvFault)} (x.1, elements)) (Err NoName) >>= λ first. name_value_at first.0 >>= λ name. good {A = Named} (name, first.1)) ≡ Err fault → NameFault (Ok x ∷ elements) fault) [
      | true ↦ λ is e. (let v = value_fault (name_at x.1) elements fault e in inr (eqb-true x.0 7 is, v.0, v.1))
      | false ↦ λ is e. inl (eqb-false x.0 7 is, err_is Named NoName fault e)
    ] refl e

name_fault_again : (elements : List (Result Field TlvFault)) (fault : PacketFault) → NameFault elements fault → leading_name_at elements ≡ Err fault
name_fault_again [] fault h = told Named NoName fault h
name_fault_again (Err f ∷ elements) fault h = told Named (Tlv f) fault h
name_fault_again (Ok x ∷ elements) fault (inl h) = rw (ne_eqb x.0 7 h.0) (told Named NoName fault h.1)
name_fault_again (Ok x ∷ elements) fault (inr h) = rw (eq-eqb x.0 7 h.0) (value_fault_again (name_at x.1) elements fault h.1 h.2)

lead_again : (elements : List (Result Field TlvFault)) (name : List Field) (later : List (Result Field TlvFault)) → Leads elements name later → leading_name_at elements ≡ good {A = Named} (name, later)
lead_again elements name later h = ap leading_name_at h.front ∙ rw (h.name_is) refl

-- ---- the fault of checking the digests of parameters

without_fault : (digests : List Field) (right : List ℕ) (fault : PacketFault) → digest_fault None digests right ≡ Some fault → (digests ≢ []) × (fault ≡ DigestWithout)
without_fault [] right fault e = absurd (none_is_not_some fault e)
without_fault (d ∷ digests) right fault e = ((λ is. cc), sym (some_is DigestWithout fault e))

with_fault : (parameters : List ℕ) (digests : List Field) (right : List ℕ) (fault : PacketFault) → digest_fault (Some parameters) digests right ≡ Some fault
    → ((digests ≡ []) × (fault ≡ DigestMissing)) ⊎ ((digests ≢ []) × (fault ≡ DigestWrong))
with_fault parameters [] right fault e = inl (refl, sym (some_is DigestMissing fault e))
with_fault parameters (d ∷ []) right fault e = inr ((λ is. cc), wrong (bytes_eq d.1 right) e)
  where
    wrong : (b : Bool) → cond b None (Some DigestWrong) ≡ Some fault → fault ≡ DigestWrong
    wrong true e = absurd (none_is_not_some fault e)
    wrong false e = sym (some_is DigestWrong fault e)
with_fault parameters (d ∷ c ∷ digests) right fault e = inr ((λ is. cc), sym (some_is DigestWrong fault e))

abbrev right_digest : List (Result Field TlvFault) → List ℕ
right_digest elements = sha256 (octets_of_read (parameters_on elements))

digests_told : (name plain : List Field) (parameters : Option (List ℕ)) (fault : PacketFault) → digest_fault parameters (digests_in name) (right_digest (map read plain)) ≡ Some fault → DigestFault name plain parameters fault
digests_told name plain None fault e = without_fault (digests_in name) (right_digest (map read plain)) fault e
digests_told name plain (Some p) fault e =
    elim (with_fault p (digests_in name) (right_digest (map read plain)) fault e) [
      | inl h ↦ inl h
      | inr h ↦ inr (h.0, (λ is. none_is_not_some fault (sym (digest_again name plain (Some p) is) ∙ e)), h.1)
    ]

digests_again : (name plain : List Field) (parameters : Option (List ℕ)) (fault : PacketFault) → DigestFault name plain parameters fault → digest_fault parameters (digests_in name) (right_digest (map read plain)) ≡ Some fault
digests_again name plain None fault h = without (digests_in name) h.0
  where
    without : (digests : List Field) → digests ≢ [] → digest_fault None digests (right_digest (map read plain)) ≡ Some fault
    without [] some = absurd (some refl)
    without (d ∷ digests) some = ap (λ (f : PacketFault). Some f) (sym h.1)
digests_again name plain (Some p) fault (inl h) = ap (λ (ds : List Field). digest_fault (Some p) ds (right_digest (map read plain))) h.0 ∙ ap (λ (f : PacketFault). Some f) (sym h.1)
digests_again name plain (Some p) fault (inr h) = decided (digest_fault (Some p) (digests_in name) (right_digest (map read plain))) refl
  where
    decided : (r : Option PacketFault) → digest_fault (Some p) (digests_in name) (right_digest (map read plain)) ≡ r → r ≡ Some fault
    decided None e = absurd (h.1 (digest_found name plain (Some p) e))
    decided (Some f) e =
        elim (with_fault p (digests_in name) (right_digest (map read plain)) f e) [
          | inl g ↦ absurd (h.0 g.0)
          | inr g ↦ ap (λ (f : PacketFault). Some f) (g.1 ∙ sym h.2)
        ]

-- ---- the fault of reading an Interest

abbrev interest_end : List Field → List (Result Field TlvFault) → InterestSoFar → Result PlainInterest PacketFault
interest_end name later s =
    found_or NoNonce s.nonce >>= λ nonce. on_option (λ fault. Err fault) (good (interest_made name s nonce)) (digest_fault s.parameters (digests_in name) (right_digest later))

abbrev interest_fields : List (Result Field TlvFault) → Result InterestSoFar PacketFault
interest_fields later = read_fields take_interest_field no_fields_yet (fields_from is_even_high interest_schema later)

abbrev interest_after : List Field → List (Result Field TlvFault) → Result PlainInterest PacketFault
interest_after name later = cond (is_nil name) (Err NoName) (good name) >>= λ name. interest_fields later >>= interest_end name later

end_fault : (nonce : Option (List ℕ)) (made : List ℕ → PlainInterest) (digest : Option PacketFault) (fault : PacketFault) → (found_or NoNonce nonce >>= λ n. on_option (λ f. Err f) (good (made n)) digest) ≡ Err fault
    → ((nonce ≡ None) × (fault ≡ NoNonce)) ⊎ ((nonce ≢ None) × (digest ≡ Some fault))
end_fault None made digest fault e = inl (refl, err_is PlainInterest NoNonce fault e)
end_fault (Some n) made None fault e = absurd (ok_is_not_err (made n) fault e)
end_fault (Some n) made (Some f) fault e = inr ((λ is. cc), ap (λ (g : PacketFault). Some g) (sym (err_is PlainInterest f fault e)))

end_fault_again : (nonce : Option (List ℕ)) (made : List ℕ → PlainInterest) (digest : Option PacketFault) (fault : PacketFault) → nonce ≢ None → digest ≡ Some fault
    → (found_or NoNonce nonce >>= λ n. on_option (λ f. Err f) (good (made n)) digest) ≡ Err fault
end_fault_again None made digest fault some e = absurd (some refl)
end_fault_again (Some n) made digest fault some e = rw e refl

interest_ends : (name : List Field) (later : List (Result Field TlvFault)) (t : InterestSoFar) (fault : PacketFault) → interest_fields later ≡ Ok t → interest_end name later t ≡ Err fault → InterestEndsWrong name later fault
interest_ends name later t fault all e =
    let a = all_passed take_interest_field is_even_high interest_schema later no_fields_yet t all in
    record {
      plain = a.0;
      taken = t;
      pass = a.1;
      faulty = elim (end_fault t.nonce (interest_made name t) (digest_fault t.parameters (digests_in name) (right_digest later)) fault e) [
        | inl h ↦ inl h
        | inr h ↦ inr (h.0, digests_told name a.0 t.parameters fault (ap (λ (es : List (Result Field TlvFault)). digest_fault t.parameters (digests_in name) (right_digest es)) (sym a.1.0) ∙ h.1))
      ];
    }

interest_ends_again : (name : List Field) (later : List (Result Field TlvFault)) (fault : PacketFault) → InterestEndsWrong name later fault → (interest_fields later >>= interest_end name later) ≡ Err fault
interest_ends_again name later fault w =
    ap (λ (r : Result InterestSoFar PacketFault). r >>= interest_end name later) (passed_again take_interest_field is_even_high interest_schema no_fields_yet w.taken later w.plain w.pass)
    ∙ ends w.faulty
  where
    ends : ((w.taken.nonce ≡ None) × (fault ≡ NoNonce)) ⊎ ((w.taken.nonce ≢ None) × DigestFault name w.plain w.taken.parameters fault) → interest_end name later w.taken ≡ Err fault
    ends (inl h) = rw (h.0) (told PlainInterest NoNonce fault h.1)
    ends (inr h) =
        end_fault_again w.taken.nonce (interest_made name w.taken) (digest_fault w.taken.parameters (digests_in name) (right_digest later)) fault h.0
        (ap (λ (es : List (Result Field TlvFault)). digest_fault w.taken.parameters (digests_in name) (right_digest es)) w.pass.0 ∙ digests_again name w.plain w.taken.parameters fault h.1)

after_interest_name : (name : List Field) (later : List (Result Field TlvFault)) (fault : PacketFault) → interest_after name later ≡ Err fault → AfterInterestName name later fault
after_interest_name [] later fault e = inl (refl, err_is PlainInterest NoName fault e)
after_interest_name (c ∷ name) later fault e = inr (
  (λ is. cc),
  elim (bind_err (interest_fields later) (interest_end (c ∷ name) later) fault e) [
    | inl r ↦ inl ((tells_first_fault take_interest_field is_even_high interest_schema no_fields_yet later fault).0 r)
    | inr r ↦ inr (interest_ends (c ∷ name) later r.0 fault r.1 r.2)
  ],
)

after_interest_name_again : (name : List Field) (later : List (Result Field TlvFault)) (fault : PacketFault) → AfterInterestName name later fault → interest_after name later ≡ Err fault
after_interest_name_again name later fault (inl h) = ap (λ (n : List Field). interest_after n later) h.0 ∙ told PlainInterest NoName fault h.1
after_interest_name_again [] later fault (inr h) = absurd (h.0 refl)
after_interest_name_again (c ∷ name) later fault (inr h) =
    elim h.1 [
      | inl f ↦ ap (λ (r : Result InterestSoFar PacketFault). r >>= interest_end (c ∷ name) later) ((tells_first_fault take_interest_field is_even_high interest_schema no_fields_yet later fault).1 f)
      | inr w ↦ interest_ends_again (c ∷ name) later fault w
    ]

pub interest_tells : (value : List ℕ) (fault : PacketFault) → (interest_at value ≡ Err fault) ↔ InterestFault (elements_of value) fault
unfolding interest_at
interest_tells value fault = (
  λ e. elim (bind_err (leading_name_at (elements_of value)) (λ first. interest_after first.0 first.1) fault e) [
    | inl n ↦ inl (name_fault (elements_of value) fault n)
    | inr r ↦ inr (r.0.0, r.0.1, lead (elements_of value) r.0 r.1, after_interest_name r.0.0 r.0.1 fault r.2)
  ],
  λ h. elim h [
    | inl n ↦ ap (λ (r : Result Named PacketFault). r >>= λ first. interest_after first.0 first.1) (name_fault_again (elements_of value) fault n)
    | inr r ↦
        ap (λ (r : Result Named PacketFault). r >>= λ first. interest_after first.0 first.1) (lead_again (elements_of value) r.0 r.1 r.2)
        ∙ after_interest_name_again r.0 r.1 fault r.3
  ],
)

-- ---- the fault of reading a Data

abbrev data_fields : List (Result Field TlvFault) → Result DataSoFar PacketFault
data_fields later = read_fields take_data_field nothing_yet (fields_from is_even_high data_schema later)

abbrev data_made : List Field → DataSoFar → PlainSignatureInfo → List ℕ → PlainData
data_made name s info value = record { name = name; freshness = s.freshness; content = s.content; signature = record { info = info; value = value } }

abbrev data_end : List Field → DataSoFar → Result PlainData PacketFault
data_end name s = found_or BadField s.info >>= λ info. found_or BadField s.value >>= λ value. good (data_made name s info value)

data_end_fault : (name : List Field) (s : DataSoFar) (info : Option PlainSignatureInfo) (value : Option (List ℕ)) (fault : PacketFault) → (found_or BadField info >>= λ i. found_or BadField value >>= λ v. good (data_made name s i v)) ≡ Err fault
    → ((info ≡ None) ⊎ (value ≡ None)) × (fault ≡ BadField)
data_end_fault name s None value fault e = (inl refl, err_is PlainData BadField fault e)
data_end_fault name s (Some i) value fault e =
    let n = none_found BadField fault value (data_made name s i) e in
    (inr n.0, n.1)

data_end_again : (name : List Field) (s : DataSoFar) (info : Option PlainSignatureInfo) (value : Option (List ℕ)) (fault : PacketFault) → (info ≡ None) ⊎ (value ≡ None) → fault ≡ BadField
    → (found_or BadField info >>= λ i. found_or BadField value >>= λ v. good (data_made name s i v)) ≡ Err fault
data_end_again name s None value fault h is = told PlainData BadField fault is
data_end_again name s (Some i) None fault h is = told PlainData BadField fault is
data_end_again name s (Some i) (Some v) fault (inl e) is = absurd cc
data_end_again name s (Some i) (Some v) fault (inr e) is = absurd cc

after_data_name : (name : List Field) (later : List (Result Field TlvFault)) (fault : PacketFault) → (data_fields later >>= data_end name) ≡ Err fault → AfterDataName later fault
after_data_name name later fault e =
    elim (bind_err (data_fields later) (data_end name) fault e) [
      | inl r ↦ inl ((tells_first_fault take_data_field is_even_high data_schema nothing_yet later fault).0 r)
      | inr r ↦
          let a = all_passed take_data_field is_even_high data_schema later nothing_yet r.0 r.1 in
          let n = data_end_fault name r.0 r.0.info r.0.value fault r.2 in
          inr (record { plain = a.0; taken = r.0; pass = a.1; missing = n.0; told = n.1 })
    ]

after_data_name_again : (name : List Field) (later : List (Result Field TlvFault)) (fault : PacketFault) → AfterDataName later fault → (data_fields later >>= data_end name) ≡ Err fault
after_data_name_again name later fault (inl f) = ap (λ (r : Result DataSoFar PacketFault). r >>= data_end name) ((tells_first_fault take_data_field is_even_high data_schema nothing_yet later fault).1 f)
after_data_name_again name later fault (inr w) =
    ap (λ (r : Result DataSoFar PacketFault). r >>= data_end name) (passed_again take_data_field is_even_high data_schema nothing_yet w.taken later w.plain w.pass)
    ∙ data_end_again name w.taken w.taken.info w.taken.value fault w.missing w.told

pub data_tells : (value : List ℕ) (fault : PacketFault) → (data_at value ≡ Err fault) ↔ DataFault (elements_of value) fault
unfolding data_at
data_tells value fault = (
  λ e. elim (bind_err (leading_name_at (elements_of value)) (λ first. data_fields first.1 >>= data_end first.0) fault e) [
    | inl n ↦ inl (name_fault (elements_of value) fault n)
    | inr r ↦ inr (r.0.0, r.0.1, lead (elements_of value) r.0 r.1, after_data_name r.0.0 r.0.1 fault r.2)
  ],
  λ h. elim h [
    | inl n ↦ ap (λ (r : Result Named PacketFault). r >>= λ first. data_fields first.1 >>= data_end first.0) (name_fault_again (elements_of value) fault n)
    | inr r ↦
        ap (λ (r : Result Named PacketFault). r >>= λ first. data_fields first.1 >>= data_end first.0) (lead_again (elements_of value) r.0 r.1 r.2)
        ∙ after_data_name_again r.0 r.1 fault r.3
  ],
)
