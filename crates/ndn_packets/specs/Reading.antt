-- Reading packets from left to right, up to the first fault (NDN Packet Format 0.3, "Interest
-- Packet" and "Data Packet").
use Rattle.std.specs.Prelude.{ℕ, List, [], ◌∷◌, length, Option, None, Some, Result, Ok, Err, Bool, true, false, ◌==◌, not, if◌then◌else◌}
use Rattle.std.specs.List.{filter_map, flat_map}
use Rattle.std.specs.Result.{result_ok}
use Rattle.std.specs.Str.{bytes_eq}
use Rattle.sha2.specs.Sha256.{sha256}
use Rattle.ndn_tlv.specs.declared.fault.TlvFault.{TlvFault}
use Rattle.ndn_tlv.specs.Element.{Field, element}
use Rattle.ndn_tlv.specs.Options.{on_option}
use Rattle.ndn_tlv.specs.Reading.{◌>>=◌, on_result, element_at, elements_of, nni_at}
use Rattle.ndn_names.specs.declared.first_of_type.FirstOfType.{FirstOfType}
use Rattle.ndn_names.specs.Reading.{name_at}
use Rattle.ndn_packets.specs.declared.fault.PacketFault.{PacketFault}
use Rattle.ndn_packets.specs.declared.fault.PacketFault.TheVariants.{Tlv, NoName, CriticalUnknown, BadField, NoNonce, DigestMissing, DigestWrong, DigestWithout}
use Rattle.ndn_packets.specs.Fields.{is_even_high, is_ignored_in_meta_info, is_ignored_in_signature_info, needs_previous_field, interest_schema, data_schema, meta_schema, info_schema}
use Rattle.ndn_packets.specs.Packet.{digests_in, PlainLocator, Missing, KeyName, Digest, Other, PlainSignatureInfo, PlainSignature, PlainInterest, PlainData}
use Rattle.ndn_packets.specs.declared.types.TheConstants.{APPLICATION_PARAMETERS, CAN_BE_PREFIX, CONTENT, CONTENT_TYPE, FRESHNESS_PERIOD, HOP_LIMIT, INTEREST_LIFETIME, INTEREST_SIGNATURE_INFO, INTEREST_SIGNATURE_VALUE, KEY_DIGEST, KEY_LOCATOR, META_INFO, MUST_BE_FRESH, NAME, NONCE, SIGNATURE_INFO, SIGNATURE_SEQ_NUM, SIGNATURE_TIME, SIGNATURE_TYPE}

-- the types after `kind` in the schema, or `None` if a field of type `kind` may not come next
abbrev pub schema_after : ℕ → List ℕ → Option (List ℕ)
schema_after kind [] = None
schema_after kind (first ∷ schema) =
    if first == kind then Some schema
    else (if needs_previous_field kind then None else schema_after kind schema)

-- The fields of a schema among the elements, in the schema's order. If an element cannot be read,
-- or is neither a field nor ignored, the list ends with the fault of this element.
abbrev pub fields_from : (ℕ → Bool) → List ℕ → List (Result Field TlvFault)
    → List (Result Field PacketFault)
fields_from ignores schema [] = []
fields_from ignores schema (Err f ∷ elements) = Err (Tlv f) ∷ []
fields_from ignores schema (Ok e ∷ elements) =
    on_option (λ later. Ok e ∷ fields_from ignores later elements)
    (if ignores e.0 then fields_from ignores schema elements else Err CriticalUnknown ∷ [])
    (schema_after e.0 schema)

-- Reads the fields in order. `take` reads one field and changes the state. The result is the state
-- after the last field, or the first fault.
abbrev pub read_fields : {S : Type 0} → (S → Field → Result S PacketFault) → S
    → List (Result Field PacketFault) → Result S PacketFault
read_fields take s [] = Ok s
read_fields take s (Err f ∷ fields) = Err f
read_fields take s (Ok f ∷ fields) = take s f >>= λ t. read_fields take t fields

-- the value of the Name at the start of the elements, and the elements after the Name; the fault is
-- `Tlv` if the first element cannot be read, and `NoName` if there is no element or the first
-- element is not a Name
abbrev pub name_first : List (Result Field TlvFault)
    → Result (List ℕ × List (Result Field TlvFault)) PacketFault
name_first [] = Err NoName
name_first (Err f ∷ elements) = Err (Tlv f)
name_first (Ok e ∷ elements) = if e.0 == NAME then Ok (e.1, elements) else Err NoName

-- the components of the name that has the TLV-VALUE `value`, or the fault `BadField` if no name has
-- this TLV-VALUE
abbrev pub name_value_at : List ℕ → Result (List Field) PacketFault
name_value_at value = on_result (λ name. Ok name) (λ _. Err BadField) (name_at value)

-- The name in the first element, which must be a Name, and the elements after this element. The
-- fault is the fault of `name_first`, or `BadField` if the value of the Name is not a name.
abbrev pub leading_name_at : List (Result Field TlvFault)
    → Result (List Field × List (Result Field TlvFault)) PacketFault
leading_name_at elements = do
  first ← name_first elements
  name ← name_value_at first.0
  Ok (name, first.1)

abbrev pub is_nil : {A : Type 0} → List A → Bool
is_nil [] = true
is_nil (x ∷ xs) = false

-- the number that a value encodes as a NonNegativeInteger, or the fault `BadField` if the value is
-- not a NonNegativeInteger
abbrev pub nni_value_at : List ℕ → Result ℕ PacketFault
nni_value_at value = on_result (λ n. Ok n) (λ _. Err BadField) (nni_at value)

abbrev pub found_or : {A : Type 0} → PacketFault → Option A → Result A PacketFault
found_or fault None = Err fault
found_or fault (Some x) = Ok x

-- Reading the field `f` of a MetaInfo gives the new freshness, or the fault `BadField`. `freshness`
-- is the freshness before this field. Only a FreshnessPeriod changes the freshness. A ContentType
-- must be a number. The only other field of a MetaInfo, the FinalBlockId (type 26), is not checked.
abbrev pub take_meta_field : ℕ → Field → Result ℕ PacketFault
take_meta_field freshness f =
    if f.0 == CONTENT_TYPE then (nni_value_at f.1 >>= λ _. Ok freshness) else (
    if f.0 == FRESHNESS_PERIOD then nni_value_at f.1 else Ok freshness)

unfoldable pub meta_at : List ℕ → Result ℕ PacketFault
meta_at value =
    read_fields take_meta_field 0
    (fields_from is_ignored_in_meta_info meta_schema (elements_of value))

-- The `PlainLocator` of a KeyLocator whose value is the element `e` followed by the octets `rest`.
-- If `rest` has octets, or if `e` is neither a valid Name nor a KeyDigest, the result is `Other`.
abbrev pub locator_of : Field → List ℕ → PlainLocator
locator_of e rest =
    if not (is_nil rest) then Other else (
    if e.0 == NAME then on_result (λ name. KeyName name) (λ _. Other) (name_at e.1) else (
    if e.0 == KEY_DIGEST then Digest else Other))

unfoldable pub locator_at : List ℕ → PlainLocator
locator_at value = on_result (λ x. locator_of x.0 x.1) (λ _. Other) (element_at value)

-- the fields of a SignatureInfo that have been read
pub record InfoSoFar : Type 0 where
  pub kind : Option ℕ
  pub locator : PlainLocator
  pub time : Option ℕ
  pub seq : Option ℕ

abbrev pub no_info_yet : InfoSoFar
no_info_yet = record { kind = None; locator = Missing; time = None; seq = None }

abbrev pub take_info_field : InfoSoFar → Field → Result InfoSoFar PacketFault
take_info_field s f =
    if f.0 == SIGNATURE_TYPE then (nni_value_at f.1 >>= λ n. Ok (record s { kind = Some n })) else (
    if f.0 == KEY_LOCATOR then Ok (record s { locator = locator_at f.1 }) else (
    if f.0 == SIGNATURE_TIME then (nni_value_at f.1 >>= λ n. Ok (record s { time = Some n })) else (
    if f.0 == SIGNATURE_SEQ_NUM then (nni_value_at f.1 >>= λ n. Ok (record s { seq = Some n })) else
    Ok s)))

unfoldable pub info_at : List ℕ → Result PlainSignatureInfo PacketFault
info_at value = do
  s ← read_fields take_info_field no_info_yet
      (fields_from is_ignored_in_signature_info info_schema (elements_of value))
  kind ← found_or BadField s.kind
  Ok (record { kind = kind; locator = s.locator; time = s.time; seq = s.seq })

-- the fields of an Interest that have been read
pub record InterestSoFar : Type 0 where
  pub can_be_prefix : Bool
  pub must_be_fresh : Bool
  pub nonce : Option (List ℕ)
  pub lifetime : ℕ
  pub hop_limit : Option ℕ
  pub parameters : Option (List ℕ)
  pub info : Option PlainSignatureInfo
  pub value : Option (List ℕ)

abbrev pub no_fields_yet : InterestSoFar
no_fields_yet = record {
  can_be_prefix = false;
  must_be_fresh = false;
  nonce = None;
  lifetime = 4000;
  hop_limit = None;
  parameters = None;
  info = None;
  value = None;
}

-- the octet in a value of one octet, or the fault `BadField` if the value has another length
abbrev pub octet_at : List ℕ → Result ℕ PacketFault
octet_at [] = Err BadField
octet_at (k ∷ []) = Ok k
octet_at (k ∷ l ∷ value) = Err BadField

abbrev pub with_parameters : InterestSoFar → List ℕ → InterestSoFar
with_parameters s parameters = record s { parameters = Some parameters }

abbrev pub take_interest_field : InterestSoFar → Field → Result InterestSoFar PacketFault
take_interest_field s f =
    if f.0 == CAN_BE_PREFIX
    then (if is_nil f.1 then Ok (record s { can_be_prefix = true }) else Err BadField) else (
    if f.0 == MUST_BE_FRESH
    then (if is_nil f.1 then Ok (record s { must_be_fresh = true }) else Err BadField) else (
    if f.0 == NONCE
    then (if length f.1 == 4 then Ok (record s { nonce = Some f.1 }) else Err BadField) else (
    if f.0 == INTEREST_LIFETIME
    then (nni_value_at f.1 >>= λ n. Ok (record s { lifetime = n })) else (
    if f.0 == HOP_LIMIT then (octet_at f.1 >>= λ n. Ok (record s { hop_limit = Some n })) else (
    if f.0 == APPLICATION_PARAMETERS then Ok (with_parameters s f.1) else (
    if f.0 == INTEREST_SIGNATURE_INFO
    then (info_at f.1 >>= λ info. Ok (record s { info = Some info })) else (
    if f.0 == INTEREST_SIGNATURE_VALUE then Ok (record s { value = Some f.1 }) else
    Ok s)))))))

-- the elements from the first ApplicationParameters on; the empty list if there are no
-- ApplicationParameters, or if an element before the ApplicationParameters cannot be read
abbrev pub parameters_on : List (Result Field TlvFault) → List (Result Field TlvFault)
parameters_on [] = []
parameters_on (Err f ∷ elements) = []
parameters_on (Ok e ∷ elements) =
    if e.0 == APPLICATION_PARAMETERS then Ok e ∷ elements else parameters_on elements

-- The octets of the elements that can be read. These octets are the received octets of the
-- elements, because a type or a length can be read only in its shortest encoding.
abbrev pub octets_of_read : List (Result Field TlvFault) → List ℕ
octets_of_read elements = flat_map element (filter_map result_ok elements)

-- The fault of the digests of parameters in a name, or `None` if they have no fault. `right` is the
-- correct digest.
abbrev pub digest_fault : Option (List ℕ) → List Field → List ℕ → Option PacketFault
digest_fault None [] right = None
digest_fault None (d ∷ digests) right = Some DigestWithout
digest_fault (Some parameters) [] right = Some DigestMissing
digest_fault (Some parameters) (d ∷ []) right =
    if bytes_eq d.1 right then None else Some DigestWrong
digest_fault (Some parameters) (d ∷ e ∷ digests) right = Some DigestWrong

-- The fault of the digests of parameters in a name, or `None` if they have no fault. The result is
-- computed from the first digest of parameters in the name. `is_only` tells whether the name has no
-- other digest of parameters. `right` is the correct digest.
abbrev pub fault_by : Option (List ℕ) → Option FirstOfType → List ℕ → Option PacketFault
fault_by None None right = None
fault_by None (Some first) right = Some DigestWithout
fault_by (Some parameters) None right = Some DigestMissing
fault_by (Some parameters) (Some first) right =
    if first.is_only then (if bytes_eq first.value.now right then None else Some DigestWrong)
    else Some DigestWrong

abbrev pub signature_of : Option PlainSignatureInfo → Option (List ℕ) → Option PlainSignature
signature_of None value = None
signature_of (Some info) None = None
signature_of (Some info) (Some value) = Some (record { info = info; value = value })

abbrev pub interest_made : List Field → InterestSoFar → List ℕ → PlainInterest
interest_made name s nonce = record {
  name = name;
  can_be_prefix = s.can_be_prefix;
  must_be_fresh = s.must_be_fresh;
  nonce = nonce;
  lifetime = s.lifetime;
  hop_limit = s.hop_limit;
  parameters = s.parameters;
  signature = signature_of s.info s.value;
}

unfoldable pub interest_at : List ℕ → Result PlainInterest PacketFault
interest_at value = do
  first ← leading_name_at (elements_of value)
  name ← if is_nil first.0 then Err NoName else Ok first.0
  s ← read_fields take_interest_field no_fields_yet
      (fields_from is_even_high interest_schema first.1)
  nonce ← found_or NoNonce s.nonce
  on_option (λ fault. Err fault) (Ok (interest_made name s nonce))
      (digest_fault s.parameters (digests_in name)
      (sha256 (octets_of_read (parameters_on first.1))))

-- the fields of a Data that have been read
pub record DataSoFar : Type 0 where
  pub freshness : ℕ
  pub content : Option (List ℕ)
  pub info : Option PlainSignatureInfo
  pub value : Option (List ℕ)

abbrev pub nothing_yet : DataSoFar
nothing_yet = record { freshness = 0; content = None; info = None; value = None }

abbrev pub take_data_field : DataSoFar → Field → Result DataSoFar PacketFault
take_data_field s f =
    if f.0 == META_INFO
    then (meta_at f.1 >>= λ freshness. Ok (record s { freshness = freshness })) else (
    if f.0 == CONTENT then Ok (record s { content = Some f.1 }) else (
    if f.0 == SIGNATURE_INFO then (info_at f.1 >>= λ info. Ok (record s { info = Some info })) else
    Ok (record s { value = Some f.1 })))

unfoldable pub data_at : List ℕ → Result PlainData PacketFault
data_at value = do
  first ← leading_name_at (elements_of value)
  s ← read_fields take_data_field nothing_yet (fields_from is_even_high data_schema first.1)
  info ← found_or BadField s.info
  signature ← found_or BadField s.value
  Ok (record {
    name = first.0;
    freshness = s.freshness;
    content = s.content;
    signature = record { info = info; value = signature };
  })
