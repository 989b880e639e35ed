-- The packets that this crate accepts, as complete octet sequences (NDN Packet Format 0.3,
-- "Interest Packet" and "Data Packet").
use Rattle.std.specs.Prelude.{◌≡◌, ◌≢◌, ℕ, ◌<◌, ◌≤◌, List, [], ◌∷◌, ◌++◌, length, Option, None, Some, Bool, unwrap_or, slice_index, flat_map, ◌==◌, if◌then◌else◌}
use Rattle.ndn_tlv.specs.Number.{IsNni}
use Rattle.sha2.specs.Sha256.{sha256}
use Rattle.ndn_tlv.specs.Element.{Field, element, IsElement, IsElements}
use Rattle.ndn_names.specs.declared.component_type.TheConstants.{PARAMETERS_SHA256_DIGEST}
use Rattle.ndn_names.specs.Name.{IsNameValue}
use Rattle.ndn_packets.specs.Packet.{digests_in}
use Rattle.ndn_tlv.specs.Writing.{optional, flag}
use Rattle.ndn_packets.specs.Fields.{Fields, is_even_high, is_ignored_in_meta_info, is_ignored_in_signature_info, interest_schema, data_schema, meta_schema, info_schema}
use Rattle.ndn_packets.specs.Packet.{PlainLocator, Missing, KeyName, Digest, Other, PlainSignatureInfo, PlainSignature, PlainInterest, PlainData}
use Rattle.ndn_packets.specs.declared.types.TheConstants.{APPLICATION_PARAMETERS, CAN_BE_PREFIX, CONTENT, CONTENT_TYPE, DATA, FINAL_BLOCK_ID, FORWARDING_HINT, FRESHNESS_PERIOD, HOP_LIMIT, INTEREST, INTEREST_LIFETIME, INTEREST_SIGNATURE_INFO, INTEREST_SIGNATURE_VALUE, KEY_DIGEST, KEY_LOCATOR, META_INFO, MUST_BE_FRESH, NAME, NONCE, SIGNATURE_INFO, SIGNATURE_NONCE, SIGNATURE_SEQ_NUM, SIGNATURE_TIME, SIGNATURE_TYPE, SIGNATURE_VALUE}

-- The text is one element of type `kind`. The text has at most 8,800 octets. The value of the
-- element begins with a Name whose value is `name_value`. `fields` are the fields of the schema
-- among the elements after the Name. An element after the Name that is not a field must have a type
-- that is ignored.
pub record IsPacket (text : List ℕ) (kind : ℕ) (ignores : ℕ → Bool) (schema : List ℕ)
    (name_value : List ℕ) (fields : List Field) : Type 0 where
  pub value : List ℕ
  pub elements : List Field
  pub outer : IsElement text kind value
  pub inner : IsElements value ((NAME, name_value) ∷ elements)
  pub recognised : Fields ignores schema elements fields
  pub short : length text ≤ 8800
  pub octets : (i : ℕ) → slice_index text i < 256

-- If there is a value, the value encodes a number as a NonNegativeInteger, and `n` is this number.
-- If there is no value, `n` is `None`.
abbrev pub IsNumber : Option (List ℕ) → Option ℕ → Type 0
IsNumber None n = n ≡ None
IsNumber (Some value) n = (k : ℕ) × IsNni value k × (n ≡ Some k)

-- If there is a value, the value is one octet, and `n` is this octet. If there is no value, `n` is
-- `None`.
abbrev pub IsOctet : Option (List ℕ) → Option ℕ → Type 0
IsOctet None n = n ≡ None
IsOctet (Some value) n = (k : ℕ) × (value ≡ k ∷ []) × (n ≡ Some k)

-- the value of a KeyLocator is exactly one Name element, and this element encodes the name `name`
abbrev pub NamesKey : List ℕ → List Field → Type 0
NamesKey value name =
    (name_value : List ℕ) × IsElement value NAME name_value × IsNameValue name_value name

-- the value of a KeyLocator is exactly one KeyDigest
abbrev pub DigestsKey : List ℕ → Type 0
DigestsKey value = (digest : List ℕ) × IsElement value KEY_DIGEST digest

-- The `PlainLocator` of an optional KeyLocator. It is `Missing` if there is no KeyLocator. It is
-- `Other` if the value of the KeyLocator is neither exactly one valid Name nor exactly one
-- KeyDigest.
abbrev pub IsLocator : Option (List ℕ) → PlainLocator → Type 0
IsLocator None locator = locator ≡ Missing
IsLocator (Some value) Missing = ⊥
IsLocator (Some value) (KeyName name) = NamesKey value name
IsLocator (Some value) Digest = DigestsKey value
IsLocator (Some value) Other =
    ((name : List Field) → NamesKey value name → ⊥) × (DigestsKey value → ⊥)

-- MetaInfo = [ContentType] [FreshnessPeriod] [FinalBlockId]. `freshness` is the number in the
-- FreshnessPeriod, or 0 if the FreshnessPeriod is absent. The ContentType must be a number. The
-- value of the FinalBlockId may be any octets.
pub record IsMetaInfo (text : List ℕ) (freshness : ℕ) : Type 0 where
  pub content_type : Option (List ℕ)
  pub period : Option (List ℕ)
  pub final_block : Option (List ℕ)
  pub elements : List Field
  pub inner : IsElements text elements
  pub recognised : Fields is_ignored_in_meta_info meta_schema elements
      (optional CONTENT_TYPE content_type
      ++ (optional FRESHNESS_PERIOD period ++ optional FINAL_BLOCK_ID final_block))
  pub content_type_number : (n : Option ℕ) × IsNumber content_type n
  pub period_number : (n : Option ℕ) × IsNumber period n × (freshness ≡ unwrap_or n 0)

-- SignatureInfo = SignatureType [KeyLocator] [SignatureNonce] [SignatureTime] [SignatureSeqNum]
pub record IsSignatureInfo (text : List ℕ) (s : PlainSignatureInfo) : Type 0 where
  pub kind_value : List ℕ
  pub locator_value : Option (List ℕ)
  pub nonce : Option (List ℕ)
  pub time_value : Option (List ℕ)
  pub seq_value : Option (List ℕ)
  pub elements : List Field
  pub inner : IsElements text elements
  pub recognised : Fields is_ignored_in_signature_info info_schema elements
      ((SIGNATURE_TYPE, kind_value)
      ∷ (optional KEY_LOCATOR locator_value
      ++ (optional SIGNATURE_NONCE nonce
      ++ (optional SIGNATURE_TIME time_value ++ optional SIGNATURE_SEQ_NUM seq_value))))
  pub kind : IsNni kind_value s.kind
  pub locator : IsLocator locator_value s.locator
  pub time : IsNumber time_value s.time
  pub seq : IsNumber seq_value s.seq

-- the elements from the first ApplicationParameters to the end of the packet; the empty list if
-- there are no ApplicationParameters
abbrev pub from_parameters : List Field → List Field
from_parameters [] = []
from_parameters (e ∷ elements) =
    if e.0 == APPLICATION_PARAMETERS then e ∷ elements else from_parameters elements

-- If an Interest has no ApplicationParameters, its name has no digest of parameters. If an Interest
-- has ApplicationParameters, its name has exactly one digest of parameters, at any position. This
-- digest is SHA-256 of the octets from the ApplicationParameters to the end of the packet.
-- `elements` are all elements after the Name.
abbrev pub IsDigested : List Field → List Field → Option (List ℕ) → Type 0
IsDigested name elements None = digests_in name ≡ []
IsDigested name elements (Some parameters) =
    digests_in name
    ≡ (PARAMETERS_SHA256_DIGEST, sha256 (flat_map element (from_parameters elements))) ∷ []

-- An Interest is signed if it has both an InterestSignatureInfo and an InterestSignatureValue. If
-- an Interest has an InterestSignatureInfo but no InterestSignatureValue, the Interest is not
-- signed, but the value of the InterestSignatureInfo must still satisfy `IsSignatureInfo`.
abbrev pub IsSigned : Option (List ℕ) → Option (List ℕ) → Option PlainSignature → Type 0
IsSigned None value signature = signature ≡ None
IsSigned (Some info_value) None signature =
    (info : PlainSignatureInfo) × IsSignatureInfo info_value info × (signature ≡ None)
IsSigned (Some info_value) (Some value) signature =
    (info : PlainSignatureInfo) × IsSignatureInfo info_value info × (signature ≡ Some (record {
      info = info;
      value = value;
    }))

-- Interest = Name [CanBePrefix] [MustBeFresh] [ForwardingHint] Nonce [InterestLifetime] [HopLimit]
-- [ApplicationParameters [InterestSignatureInfo [InterestSignatureValue]]]. The lifetime is 4,000
-- milliseconds if InterestLifetime is absent.
pub record IsInterest (text : List ℕ) (i : PlainInterest) : Type 0 where
  pub name_value : List ℕ
  pub hint : Option (List ℕ)
  pub lifetime_value : Option (List ℕ)
  pub hop_value : Option (List ℕ)
  pub info_value : Option (List ℕ)
  pub signature_value : Option (List ℕ)
  pub fields : IsPacket text INTEREST is_even_high interest_schema name_value
      (flag CAN_BE_PREFIX i.can_be_prefix
      ++ (flag MUST_BE_FRESH i.must_be_fresh
      ++ (optional FORWARDING_HINT hint
      ++ ((NONCE, i.nonce)
      ∷ (optional INTEREST_LIFETIME lifetime_value
      ++ (optional HOP_LIMIT hop_value
      ++ (optional APPLICATION_PARAMETERS i.parameters
      ++ (optional INTEREST_SIGNATURE_INFO info_value
      ++ optional INTEREST_SIGNATURE_VALUE signature_value))))))))
  pub name : IsNameValue name_value i.name
  pub named : i.name ≢ []
  pub nonce : length i.nonce ≡ 4
  pub lifetime : (n : Option ℕ) × IsNumber lifetime_value n × (i.lifetime ≡ unwrap_or n 4000)
  pub hop_limit : IsOctet hop_value i.hop_limit
  pub digested : IsDigested i.name fields.elements i.parameters
  pub signature : IsSigned info_value signature_value i.signature

-- The optional MetaInfo is absent or valid. `freshness` is the FreshnessPeriod in the MetaInfo, or
-- 0 if the MetaInfo or its FreshnessPeriod is absent.
abbrev pub IsFreshness : Option (List ℕ) → ℕ → Type 0
IsFreshness None freshness = freshness ≡ 0
IsFreshness (Some value) freshness = IsMetaInfo value freshness

-- Data = Name [MetaInfo] [Content] SignatureInfo SignatureValue
pub record IsData (text : List ℕ) (d : PlainData) : Type 0 where
  pub name_value : List ℕ
  pub meta_value : Option (List ℕ)
  pub info_value : List ℕ
  pub fields : IsPacket text DATA is_even_high data_schema name_value
      (optional META_INFO meta_value
      ++ (optional CONTENT d.content
      ++ ((SIGNATURE_INFO, info_value) ∷ (SIGNATURE_VALUE, d.signature.value) ∷ [])))
  pub name : IsNameValue name_value d.name
  pub freshness : IsFreshness meta_value d.freshness
  pub info : IsSignatureInfo info_value d.signature.info
