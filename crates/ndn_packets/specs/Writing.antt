-- What writers write (NDN Packet Format 0.3, "Interest Packet", "Data Packet", "Signature", "Signed
-- Interest"; NDNLPv2, "Network Nack", "PIT Token"): the requested fields, each in its shortest
-- form.
use Rattle.std.specs.Prelude.{◌≡◌, ℕ, ◌<◌, List, [], ◌∷◌, ◌++◌, ◌+◌, ◌-◌, ◌^◌, min, length, replicate, Option, None, Some, IfSome, OnSome, slice_index, Bool, nat_lt, unwrap_or, ⊤, ◌||◌, not, if◌then◌else◌}
use Rattle.std.specs.Option.{option_map}
use Rattle.std.specs.Borrow.{Bor}
use Rattle.sha2.specs.Sha256.{sha256}
use Rattle.ndn_tlv.specs.Number.{shortest_nni, spelling}
use Rattle.ndn_tlv.specs.Element.{Field, element}
use Rattle.ndn_tlv.specs.Writing.{octets, optional, flag, number}
use Rattle.ndn_names.specs.declared.component_type.TheConstants.{SEGMENT}
use Rattle.ndn_names.specs.declared.name.Name.{Name}
use Rattle.ndn_names.specs.View.{components}
use Rattle.ndn_names.specs.declared.component_type.TheConstants.{PARAMETERS_SHA256_DIGEST}
use Rattle.ndn_packets.specs.declared.fault.WriteFault.{WriteFault}
use Rattle.ndn_packets.specs.declared.fault.WriteFault.TheVariants.{BadName, TooLong}
use Rattle.hmac_keys.specs.Mac.{Mac}
use Rattle.ndn_packets.specs.declared.signature.Sign.{Sign}
use Rattle.ndn_packets.specs.declared.signature.Sign.TheVariants as sign
use Rattle.ndn_packets.specs.declared.interest_writer.InterestWriter.{InterestWriter}
use Rattle.ndn_packets.specs.declared.data_writer.DataWriter.{DataWriter}
use Rattle.ndn_packets.specs.Packet.{digests_in, PlainLocator, Missing, KeyName, PlainSignatureInfo, PlainInterest, PlainData, AnInterest, AData}
use Rattle.ndn_packets.specs.Covered.{Covered}
use Rattle.ndn_packets.specs.Reading.{is_nil}
use Rattle.ndn_packets.specs.declared.types.TheConstants.{DIGEST_SHA256, HMAC_WITH_SHA256, APPLICATION_PARAMETERS, CAN_BE_PREFIX, CONTENT, DATA, FINAL_BLOCK_ID, FRAGMENT, FRESHNESS_PERIOD, HOP_LIMIT, INTEREST, INTEREST_LIFETIME, INTEREST_SIGNATURE_INFO, INTEREST_SIGNATURE_VALUE, KEY_LOCATOR, LINK_PACKET, META_INFO, MUST_BE_FRESH, NACK, NACK_REASON, NAME, NONCE, PIT_TOKEN, SIGNATURE_INFO, SIGNATURE_SEQ_NUM, SIGNATURE_TIME, SIGNATURE_TYPE, SIGNATURE_VALUE}

-- ---- signatures

-- the SignatureType: DigestSha256 or HmacWithSha256
abbrev pub kind_of : Sign → ℕ
kind_of sign.Digest = DIGEST_SHA256
kind_of (sign.Hmac name key) = HMAC_WITH_SHA256

-- the KeyLocator: none, or the key's name
abbrev pub locator_of : Sign → PlainLocator
locator_of sign.Digest = Missing
locator_of (sign.Hmac name key) = KeyName (components name)

abbrev pub locator_value : Sign → Option (List ℕ)
locator_value sign.Digest = None
locator_value (sign.Hmac name key) = Some (element (NAME, octets (components name)))

abbrev pub locator_fields : Sign → List Field
locator_fields signed = optional KEY_LOCATOR (locator_value signed)

-- the fields of a SignatureInfo
abbrev pub info_fields : Sign → Option ℕ → Option ℕ → List Field
info_fields signed time seq =
    (SIGNATURE_TYPE, kind_of signed ∷ [])
    ∷ (locator_fields signed ++ (number SIGNATURE_TIME time ++ number SIGNATURE_SEQ_NUM seq))

abbrev pub info_asked : Sign → Option ℕ → Option ℕ → PlainSignatureInfo
info_asked signed time seq = record {
  kind = kind_of signed;
  locator = locator_of signed;
  time = time;
  seq = seq;
}

-- the SignatureValue of a signature over the octets `covered`
abbrev pub value_of : Sign → List ℕ → List ℕ
value_of sign.Digest covered = sha256 covered
value_of (sign.Hmac name key) covered = Mac key.now covered

-- ---- Interests

-- the value of the ApplicationParameters; a signed Interest always has ApplicationParameters, which
-- may be empty
abbrev pub parameters_of : Option Sign → Option (List ℕ) → Option (List ℕ)
parameters_of None parameters = parameters
parameters_of (Some signed) parameters = Some (unwrap_or parameters [])

-- the signature of an Interest covers the components of the writer's name, followed by these fields
abbrev pub covered_fields : InterestWriter → Sign → List Field
covered_fields w signed =
    (APPLICATION_PARAMETERS, unwrap_or (option_map (λ p. p.now) w.parameters) [])
    ∷ (INTEREST_SIGNATURE_INFO, octets (info_fields signed w.time w.seq)) ∷ []

abbrev pub interest_value : InterestWriter → Sign → List ℕ
interest_value w signed =
    value_of signed (octets (components w.name) ++ octets (covered_fields w signed))

-- the ApplicationParameters of an Interest and all fields after the ApplicationParameters; the list
-- is empty if the Interest has neither a signature nor parameters
abbrev pub later_fields : InterestWriter → Option Sign → List Field
later_fields w None = optional APPLICATION_PARAMETERS (option_map (λ p. p.now) w.parameters)
later_fields w (Some signed) =
    covered_fields w signed ++ (INTEREST_SIGNATURE_VALUE, interest_value w signed) ∷ []

-- the fields between the Name and the ApplicationParameters
abbrev pub early_fields : InterestWriter → List Field
early_fields w =
    flag CAN_BE_PREFIX w.can_be_prefix
    ++ (flag MUST_BE_FRESH w.must_be_fresh
    ++ ((NONCE, w.nonce)
    ∷ (number INTEREST_LIFETIME w.lifetime
    ++ optional HOP_LIMIT (option_map (λ limit. limit ∷ []) w.hop_limit))))

-- The name of a written Interest. The last argument is the list of fields from the
-- ApplicationParameters on. If this list is empty, the result is `name`. Otherwise, the result is
-- `name` followed by a component with the digest `digest`.
abbrev pub name_with : List ℕ → List Field → List Field → List Field
name_with digest name [] = name
name_with digest name (f ∷ fields) = name ++ (PARAMETERS_SHA256_DIGEST, digest) ∷ []

-- the name of the Interest that `w` writes: the writer's name alone if there are no fields from the
-- ApplicationParameters on; otherwise, the writer's name followed by the digest of these fields
abbrev pub interest_name : InterestWriter → List Field
interest_name w =
    name_with (sha256 (octets (later_fields w w.sign))) (components w.name) (later_fields w w.sign)

abbrev pub interest_fields : InterestWriter → List Field
interest_fields w =
    (NAME, octets (interest_name w)) ∷ (early_fields w ++ later_fields w w.sign)

abbrev pub interest_text : InterestWriter → List ℕ
interest_text w = element (INTEREST, octets (interest_fields w))

-- the Interest that is requested of the writer
abbrev pub interest_asked : InterestWriter → PlainInterest
interest_asked w = record {
  name = interest_name w;
  can_be_prefix = w.can_be_prefix;
  must_be_fresh = w.must_be_fresh;
  nonce = w.nonce;
  lifetime = unwrap_or w.lifetime 4000;
  hop_limit = w.hop_limit;
  parameters = parameters_of w.sign (option_map (λ p. p.now) w.parameters);
  signature = option_map (λ signed. record {
    info = info_asked signed w.time w.seq;
    value = interest_value w signed;
  }) w.sign;
}

-- the signature of the written Interest was computed over exactly the octets that `Covered` defines
abbrev pub SignsInterest : InterestWriter → Sign → Type 0
SignsInterest w signed =
    Covered (AnInterest (interest_text w) (interest_asked w)) (octets (components w.name))
    (octets (covered_fields w signed))

abbrev pub is_bad_name : List Field → Bool
is_bad_name name = is_nil name || not (is_nil (digests_in name))

-- Why an Interest is refused, or `None` if the Interest is not refused. `BadName`: the name is
-- empty or has a digest of parameters. `TooLong`: the written name has more than 64 components, or
-- the Interest has more than 8,800 octets. A lack of memory is not considered.
abbrev pub interest_refusal : InterestWriter → Option WriteFault
interest_refusal w =
    if is_bad_name (components w.name) then Some BadName else (
    if nat_lt 64 (length (interest_name w)) || nat_lt 8800 (length (interest_text w))
    then Some TooLong else
    None)

-- ---- Data

-- the value of a MetaInfo that has these fields, or `None` if the list of fields is empty
abbrev pub meta_of : List Field → Option (List ℕ)
meta_of [] = None
meta_of (f ∷ fields) = Some (octets (f ∷ fields))

-- the FinalBlockId, if there is a last segment; the value of the FinalBlockId is one component,
-- which holds the number of the last segment
abbrev pub last_fields : Option ℕ → List Field
last_fields last =
    optional FINAL_BLOCK_ID (option_map (λ n. element (SEGMENT, shortest_nni n)) last)

-- the fields of a MetaInfo: FreshnessPeriod and FinalBlockId
abbrev pub meta_fields : Option ℕ → Option ℕ → List Field
meta_fields freshness last =
    number FRESHNESS_PERIOD freshness ++ last_fields last

-- the fields that the signature of a Data covers
abbrev pub data_fields : Sign → List Field → Option (List ℕ) → Option (List ℕ) → List Field
data_fields signed name meta content =
    (NAME, octets name)
    ∷ (optional META_INFO meta
    ++ (optional CONTENT content ++ (SIGNATURE_INFO, octets (info_fields signed None None)) ∷ []))

abbrev pub data_value : Sign → List Field → Option (List ℕ) → Option (List ℕ) → List ℕ
data_value signed name meta content =
    value_of signed (octets (data_fields signed name meta content))

abbrev pub signed_fields : Sign → List Field → Option (List ℕ) → Option (List ℕ) → List Field
signed_fields signed name meta content =
    data_fields signed name meta content
    ++ (SIGNATURE_VALUE, data_value signed name meta content) ∷ []

abbrev pub signed_data : Sign → List Field → Option (List ℕ) → Option (List ℕ) → List ℕ
signed_data signed name meta content =
    element (DATA, octets (signed_fields signed name meta content))

abbrev pub meta_asked : DataWriter → Option (List ℕ)
meta_asked w = meta_of (meta_fields w.freshness w.last)

abbrev pub content_asked : DataWriter → Option (List ℕ)
content_asked w = option_map (λ c. c.now) w.content

-- `fields_covered` is the list of the fields that the signature of the requested Data covers.
-- `fields_asked` is the list of all fields of the requested Data.
abbrev pub fields_covered : DataWriter → List Field
fields_covered w = data_fields w.sign (components w.name) (meta_asked w) (content_asked w)

abbrev pub fields_asked : DataWriter → List Field
fields_asked w = signed_fields w.sign (components w.name) (meta_asked w) (content_asked w)

abbrev pub data_text : DataWriter → List ℕ
data_text w = signed_data w.sign (components w.name) (meta_asked w) (content_asked w)

-- the signed Data with this name, FreshnessPeriod, MetaInfo and Content
abbrev pub plain_data_of : Sign → List Field → ℕ → Option (List ℕ) → Option (List ℕ) → PlainData
plain_data_of signed name freshness meta content =
    record {
      name = name;
      freshness = freshness;
      content = content;
      signature = record {
        info = info_asked signed None None;
        value = data_value signed name meta content;
      };
    }

abbrev pub data_asked : DataWriter → PlainData
data_asked w =
    plain_data_of w.sign (components w.name) (unwrap_or w.freshness 0) (meta_asked w)
    (content_asked w)

-- why a Data is refused: `TooLong` if the Data has more than 8,800 octets, otherwise `None`; a lack
-- of memory is not considered
abbrev pub data_refusal : DataWriter → Option WriteFault
data_refusal w = if nat_lt 8800 (length (data_text w)) then Some TooLong else None

-- the octets of a reply: a Data without MetaInfo, signed with DigestSha256
abbrev pub reply_text : List Field → List ℕ → List ℕ
reply_text name content = signed_data sign.Digest name None (Some content)

abbrev pub reply_asked : List Field → List ℕ → PlainData
reply_asked name content = plain_data_of sign.Digest name 0 None (Some content)

abbrev pub reply_of : Name → Bor (List ℕ) → DataWriter
reply_of name content = record {
  name = name;
  freshness = None;
  last = None;
  content = Some content;
  sign = sign.Digest;
}

-- the signature of the reply was computed over exactly the octets that `Covered` defines
abbrev pub SignsReply : List Field → List ℕ → Type 0
SignsReply name content =
    Covered (AData (reply_text name content) (reply_asked name content))
    (octets (data_fields sign.Digest name None (Some content))) []

-- ---- Nacks

-- the octets of a Nack header field with the reason `reason`
abbrev pub nack_field : ℕ → List ℕ
nack_field reason = element (NACK, element (NACK_REASON, shortest_nni reason))

-- a link packet that has two fields: a Nack with the reason `reason`, and a Fragment whose value is
-- the octets `interest`
abbrev pub nack_text : ℕ → List ℕ → List ℕ
nack_text reason interest =
    element (
      LINK_PACKET,
      octets ((NACK, octets ((NACK_REASON, shortest_nni reason) ∷ [])) ∷ (FRAGMENT, interest) ∷ []),
    )

-- ---- link packets

-- the Nack header field with this reason, if a reason is given
abbrev pub nack_headers : Option ℕ → List Field
nack_headers None = []
nack_headers (Some reason) = (NACK, octets ((NACK_REASON, shortest_nni reason) ∷ [])) ∷ []

-- the header fields of a link packet: the PIT token, if a token is given, and the Nack, if a reason
-- is given
abbrev pub lp_headers : Option (List ℕ) → Option ℕ → List Field
lp_headers token nack = optional PIT_TOKEN token ++ nack_headers nack

-- the packet, inside a link packet if there are header fields
abbrev pub in_link : List Field → List ℕ → List ℕ
in_link [] packet = packet
in_link (h ∷ headers) packet =
    element (LINK_PACKET, octets ((h ∷ headers) ++ (FRAGMENT, packet) ∷ []))

-- the packet, inside a link packet if a token or a Nack is given
abbrev pub lp_text : Option (List ℕ) → Option ℕ → List ℕ → List ℕ
lp_text token nack packet = in_link (lp_headers token nack) packet

-- `link_value` is the value of a link packet around `packet`, with an optional PIT token and an
-- optional Nack. `link_text` is the whole link packet. Even with neither a PIT token nor a Nack,
-- the packet is inside a link packet.
abbrev pub link_value : Option (List ℕ) → Option ℕ → List ℕ → List ℕ
link_value token nack packet =
    (octets (optional PIT_TOKEN token) ++ octets (nack_headers nack)) ++ element (FRAGMENT, packet)

abbrev pub link_text : Option (List ℕ) → Option ℕ → List ℕ → List ℕ
link_text token nack packet = element (LINK_PACKET, link_value token nack packet)

-- the octets that come before the packet in a link packet, if the PIT token is `token` and the
-- packet has `packet_len` octets
abbrev pub link_start : List ℕ → ℕ → List ℕ
link_start token packet_len =
    let token_field = element (PIT_TOKEN, token) in
    let header = spelling FRAGMENT ++ spelling packet_len in
    let value_len = length token_field + (length header + packet_len) in
    ((spelling LINK_PACKET ++ spelling value_len) ++ token_field) ++ header

-- ---- lengths

-- `n` is the length of the list `octets`, or 2^64 - 1 (the greatest `usize`) if the list is longer
abbrev pub IsLength : ℕ → List ℕ → Type 0
IsLength n octets = n ≡ min (length octets) (2 ^ 64 - 1)

-- ---- what the types of a writer's fields guarantee

abbrev pub AreOctets : List ℕ → Type 0
AreOctets octets = (i : ℕ) → slice_index octets i < 256

abbrev pub IsU64 : Option ℕ → Type 0
IsU64 n = IfSome n (λ k. k < 2 ^ 64)

-- if there is a key, the octets of its name are below 256
abbrev pub IsSoundSign : Sign → Type 0
IsSoundSign sign.Digest = ⊤
IsSoundSign (sign.Hmac name key) = AreOctets (octets (components name))

pub record SoundData (w : DataWriter) : Type 0 where
  pub name : AreOctets (octets (components w.name))
  pub freshness : IsU64 w.freshness
  pub last : IsU64 w.last
  pub content : IfSome w.content (λ c. AreOctets c.now)
  pub sign : IsSoundSign w.sign

pub record SoundInterest (w : InterestWriter) : Type 0 where
  pub name : AreOctets (octets (components w.name))
  pub nonce : AreOctets w.nonce
  pub nonce_len : length w.nonce ≡ 4
  pub lifetime : IsU64 w.lifetime
  pub hop_limit : IfSome w.hop_limit (λ n. n < 256)
  pub parameters : IfSome w.parameters (λ p. AreOctets p.now)
  pub time : OnSome w.sign (IsU64 w.time)
  pub seq : OnSome w.sign (IsU64 w.seq)
  pub sign : IfSome w.sign IsSoundSign

-- ---- a name before its digest is known

-- the name of the written Interest; if this name has a digest of parameters, 32 zeros are in place
-- of the digest
abbrev pub zeroed_name : InterestWriter → List Field
zeroed_name w = name_with (replicate 32 0) (components w.name) (later_fields w w.sign)
