-- Whether a packet's signature value is right for the covered octets (NDN Packet Format 0.3,
-- "Signature"), and the line that shows the result.
use Rattle.std.specs.Prelude.{◌≡◌, ◌≢◌, ◌⊎◌, ℕ, List, [], ◌++◌, codes, Option, None, Some}
use Rattle.sha2.specs.Sha256.{sha256}
use Rattle.ndn_tlv.specs.Element.{Field}
use Rattle.hmac_keys.specs.Mac.{Mac}
use Rattle.key_files.specs.declared.key.Key.TheVariants as keys
use Rattle.key_files.specs.KeyFile.{NamedKey, IsAmong}
use Rattle.key_files.specs.PublicKey.{IsEcdsaOf}
use Rattle.ndn_packets.specs.declared.covered.Parts.{Parts}
use Rattle.ndn_packets.specs.declared.types.TheConstants.{DIGEST_SHA256, HMAC_WITH_SHA256}
use Rattle.ndn_packets.specs.Packet.{PlainLocator, KeyName, PlainSignature, PlainFrame, AnInterest, AData, ANack, Idle}
use Rattle.ndn_packets.specs.Covered.{Covered}
use Rattle.ndn_explain.specs.declared.tag_check.TagCheck.{TagCheck}
use Rattle.ndn_explain.specs.declared.tag_check.TagCheck.TheVariants.{Right, Wrong, UnknownKey, Unchecked}
use Rattle.ndn_explain.specs.Show.{line}

-- the covered octets: the first part followed by the second
abbrev pub parts_of : Parts → List ℕ
parts_of parts = parts.first.now ++ parts.second.now

-- the result of comparing a signature's value with the right value
abbrev pub IsValueCheck : List ℕ → List ℕ → TagCheck → Type 0
IsValueCheck value right Right = value ≡ right
IsValueCheck value right Wrong = value ≢ right
IsValueCheck value right UnknownKey = ⊥
IsValueCheck value right Unchecked = ⊥

-- the result of checking an HMAC under the secret with this name; the result is UnknownKey if the
-- book has no secret of this name
abbrev pub IsNamedCheck : List Field → List NamedKey → List ℕ → List ℕ → TagCheck → Type 0
IsNamedCheck name book value octets UnknownKey =
    (secret : List ℕ) → IsAmong (name, keys.Hmac secret) book → ⊥
IsNamedCheck name book value octets check =
    (secret : List ℕ) × IsAmong (name, keys.Hmac secret) book
    × IsValueCheck value (Mac secret octets) check

-- the result of checking an HMAC under the key that a KeyLocator names; the key is unknown if the
-- KeyLocator is not a Name
abbrev pub IsLocatorCheck : PlainLocator → List NamedKey → List ℕ → List ℕ → TagCheck → Type 0
IsLocatorCheck (KeyName name) book value octets check = IsNamedCheck name book value octets check
IsLocatorCheck locator book value octets check = check ≡ UnknownKey

-- the result of checking an ECDSA signature under a public key
abbrev pub IsEcdsaValueCheck : List ℕ → List ℕ → List ℕ → TagCheck → Type 0
IsEcdsaValueCheck key value octets Right = IsEcdsaOf key octets value
IsEcdsaValueCheck key value octets Wrong = ¬ (IsEcdsaOf key octets value)
IsEcdsaValueCheck key value octets UnknownKey = ⊥
IsEcdsaValueCheck key value octets Unchecked = ⊥

-- the result of checking an ECDSA signature under the public key with this name; the result is
-- UnknownKey if the book has no public key of this name
abbrev pub IsNamedEcdsaCheck : List Field → List NamedKey → List ℕ → List ℕ → TagCheck → Type 0
IsNamedEcdsaCheck name book value octets UnknownKey =
    (key : List ℕ) → IsAmong (name, keys.Ecdsa key) book → ⊥
IsNamedEcdsaCheck name book value octets check =
    (key : List ℕ) × IsAmong (name, keys.Ecdsa key) book × IsEcdsaValueCheck key value octets check

-- the result of checking an ECDSA signature with the key that a KeyLocator names; the key is unknown
-- if the KeyLocator is not a Name
abbrev pub IsEcdsaCheck : PlainLocator → List NamedKey → List ℕ → List ℕ → TagCheck → Type 0
IsEcdsaCheck (KeyName name) book value octets check =
    IsNamedEcdsaCheck name book value octets check
IsEcdsaCheck locator book value octets check = check ≡ UnknownKey

-- The result of checking a signature over these octets. SignatureType 3 is
-- SignatureSha256WithEcdsa (NDN Packet Format 0.3). A signature of another type than DigestSha256,
-- HMAC and ECDSA is not checked.
abbrev pub IsKindCheck : PlainSignature → List NamedKey → List ℕ → TagCheck → Type 0
IsKindCheck s book octets check =
    ((s.info.kind ≡ DIGEST_SHA256) × IsValueCheck s.value (sha256 octets) check)
    ⊎ (((s.info.kind ≡ HMAC_WITH_SHA256)
    × IsLocatorCheck s.info.locator book s.value octets check)
    ⊎ (((s.info.kind ≡ 3)
    × IsEcdsaCheck s.info.locator book s.value octets check)
    ⊎ ((s.info.kind ≢ DIGEST_SHA256) × (s.info.kind ≢ HMAC_WITH_SHA256)
    × (s.info.kind ≢ 3) × (check ≡ Unchecked))))

-- the result of checking a signature over the covered octets; the result is `Unchecked` if there
-- are no covered octets
abbrev pub IsPartsCheck : PlainSignature → List NamedKey → Option (List ℕ) → TagCheck → Type 0
IsPartsCheck s book None check = check ≡ Unchecked
IsPartsCheck s book (Some octets) check = IsKindCheck s book octets check

-- the octets that a packet's signature covers, or `None` if the signature covers no octets
abbrev pub AreCovered : PlainFrame → Option (List ℕ) → Type 0
AreCovered packet None = (first second : List ℕ) → Covered packet first second → ⊥
AreCovered packet (Some octets) =
    (first : List ℕ) × (second : List ℕ) × Covered packet first second
    × (octets ≡ first ++ second)

-- the result of checking a packet's signature, or `None` for an unsigned packet
abbrev pub IsSignedCheck : PlainFrame → Option PlainSignature → List NamedKey
    → Option TagCheck → Type 0
IsSignedCheck packet None book check = check ≡ None
IsSignedCheck packet (Some s) book None = ⊥
IsSignedCheck packet (Some s) book (Some check) =
    (octets : Option (List ℕ)) × AreCovered packet octets × IsPartsCheck s book octets check

-- The result of checking the signature of a packet with the keys of a book. For a Nack, the
-- signature of the Interest in the Nack is checked. The result is None for an unsigned Interest and
-- for a link packet without a packet (`Idle`).
abbrev pub IsTagCheck : PlainFrame → List NamedKey → Option TagCheck → Type 0
IsTagCheck (AnInterest whole i) book check =
    IsSignedCheck (AnInterest whole i) i.signature book check
IsTagCheck (AData whole d) book check =
    IsSignedCheck (AData whole d) (Some d.signature) book check
IsTagCheck (ANack reason whole i) book check =
    IsSignedCheck (AnInterest whole i) i.signature book check
IsTagCheck Idle book check = check ≡ None

-- the result of checking the signature of a packet if keys are given; without keys nothing is
-- checked, and the result is None
abbrev pub MayBeChecked : PlainFrame → Option (List NamedKey) → Option TagCheck → Type 0
MayBeChecked frame None check = check ≡ None
MayBeChecked frame (Some book) check = IsTagCheck frame book check

-- ---- the line of a check

abbrev pub check_words : TagCheck → List ℕ
check_words Right = codes "tag right"
check_words Wrong = codes "tag wrong"
check_words UnknownKey = codes "key unknown"
check_words Unchecked = codes "tag not checked"

abbrev pub check_lines : Option TagCheck → List ℕ
check_lines None = []
check_lines (Some check) = line (check_words check)
