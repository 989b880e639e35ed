-- The signer of a packet, as its signature states.
use Rattle.std.specs.Prelude.{◌≡◌, ◌⊎◌, ℕ, List, Some, IsSome, ⊤}
use Rattle.ndn_tlv.specs.Element.{Field}
use Rattle.key_files.specs.declared.key.Key.{Key}
use Rattle.key_files.specs.declared.key.Key.TheVariants as variants
use Rattle.key_files.specs.KeyFile.{NamedKey, IsAmong}
use Rattle.ndn_packets.specs.Packet.{KeyName, PlainSignature, PlainFrame, AnInterest, AData, ANack, Idle}
use Rattle.info_rules.specs.declared.rule.Algorithm.{Algorithm}
use Rattle.info_rules.specs.declared.rule.Algorithm.TheVariants as algorithms
use Rattle.info_rules.specs.Checks.{type_of}

-- the key is for this algorithm
abbrev pub IsFor : Algorithm → Key → Type 0
IsFor algorithms.HmacSha256 (variants.Hmac octets) = ⊤
IsFor algorithms.HmacSha256 (variants.Ecdsa octets) = ⊥
IsFor algorithms.EcdsaSha256 (variants.Hmac octets) = ⊥
IsFor algorithms.EcdsaSha256 (variants.Ecdsa octets) = ⊤

-- the KeyLocator has the name of one of the keys in `keys`, which is for this algorithm
abbrev pub NamesKey : List NamedKey → Algorithm → PlainSignature → Type 0
NamesKey keys algorithm signature =
    (name : List Field) × (key : Key) × (signature.info.locator ≡ KeyName name)
    × IsAmong (name, key) keys × IsFor algorithm key

-- the signature type is DigestSha256, which anybody can compute, or it is HmacWithSha256 or
-- SignatureSha256WithEcdsa and the KeyLocator has the name of one of the keys in `keys`, which is
-- for this type (NDN Packet Format 0.3, "Signature")
abbrev pub NamesSigner : List NamedKey → PlainSignature → Type 0
NamesSigner keys signature =
    (signature.info.kind ≡ 0)
    ⊎ ((algorithm : Algorithm) × (signature.info.kind ≡ type_of algorithm)
    × NamesKey keys algorithm signature)

-- the packet is an Interest or a Data, and its signature is as `NamesSigner` states; an Interest
-- also has a SignatureTime
abbrev pub NamesItsSigner : List NamedKey → PlainFrame → Type 0
NamesItsSigner keys (AnInterest whole i) =
    (signature : PlainSignature) × (i.signature ≡ Some signature) × IsSome signature.info.time
    × NamesSigner keys signature
NamesItsSigner keys (AData whole d) = NamesSigner keys d.signature
NamesItsSigner keys (ANack reason whole i) = ⊥
NamesItsSigner keys Idle = ⊥
