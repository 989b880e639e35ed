-- The result of a checker for a signed packet: its first reason to deny the packet, or `None` if
-- the packet passes.
use Rattle.std.specs.Prelude.{◌≡◌, ◌⊎◌, ℕ, List, Option, None, Some}
use Rattle.sha2.specs.Sha256.{sha256}
use Rattle.ndn_tlv.specs.Element.{Field}
use Rattle.key_files.specs.KeyFile.{NamedKey, IsAmong}
use Rattle.hmac_keys.specs.Mac.{Mac}
use Rattle.key_files.specs.declared.key.Key.{Key}
use Rattle.key_files.specs.declared.key.Key.TheVariants as variants
use Rattle.key_files.specs.PublicKey.{IsEcdsaOf}
use Rattle.ndn_packets.specs.Packet.{PlainLocator, Missing, KeyName, Digest, Other}
use Rattle.info_rules.specs.declared.rule.Kind.TheVariants as kinds
use Rattle.info_rules.specs.declared.rule.Algorithm.{Algorithm}
use Rattle.info_rules.specs.declared.rule.Algorithm.TheVariants as algorithms
use Rattle.info_rules.specs.declared.rule.LocatorTest.{LocatorTest}
use Rattle.info_rules.specs.declared.rule.Checker.{Checker}
use Rattle.info_rules.specs.declared.rule.Checker.TheVariants as checkers
use Rattle.info_rules.specs.declared.decision.Reason.{Reason}
use Rattle.info_rules.specs.declared.decision.Reason.TheVariants as reasons
use Rattle.info_rules.specs.Seen.{PlainSigned}
use Rattle.info_rules.specs.Locator.{PassesLocator}

-- `given` is `reason` if `Fact` is false; if `Fact` is true, `Rest` holds
abbrev pub Unless : Type 0 → Reason → Option Reason → Type 0 → Type 0
Unless Fact reason given Rest = ((¬ Fact) × (given ≡ Some reason)) ⊎ (Fact × Rest)

-- `given` is the result of this check: the signature value equals the tag; if not, the reason is
-- `Tag`
abbrev pub ChecksTag : List ℕ → PlainSigned → Option Reason → Type 0
ChecksTag tag signed given = Unless (signed.signature.value ≡ tag) reasons.Tag given (given ≡ None)

-- `given` is the result of this check of a signature with a key. By HMAC, the signature value is the
-- HMAC of the covered octets under the secret. By ECDSA, it is a signature of the covered octets
-- under the public key. Otherwise the reason is `Tag`. If the key is for the other algorithm, the
-- reason is `SigType`.
abbrev pub ChecksSignature : Algorithm → Key → PlainSigned → Option Reason → Type 0
ChecksSignature algorithms.HmacSha256 (variants.Hmac octets) signed given =
    ChecksTag (Mac octets signed.covered) signed given
ChecksSignature algorithms.EcdsaSha256 (variants.Ecdsa octets) signed given =
    Unless (IsEcdsaOf octets signed.covered signed.signature.value) reasons.Tag given
    (given ≡ None)
ChecksSignature algorithms.HmacSha256 (variants.Ecdsa octets) signed given =
    given ≡ Some reasons.SigType
ChecksSignature algorithms.EcdsaSha256 (variants.Hmac octets) signed given =
    given ≡ Some reasons.SigType

-- `given` is the result of these checks: `keys` contains a key with this name, otherwise the reason
-- is `KeyUnknown`; and the signature is by this key, as `ChecksSignature` says
abbrev pub ChecksKey : List NamedKey → Algorithm → List Field → PlainSigned → Option Reason → Type 0
ChecksKey keys algorithm name signed given =
    (((key : Key) → IsAmong (name, key) keys → ⊥) × (given ≡ Some reasons.KeyUnknown))
    ⊎ ((key : Key) × IsAmong (name, key) keys × ChecksSignature algorithm key signed given)

-- `given` is the result of these checks: the KeyLocator has the name of a key, this name meets the
-- requirement, and the checks of `ChecksKey` pass for this name. If the KeyLocator is missing, has
-- no name, or has a name that does not meet the requirement, `given` is the reason `KeyLocator`.
abbrev pub ChecksLocator : List NamedKey → Algorithm → LocatorTest → PlainLocator → PlainSigned
    → Option Reason → Type 0
ChecksLocator keys algorithm test (KeyName name) signed given =
    Unless (PassesLocator test name signed.name) reasons.KeyLocator given
    (ChecksKey keys algorithm name signed given)
ChecksLocator keys algorithm test Missing signed given = given ≡ Some reasons.KeyLocator
ChecksLocator keys algorithm test Digest signed given = given ≡ Some reasons.KeyLocator
ChecksLocator keys algorithm test Other signed given = given ≡ Some reasons.KeyLocator

-- the signature types HmacWithSha256 and SignatureSha256WithEcdsa (NDN Packet Format 0.3,
-- "Signature")
abbrev pub type_of : Algorithm → ℕ
type_of algorithms.HmacSha256 = 4
type_of algorithms.EcdsaSha256 = 3

-- `given` is the checker's result for the packet. Signature type 0 is DigestSha256 (NDN Packet
-- Format 0.3, "Signature"). If the packet's signature type is not the checker's type, `given` is the
-- reason `SigType`. The checker `Unsupported` denies every packet with the reason `SigType`. The
-- checker `Unverified` passes every Data, whatever its signature, and denies every Interest with the
-- reason `SigType`.
abbrev pub Checks : List NamedKey → Checker → PlainSigned → Option Reason → Type 0
Checks keys checkers.Sha256 signed given =
    Unless (signed.signature.info.kind ≡ 0) reasons.SigType given
    (ChecksTag (sha256 signed.covered) signed given)
Checks keys (checkers.Keyed algorithm test) signed given =
    Unless (signed.signature.info.kind ≡ type_of algorithm) reasons.SigType given
    (ChecksLocator keys algorithm test signed.signature.info.locator signed given)
Checks keys checkers.Unsupported signed given = given ≡ Some reasons.SigType
Checks keys checkers.Unverified signed given =
    Unless (signed.kind ≡ kinds.Data) reasons.SigType given (given ≡ None)
