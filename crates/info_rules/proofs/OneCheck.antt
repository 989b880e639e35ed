-- A checker gives only one result for a packet, if all keys of the key book have different names.
use Rattle.std.proofs.Common.{◌≡◌, ℕ, List, [], ◌∷◌, subst, sym, ap, ◌∙◌, inl, inr}
use Rattle.std.specs.Prelude.{Option, None, ◌≢◌}
use Rattle.std.specs.List.{AllByRecursion}
use Rattle.sha2.specs.Sha256.{sha256}
use Rattle.ndn_tlv.specs.Element.{Field}
use Rattle.key_files.specs.KeyFile.{NamedKey, AreApart, IsAmong}
use Rattle.hmac_keys.specs.Mac.{Mac}
use Rattle.key_files.specs.declared.key.Key.{Key}
use Rattle.key_files.specs.declared.key.Key.TheVariants as variants
use Rattle.key_files.specs.PublicKey.{IsEcdsaOf}
use Rattle.key_files.proofs.Books.{one_key}
use Rattle.ndn_packets.specs.Packet.{PlainLocator, Missing, KeyName, Digest, Other}
use Rattle.info_rules.specs.declared.rule.Kind.TheVariants as kinds
use Rattle.info_rules.specs.declared.rule.Algorithm.{Algorithm}
use Rattle.info_rules.specs.declared.rule.Algorithm.TheVariants as algorithms
use Rattle.info_rules.specs.declared.rule.LocatorTest.{LocatorTest}
use Rattle.info_rules.specs.declared.rule.Checker.{Checker}
use Rattle.info_rules.specs.declared.rule.Checker.TheVariants as checkers
use Rattle.info_rules.specs.declared.decision.Reason.{Reason}
use Rattle.info_rules.specs.declared.decision.Reason.TheVariants as reasons
use Rattle.info_rules.specs.Seen.{PlainSigned}
use Rattle.info_rules.specs.Locator.{PassesLocator}
use Rattle.info_rules.specs.Checks.{Unless, ChecksTag, ChecksSignature, ChecksKey, ChecksLocator, Checks, type_of}

one_unless : (Fact : Type 0) (reason : Reason) (x y : Option Reason) (Next After : Type 0) → (Next → After → x ≡ y) → Unless Fact reason x Next → Unless Fact reason y After → x ≡ y
one_unless Fact reason x y Next After rest (inl p) (inl q) = p.1 ∙ sym q.1
one_unless Fact reason x y Next After rest (inl p) (inr q) = absurd (p.0 q.0)
one_unless Fact reason x y Next After rest (inr p) (inl q) = absurd (q.0 p.0)
one_unless Fact reason x y Next After rest (inr p) (inr q) = rest p.1 q.1

one_tag : (tag : List ℕ) (signed : PlainSigned) (x y : Option Reason) → ChecksTag tag signed x → ChecksTag tag signed y → x ≡ y
one_tag tag signed x y = one_unless (signed.signature.value ≡ tag) reasons.Tag x y (x ≡ None) (y ≡ None) (λ p q. p ∙ sym q)

one_signature : (algorithm : Algorithm) (key : Key) (signed : PlainSigned) (x y : Option Reason) → ChecksSignature algorithm key signed x → ChecksSignature algorithm key signed y → x ≡ y
one_signature algorithms.HmacSha256 (variants.Hmac octets) signed x y p q = one_tag (Mac octets signed.covered) signed x y p q
one_signature algorithms.EcdsaSha256 (variants.Ecdsa octets) signed x y p q = one_unless (IsEcdsaOf octets signed.covered signed.signature.value) reasons.Tag x y (x ≡ None) (y ≡ None) (λ p q. p ∙ sym q) p q
one_signature algorithms.HmacSha256 (variants.Ecdsa octets) signed x y p q = p ∙ sym q
one_signature algorithms.EcdsaSha256 (variants.Hmac octets) signed x y p q = p ∙ sym q

one_by_key : (keys : List NamedKey) (algorithm : Algorithm) (name : List Field) (signed : PlainSigned) (x y : Option Reason) → AreApart keys → ChecksKey keys algorithm name signed x → ChecksKey keys algorithm name signed y → x ≡ y
one_by_key keys algorithm name signed x y apart (inl p) (inl q) = p.1 ∙ sym q.1
one_by_key keys algorithm name signed x y apart (inl p) (inr q) = absurd (p.0 q.0 q.1)
one_by_key keys algorithm name signed x y apart (inr p) (inl q) = absurd (q.0 p.0 p.1)
one_by_key keys algorithm name signed x y apart (inr p) (inr q) =
    let same : q.0 ≡ p.0 = one_key keys name q.0 p.0 apart q.1 p.1 in
    one_signature algorithm p.0 signed x y p.2 (subst (λ (k : Key). ChecksSignature algorithm k signed y) same q.2)

one_by_locator : (keys : List NamedKey) (algorithm : Algorithm) (test : LocatorTest) (locator : PlainLocator) (signed : PlainSigned) (x y : Option Reason) → AreApart keys
    → ChecksLocator keys algorithm test locator signed x → ChecksLocator keys algorithm test locator signed y → x ≡ y
one_by_locator keys algorithm test (KeyName name) signed x y apart =
    one_unless (PassesLocator test name signed.name) reasons.KeyLocator x y (ChecksKey keys algorithm name signed x) (ChecksKey keys algorithm name signed y) (one_by_key keys algorithm name signed x y apart)
one_by_locator keys algorithm test Missing signed x y apart = λ p q. p ∙ sym q
one_by_locator keys algorithm test Digest signed x y apart = λ p q. p ∙ sym q
one_by_locator keys algorithm test Other signed x y apart = λ p q. p ∙ sym q

pub one_check : (keys : List NamedKey) (checker : Checker) (signed : PlainSigned) (x y : Option Reason) → AreApart keys → Checks keys checker signed x → Checks keys checker signed y → x ≡ y
one_check keys checkers.Sha256 signed x y apart =
    one_unless (signed.signature.info.kind ≡ 0) reasons.SigType x y (ChecksTag (sha256 signed.covered) signed x) (ChecksTag (sha256 signed.covered) signed y) (one_tag (sha256 signed.covered) signed x y)
one_check keys (checkers.Keyed algorithm test) signed x y apart =
    one_unless (signed.signature.info.kind ≡ type_of algorithm) reasons.SigType x y (ChecksLocator keys algorithm test signed.signature.info.locator signed x) (ChecksLocator keys algorithm test signed.signature.info.locator signed y)
    (one_by_locator keys algorithm test signed.signature.info.locator signed x y apart)
one_check keys checkers.Unsupported signed x y apart = λ p q. p ∙ sym q
one_check keys checkers.Unverified signed x y apart = one_unless (signed.kind ≡ kinds.Data) reasons.SigType x y (x ≡ None) (y ≡ None) (λ p q. p ∙ sym q)
