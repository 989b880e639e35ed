-- The signature of an allowed packet states its signer, unless an unverified checker passes a Data.
use Rattle.std.proofs.Common.{◌≡◌, ℕ, zero, suc, ◌<◌, Bool, true, false, List, [], ◌∷◌, length, get_or, refl, sym, ap, subst, ◌∙◌, ◌⊎◌, inl, inr, arith}
use Rattle.std.specs.Prelude.{Some, None, ◌||◌}
use Rattle.std.specs.List.{list_any}
use Rattle.key_files.specs.declared.key.Key.{Key}
use Rattle.key_files.specs.declared.key.Key.TheVariants as variants
use Rattle.key_files.specs.KeyFile.{NamedKey}
use Rattle.ndn_packets.specs.Packet.{PlainLocator, Missing, KeyName, Digest, Other, PlainInterest, PlainData, AnInterest, AData}
use Rattle.info_rules.specs.declared.rule.Kind.TheVariants as kinds
use Rattle.info_rules.specs.declared.rule.Algorithm.{Algorithm}
use Rattle.info_rules.specs.declared.rule.Algorithm.TheVariants as algorithms
use Rattle.info_rules.specs.declared.rule.LocatorTest.{LocatorTest}
use Rattle.info_rules.specs.declared.rule.Checker.{Checker}
use Rattle.info_rules.specs.declared.rule.Checker.TheVariants as checkers
use Rattle.info_rules.specs.declared.rules.RuleNo.{RuleNo}
use Rattle.info_rules.specs.declared.decision.Reason.{Reason}
use Rattle.info_rules.specs.declared.decision.Reason.TheVariants as reasons
use Rattle.info_rules.specs.declared.decision.Decision.TheVariants as decisions
use Rattle.info_rules.specs.Rule.{PlainRule, is_unverified, is_unverified_at}
use Rattle.info_rules.specs.Seen.{PlainSigned}
use Rattle.info_rules.specs.Checks.{Unless, ChecksKey, ChecksLocator, ChecksSignature, Checks}
use Rattle.info_rules.specs.Decides.{Decides}
use Rattle.info_rules.specs.Signer.{IsFor, NamesKey, NamesSigner, NamesItsSigner}

no_reason : {X : Type 0} (r : Reason) → None ≡ Some r → X
no_reason r e = absurd cc

-- if a check that may give the reason `r` gives none, both `Fact` and `Rest` are true
passed : {Fact Rest : Type 0} (r : Reason) → Unless Fact r None Rest → Fact × Rest
passed r (inl not) = no_reason r not.1
passed r (inr is) = is

-- a signature by a key is by the key's own algorithm
own_algorithm : (algorithm : Algorithm) (key : Key) (signed : PlainSigned) → ChecksSignature algorithm key signed None → IsFor algorithm key
own_algorithm algorithms.HmacSha256 (variants.Hmac octets) signed h = tt
own_algorithm algorithms.EcdsaSha256 (variants.Ecdsa octets) signed h = tt
own_algorithm algorithms.HmacSha256 (variants.Ecdsa octets) signed h = no_reason reasons.SigType h
own_algorithm algorithms.EcdsaSha256 (variants.Hmac octets) signed h = no_reason reasons.SigType h

key_named : (keys : List NamedKey) (algorithm : Algorithm) (test : LocatorTest) (signed : PlainSigned) (locator : PlainLocator) → signed.signature.info.locator ≡ locator
    → ChecksLocator keys algorithm test locator signed None → NamesKey keys algorithm signed.signature
key_named keys algorithm test signed (KeyName name) is h = known (passed reasons.KeyLocator h).1
  where
    known : ChecksKey keys algorithm name signed None → NamesKey keys algorithm signed.signature
    known (inl none) = no_reason reasons.KeyUnknown none.1
    known (inr key) = (name, key.0, is, key.1, own_algorithm algorithm key.0 signed key.2)
key_named keys algorithm test signed Missing is h = no_reason reasons.KeyLocator h
key_named keys algorithm test signed Digest is h = no_reason reasons.KeyLocator h
key_named keys algorithm test signed Other is h = no_reason reasons.KeyLocator h

-- a packet that passes the checker has a known signer, or it is a Data and the checker is
-- unverified
signer_of : (keys : List NamedKey) (checker : Checker) (signed : PlainSigned) → Checks keys checker signed None → NamesSigner keys signed.signature ⊎ ((signed.kind ≡ kinds.Data) × (is_unverified checker ≡ true))
signer_of keys checkers.Sha256 signed h = inl (inl (passed reasons.SigType h).0)
signer_of keys (checkers.Keyed algorithm test) signed h =
    let both = passed reasons.SigType h in
    inl (inr (algorithm, both.0, key_named keys algorithm test signed signed.signature.info.locator refl both.1))
signer_of keys checkers.Unsupported signed h = no_reason reasons.SigType h
signer_of keys checkers.Unverified signed h = inr ((passed reasons.SigType h).0, refl)

or_true : (s t : Bool) → t ≡ true → (s || t) ≡ true
or_true true t e = refl
or_true false t e = e

-- if one of the checkers is unverified, then some checker is
any_there : (all : List Checker) (k : ℕ) (x : Checker) → k < length all → get_or all k x ≡ x → is_unverified x ≡ true → list_any is_unverified all ≡ true
any_there [] k x low is e = absurd (omega (arith, low))
any_there (y ∷ all) zero x low is e = let here : is_unverified y ≡ true = ap is_unverified is ∙ e in rw here refl
any_there (y ∷ all) (suc k) x low is e = or_true (is_unverified y) (list_any is_unverified all) (any_there all k x (omega (arith, low)) is e)

pub interest_named : (rules : List PlainRule) (keys : List NamedKey) (whole : List ℕ) (i : PlainInterest) (rule : RuleNo) → Decides rules keys (AnInterest whole i) (decisions.Allowed rule) → NamesItsSigner keys (AnInterest whole i)
interest_named rules keys whole i rule d = by_signer (signer_of keys d.2.2.1 d.2.0 d.2.2.4)
  where
    by_signer : NamesSigner keys d.2.0.signature ⊎ ((d.2.0.kind ≡ kinds.Data) × (is_unverified d.2.2.1 ≡ true)) → NamesItsSigner keys (AnInterest whole i)
    by_signer (inl names) = (d.2.0.signature, d.2.1.signature, d.2.1.timed, names)
    by_signer (inr unverified) = let interest : kinds.Interest ≡ kinds.Data = sym d.2.1.same_kind ∙ unverified.0 in absurd cc

pub data_named : (rules : List PlainRule) (keys : List NamedKey) (whole : List ℕ) (packet : PlainData) (rule : RuleNo) → Decides rules keys (AData whole packet) (decisions.Allowed rule)
    → NamesItsSigner keys (AData whole packet) ⊎ (is_unverified_at rules rule.0 ≡ true)
data_named rules keys whole packet rule d = by_signer (signer_of keys d.2.2.1 d.2.0 d.2.2.4)
  where
    of_some : Some packet.signature ≡ Some d.2.0.signature → d.2.0.signature ≡ packet.signature
    of_some e = cc

    by_signer : NamesSigner keys d.2.0.signature ⊎ ((d.2.0.kind ≡ kinds.Data) × (is_unverified d.2.2.1 ≡ true)) → NamesItsSigner keys (AData whole packet) ⊎ (is_unverified_at rules rule.0 ≡ true)
    by_signer (inl names) = inl (subst (NamesSigner keys) (of_some d.2.1.signature) names)
    by_signer (inr unverified) =
        let some = any_there d.0.checkers d.2.2.0 d.2.2.1 d.2.2.2 d.2.2.3 unverified.1 in
        inr (rw (d.1.there, some) refl)
