-- Every Interest and every Data has a decision.
use Rattle.std.proofs.Common.{◌≡◌, ℕ, zero, suc, ◌+◌, ◌<◌, List, [], ◌∷◌, ◌++◌, length, get_or, take, append_assoc, append-nil, subst, sym, refl, ap, ◌∙◌, inl, inr, arith}
use Rattle.std.specs.Prelude.{Option, Some, None, slice_get, unwrap_or}
use Rattle.std.proofs.lemmas.Bool.{cases_lt}
use Rattle.std.proofs.lemmas.List.Elements.{All-push}
use Rattle.sha2.specs.Sha256.{sha256}
use Rattle.ndn_tlv.specs.Element.{Field}
use Rattle.key_files.specs.KeyFile.{NamedKey, IsAmong}
use Rattle.hmac_keys.specs.Mac.{Mac}
use Rattle.key_files.specs.declared.key.Key.{Key}
use Rattle.key_files.specs.declared.key.Key.TheVariants as variants
use Rattle.key_files.specs.PublicKey.{IsEcdsaOf}
use Rattle.info_rules.specs.declared.rule.Algorithm.{Algorithm}
use Rattle.info_rules.specs.declared.rule.Algorithm.TheVariants as algorithms
use Rattle.ndn_packets.specs.Packet.{PlainLocator, Missing, KeyName, Digest, Other, PlainSignature, PlainFrame, AnInterest, AData, ANack, Idle}
use Rattle.ndn_packets.specs.Covered.{Covered}
use Rattle.info_rules.specs.declared.rule.Kind.{Kind}
use Rattle.info_rules.specs.declared.rule.Kind.TheVariants as kinds
use Rattle.info_rules.specs.declared.rule.LocatorTest.{LocatorTest}
use Rattle.info_rules.specs.declared.rule.Checker.{Checker}
use Rattle.info_rules.specs.declared.rule.Checker.TheVariants as checkers
use Rattle.info_rules.specs.declared.decision.Reason.{Reason}
use Rattle.info_rules.specs.declared.decision.Reason.TheVariants as reasons
use Rattle.info_rules.specs.declared.decision.Decision.{Decision}
use Rattle.info_rules.specs.declared.decision.Decision.TheVariants as decisions
use Rattle.info_rules.specs.Rule.{PlainRule}
use Rattle.info_rules.specs.First.{Applies, NoneApplies, IsFirst}
use Rattle.info_rules.specs.Seen.{SeenPacket, PlainSigned, IsSigned, SaysWhen, seen_interest, seen_data}
use Rattle.info_rules.specs.Locator.{PassesLocator}
use Rattle.info_rules.specs.Checks.{Unless, ChecksTag, ChecksKey, ChecksLocator, Checks, ChecksSignature, type_of}
use Rattle.info_rules.specs.Decides.{reason_number, IsGreater, IsPassed, IsGreatest, DecideSeen, Decides}
use Rattle.info_rules.specs.Decided.{IsDecided}
use Rattle.info_rules.proofs.Reasons.{SoFar, one_more, all_done}

-- if a proposition and its negation each imply a contradiction, there is a contradiction
either : (A : Type 0) → (A → ⊥) → ((A → ⊥) → ⊥) → ⊥
either A if_so if_not = if_not if_so

-- ---- some rule is the first that applies, or no rule applies

at_end : (xs ys : List PlainRule) (y : PlainRule) → slice_get (xs ++ y ∷ ys) (length xs) ≡ Some y
at_end [] ys y = refl
at_end (x ∷ xs) ys y = at_end xs ys y

front : (xs ys : List PlainRule) → take (length xs) (xs ++ ys) ≡ xs
front [] ys = refl
front (x ∷ xs) ys = ap (λ (rest : List PlainRule). x ∷ rest) (front xs ys)

first_or_none : (all before rules : List PlainRule) (kind : Kind) (name : List Field) → before ++ rules ≡ all → NoneApplies before kind name
    → ((n : ℕ) (rule : PlainRule) → IsFirst all kind name n rule → ⊥) → (NoneApplies all kind name → ⊥) → ⊥
first_or_none all before [] kind name e none found missing =
    missing (subst (λ (rs : List PlainRule). NoneApplies rs kind name) (sym (append-nil before) ∙ e) none)
first_or_none all before (rule ∷ rules) kind name e none found missing =
    either (Applies rule kind name)
    (λ applies. found (length before) rule (record {
      there = ap (λ (rs : List PlainRule). slice_get rs (length before)) (sym e) ∙ at_end before rules rule;
      applies = applies;
      earlier = subst (λ (rs : List PlainRule). NoneApplies rs kind name) (sym (front before (rule ∷ rules)) ∙ ap (λ (rs : List PlainRule). take (length before) rs) e) none;
    }))
    (λ other. first_or_none all (before ++ rule ∷ []) rules kind name (append_assoc before (rule ∷ []) rules ∙ e)
    (All-push (λ (r : PlainRule). ¬ Applies r kind name) before rule none other) found missing)

-- ---- the result of one checker

unless : (Fact : Type 0) (reason : Reason) (Rest : Option Reason → Type 0) → (((given : Option Reason) → Rest given → ⊥) → ⊥)
    → ((given : Option Reason) → Unless Fact reason given (Rest given) → ⊥) → ⊥
unless Fact reason Rest rest none =
    either Fact (λ fact. rest (λ given r. none given (inr (fact, r)))) (λ no. none (Some reason) (inl (no, refl)))

tag_says : (tag : List ℕ) (signed : PlainSigned) → ((given : Option Reason) → ChecksTag tag signed given → ⊥) → ⊥
tag_says tag signed none = unless (signed.signature.value ≡ tag) reasons.Tag (λ given. given ≡ None) (λ no. no None refl) none

signature_says : (algorithm : Algorithm) (key : Key) (signed : PlainSigned) → ((given : Option Reason) → ChecksSignature algorithm key signed given → ⊥) → ⊥
signature_says algorithms.HmacSha256 (variants.Hmac octets) signed none = tag_says (Mac octets signed.covered) signed none
signature_says algorithms.EcdsaSha256 (variants.Ecdsa octets) signed none =
    unless (IsEcdsaOf octets signed.covered signed.signature.value) reasons.Tag (λ given. given ≡ None) (λ no. no None refl) none
signature_says algorithms.HmacSha256 (variants.Ecdsa octets) signed none = none (Some reasons.SigType) refl
signature_says algorithms.EcdsaSha256 (variants.Hmac octets) signed none = none (Some reasons.SigType) refl

key_says : (keys : List NamedKey) (algorithm : Algorithm) (name : List Field) (signed : PlainSigned) → ((given : Option Reason) → ChecksKey keys algorithm name signed given → ⊥) → ⊥
key_says keys algorithm name signed none =
    either ((key : Key) × IsAmong (name, key) keys)
    (λ found. signature_says algorithm found.0 signed (λ given c. none given (inr (found.0, found.1, c))))
    (λ no. none (Some reasons.KeyUnknown) (inl ((λ key among. no (key, among)), refl)))

locator_says : (keys : List NamedKey) (algorithm : Algorithm) (test : LocatorTest) (locator : PlainLocator) (signed : PlainSigned)
    → ((given : Option Reason) → ChecksLocator keys algorithm test locator signed given → ⊥) → ⊥
locator_says keys algorithm test (KeyName name) signed none =
    unless (PassesLocator test name signed.name) reasons.KeyLocator (λ given. ChecksKey keys algorithm name signed given) (key_says keys algorithm name signed) none
locator_says keys algorithm test Missing signed none = none (Some reasons.KeyLocator) refl
locator_says keys algorithm test Digest signed none = none (Some reasons.KeyLocator) refl
locator_says keys algorithm test Other signed none = none (Some reasons.KeyLocator) refl

says : (keys : List NamedKey) (checker : Checker) (signed : PlainSigned) → ((given : Option Reason) → Checks keys checker signed given → ⊥) → ⊥
says keys checkers.Sha256 signed none =
    unless (signed.signature.info.kind ≡ 0) reasons.SigType (λ given. ChecksTag (sha256 signed.covered) signed given) (tag_says (sha256 signed.covered) signed) none
says keys (checkers.Keyed algorithm test) signed none =
    unless (signed.signature.info.kind ≡ type_of algorithm) reasons.SigType (λ given. ChecksLocator keys algorithm test signed.signature.info.locator signed given)
    (locator_says keys algorithm test signed.signature.info.locator signed) none
says keys checkers.Unsupported signed none = none (Some reasons.SigType) refl
says keys checkers.Unverified signed none = unless (signed.kind ≡ kinds.Data) reasons.SigType (λ given. given ≡ None) (λ no. no None refl) none

-- ---- the results of all checkers

item : (all : List Checker) (n : ℕ) → n < length all → (x : Checker) × (x ≡ get_or all n x)
item [] n low = absurd (omega arith)
item (x ∷ all) zero low = (x, refl)
item (x ∷ all) (suc n) low = item all n (omega arith)

greater_of : (earlier : Option Reason) (reason : Reason) → (greatest : Reason) × IsGreater earlier reason greatest
greater_of None reason = (reason, refl)
greater_of (Some earlier) reason =
    elim (cases_lt (reason_number reason) (reason_number earlier)) [
      | inl lt ↦ (earlier, inl (refl, omega (arith, lt)))
      | inr le ↦ (reason, inr (refl, le))
    ]

all_say : (keys : List NamedKey) (all : List Checker) (signed : PlainSigned) (left n : ℕ) (earlier : Option Reason) → n + left ≡ length all → SoFar keys all signed n earlier
    → (IsPassed keys all signed → ⊥) → ((reason : Reason) → IsGreatest keys all signed reason → ⊥) → ⊥
all_say keys all signed zero n earlier e so_far passed denied =
    denied (unwrap_or earlier reasons.KeyLocator) (all_done keys all signed n earlier (omega arith) (omega arith) so_far)
all_say keys all signed (suc left) n earlier e so_far passed denied =
    let low : n < length all = omega arith in
    let x = item all n low in
    says keys x.0 signed (given x.0 x.1 low (λ next more. all_say keys all signed left (n + 1) next (omega arith) more passed denied))
  where
    given : (x : Checker) → x ≡ get_or all n x → n < length all → ((next : Option Reason) → SoFar keys all signed (n + 1) next → ⊥)
        → (reason : Option Reason) → Checks keys x signed reason → ⊥
    given x is low rest None c = passed (n, x, low, sym is, c)
    given x is low rest (Some reason) c =
        let greatest = greater_of earlier reason in
        rest (Some greatest.0) (one_more keys all signed n x earlier reason greatest.0 low is c greatest.1 so_far)

-- ---- there is a decision on every Interest and every Data

seen : (rules : List PlainRule) (keys : List NamedKey) (packet : SeenPacket) → ((decision : Decision) → DecideSeen rules keys packet decision → ⊥) → ⊥
seen rules keys packet none =
    first_or_none rules [] rules packet.kind packet.name refl (λ k d low. absurd (omega arith)) (λ n rule first. by_rule n rule first packet.signature refl)
    (λ no. none decisions.NoRule no)
  where
    by_rule : (n : ℕ) (rule : PlainRule) → IsFirst rules packet.kind packet.name n rule → (signature : Option PlainSignature) → packet.signature ≡ signature → ⊥
    by_rule n rule first None e = none (decisions.Denied (record { 0 = n }) reasons.NotSigned) (rule, first, inl e)
    by_rule n rule first (Some s) e =
        either (SaysWhen packet.kind s)
        (λ timed. either ((a b : List ℕ) × Covered packet.frame a b)
        (λ covers.
        let signed : PlainSigned = record { kind = packet.kind; name = packet.name; signature = s; covered = covers.0 ++ covers.1 } in
        let is : IsSigned packet signed = record { first = covers.0; second = covers.1; same_kind = refl; named = refl; signature = e; timed = timed; covers = covers.2; octets = refl } in
        all_say keys rule.checkers signed (length rule.checkers) 0 None (omega arith) refl
        (λ passed. none (decisions.Allowed (record { 0 = n })) (rule, first, (signed, is, passed)))
        (λ reason greatest. none (decisions.Denied (record { 0 = n }) reason) (rule, first, inr (signed, is, greatest))))
        (λ no. none (decisions.Denied (record { 0 = n }) reasons.Shape) (rule, first, inl (s, e, inr (λ a b covers. no (a, b, covers))))))
        (λ late. none (decisions.Denied (record { 0 = n }) reasons.Shape) (rule, first, inl (s, e, inl late)))

pub some_decision : (rules : List PlainRule) (keys : List NamedKey) (packet : PlainFrame) → IsDecided packet → ((decision : Decision) → Decides rules keys packet decision → ⊥) → ⊥
some_decision rules keys (AnInterest whole i) is none = seen rules keys (seen_interest whole i) none
some_decision rules keys (AData whole d) is none = seen rules keys (seen_data whole d) none
some_decision rules keys (ANack reason whole i) is none = is
some_decision rules keys Idle is none = is
