-- Rules give only one decision for a packet, if all keys of the key book have different names.
use Rattle.std.proofs.Common.{◌≡◌, ℕ, ◌<◌, ◌≤◌, List, [], ◌++◌, length, get_or, take, subst, sym, refl, ap, ◌∙◌, ◌⊎◌, inl, inr, arith}
use Rattle.std.specs.Prelude.{Option, Some, None, slice_get, All, Any, ◌==◌, if◌then◌else◌}
use Rattle.std.proofs.lemmas.Bool.{cases_lt}
use Rattle.std.proofs.lemmas.List.{get_or-take, length-take}
use Rattle.std.proofs.lemmas.Option.{get_or_from_slice_get}
use Rattle.ndn_tlv.specs.Element.{Field}
use Rattle.key_files.specs.KeyFile.{NamedKey, AreApart}
use Rattle.ndn_packets.specs.Packet.{PlainSignature, PlainFrame, AnInterest, AData, ANack, Idle}
use Rattle.ndn_packets.specs.Covered.{Covered}
use Rattle.ndn_packets.proofs.Covers.{one_covered}
use Rattle.info_rules.specs.declared.rule.Kind.{Kind}
use Rattle.info_rules.specs.declared.rule.Checker.{Checker}
use Rattle.info_rules.specs.declared.rules.RuleNo.{RuleNo}
use Rattle.info_rules.specs.declared.decision.Reason.{Reason}
use Rattle.info_rules.specs.declared.decision.Reason.TheVariants as reasons
use Rattle.info_rules.specs.declared.decision.Decision.{Decision}
use Rattle.info_rules.specs.declared.decision.Decision.TheVariants as decisions
use Rattle.info_rules.specs.Rule.{PlainRule}
use Rattle.info_rules.specs.First.{Applies, NoneApplies, IsFirst}
use Rattle.info_rules.specs.Seen.{SeenPacket, PlainSigned, IsSigned, SaysWhen, seen_interest, seen_data}
use Rattle.info_rules.specs.Checks.{Checks}
use Rattle.info_rules.specs.Decides.{reason_number, IsPassed, IsAtMost, IsGreatest, Allow, IsUnfit, Deny, DecideSeen, Decides}
use Rattle.info_rules.proofs.Firsts.{within}
use Rattle.info_rules.proofs.OneCheck.{one_check}

-- ---- at most one rule is the first that applies

never : (rules : List PlainRule) (kind : Kind) (name : List Field) (n : ℕ) (rule : PlainRule) → NoneApplies rules kind name → IsFirst rules kind name n rule → ⊥
never rules kind name n rule none h =
    none n rule (within rules n rule h.there) (subst (λ (r : PlainRule). Applies r kind name) (sym (get_or_from_slice_get rules n rule rule h.there)) h.applies)

not_before : (rules : List PlainRule) (kind : Kind) (name : List Field) (n m : ℕ) (a b : PlainRule) → n < m → IsFirst rules kind name n a → IsFirst rules kind name m b → ⊥
not_before rules kind name n m a b lt p q =
    let here : get_or (take m rules) n a ≡ a = get_or-take m rules n a lt ∙ get_or_from_slice_get rules n a a p.there in
    q.earlier n a (omega (arith, lt, within rules n a p.there, length-take m rules)) (subst (λ (r : PlainRule). Applies r kind name) (sym here) p.applies)

one_number : (rules : List PlainRule) (kind : Kind) (name : List Field) (n m : ℕ) (a b : PlainRule) → IsFirst rules kind name n a → IsFirst rules kind name m b → n ≡ m
one_number rules kind name n m a b p q =
    elim (cases_lt n m) [
      | inl lt ↦ absurd (not_before rules kind name n m a b lt p q)
      | inr le ↦ elim (cases_lt m n) [ inl lt ↦ absurd (not_before rules kind name m n b a lt q p) | inr ge ↦ omega (arith, le, ge) ]
    ]

one_rule : (rules : List PlainRule) (kind : Kind) (name : List Field) (n m : ℕ) (a b : PlainRule) → IsFirst rules kind name n a → IsFirst rules kind name m b → a ≡ b
one_rule rules kind name n m a b p q = some_is (sym p.there ∙ (ap (slice_get rules) (one_number rules kind name n m a b p q) ∙ q.there))
  where
    some_is : Some a ≡ Some b → a ≡ b
    some_is e = cc

numbered : (n m : RuleNo) → n.0 ≡ m.0 → n ≡ m
numbered n m e = λ i. record { 0 = e i }

-- ---- the checkers see only one name, signature and covered part of a packet

one_signature : (a b : PlainSignature) (o : Option PlainSignature) → o ≡ Some a → o ≡ Some b → a ≡ b
one_signature a b o p q = some_is (sym p ∙ q)
  where
    some_is : Some a ≡ Some b → a ≡ b
    some_is e = cc

one_signed : (packet : SeenPacket) (a b : PlainSigned) → IsSigned packet a → IsSigned packet b → a ≡ b
one_signed packet a b p q =
    let kind : a.kind ≡ b.kind = p.same_kind ∙ sym q.same_kind in
    let name : a.name ≡ b.name = p.named ∙ sym q.named in
    let signature : a.signature ≡ b.signature = one_signature a.signature b.signature packet.signature p.signature q.signature in
    let parts = one_covered packet.frame p.first p.second q.first q.second p.covers q.covers in
    let covered : a.covered ≡ b.covered = p.octets ∙ ((λ i. parts.0 i ++ parts.1 i) ∙ sym q.octets) in
    λ i. record { kind = kind i; name = name i; signature = signature i; covered = covered i }

fit : (packet : SeenPacket) (signed : PlainSigned) (reason : Reason) → IsSigned packet signed → IsUnfit packet reason → ⊥
fit packet signed reasons.NotSigned p u = none packet.signature u p.signature
  where
    none : (o : Option PlainSignature) → o ≡ None → o ≡ Some signed.signature → ⊥
    none o e f = cc
fit packet signed reasons.Shape p u = shaped u.2
  where
    same : signed.signature ≡ u.0
    same = one_signature signed.signature u.0 packet.signature p.signature u.1

    shaped : (¬ SaysWhen packet.kind u.0) ⊎ ((first second : List ℕ) → Covered packet.frame first second → ⊥) → ⊥
    shaped (inl late) = late (subst (SaysWhen packet.kind) same p.timed)
    shaped (inr none) = none p.first p.second p.covers
fit packet signed reasons.SigType p u = u
fit packet signed reasons.KeyLocator p u = u
fit packet signed reasons.KeyUnknown p u = u
fit packet signed reasons.Tag p u = u
fit packet signed reasons.Replay p u = u

one_unfit : (packet : SeenPacket) (a b : Reason) → IsUnfit packet a → IsUnfit packet b → a ≡ b
one_unfit packet reasons.NotSigned reasons.NotSigned p q = refl
one_unfit packet reasons.NotSigned reasons.Shape p q = absurd (none packet.signature p q.1)
  where
    none : (o : Option PlainSignature) → o ≡ None → o ≡ Some q.0 → ⊥
    none o e f = cc
one_unfit packet reasons.NotSigned reasons.SigType p q = absurd q
one_unfit packet reasons.NotSigned reasons.KeyLocator p q = absurd q
one_unfit packet reasons.NotSigned reasons.KeyUnknown p q = absurd q
one_unfit packet reasons.NotSigned reasons.Tag p q = absurd q
one_unfit packet reasons.NotSigned reasons.Replay p q = absurd q
one_unfit packet reasons.Shape reasons.NotSigned p q = absurd (none packet.signature q p.1)
  where
    none : (o : Option PlainSignature) → o ≡ None → o ≡ Some p.0 → ⊥
    none o e f = cc
one_unfit packet reasons.Shape reasons.Shape p q = refl
one_unfit packet reasons.Shape reasons.SigType p q = absurd q
one_unfit packet reasons.Shape reasons.KeyLocator p q = absurd q
one_unfit packet reasons.Shape reasons.KeyUnknown p q = absurd q
one_unfit packet reasons.Shape reasons.Tag p q = absurd q
one_unfit packet reasons.Shape reasons.Replay p q = absurd q
one_unfit packet reasons.SigType b p q = absurd p
one_unfit packet reasons.KeyLocator b p q = absurd p
one_unfit packet reasons.KeyUnknown b p q = absurd p
one_unfit packet reasons.Tag b p q = absurd p
one_unfit packet reasons.Replay b p q = absurd p

-- ---- the checkers give only one result if all keys have different names

abbrev reason_of : ℕ → Reason
reason_of n =
    if n == 1 then reasons.NotSigned else (
    if n == 2 then reasons.Shape else (
    if n == 3 then reasons.SigType else (
    if n == 4 then reasons.KeyLocator else (
    if n == 5 then reasons.KeyUnknown else (
    if n == 6 then reasons.Tag else
    reasons.Replay)))))

numbers_back : (a : Reason) → reason_of (reason_number a) ≡ a
numbers_back reasons.NotSigned = refl
numbers_back reasons.Shape = refl
numbers_back reasons.SigType = refl
numbers_back reasons.KeyLocator = refl
numbers_back reasons.KeyUnknown = refl
numbers_back reasons.Tag = refl
numbers_back reasons.Replay = refl

one_reason : (a b : Reason) → reason_number a ≡ reason_number b → a ≡ b
one_reason a b e = sym (numbers_back a) ∙ (ap reason_of e ∙ numbers_back b)

given_one : (keys : List NamedKey) (checker : Checker) (signed : PlainSigned) (a b : Reason) → AreApart keys → Checks keys checker signed (Some a) → Checks keys checker signed (Some b) → a ≡ b
given_one keys checker signed a b apart p q = some_is (one_check keys checker signed (Some a) (Some b) apart p q)
  where
    some_is : Some a ≡ Some b → a ≡ b
    some_is e = cc

passes_none : (keys : List NamedKey) (checker : Checker) (signed : PlainSigned) (a : Reason) → AreApart keys → Checks keys checker signed None → Checks keys checker signed (Some a) → ⊥
passes_none keys checker signed a apart p q = none_is (one_check keys checker signed None (Some a) apart p q)
  where
    none_is : None ≡ Some a → ⊥
    none_is e = cc

-- if `P` holds for all checkers, it holds for the checker at index `k`
here : (P : Checker → Type 0) (all : List Checker) (k : ℕ) (x : Checker) → All P all → k < length all → get_or all k x ≡ x → P x
here P all k x every low is = subst P is (every k x low)

some_there : (P : Checker → Type 0) (all : List Checker) → all ≡ [] → Any P all → ⊥
some_there P all none any = absurd (omega (arith, any.2, ap length none))

not_both : (keys : List NamedKey) (all : List Checker) (signed : PlainSigned) (reason : Reason) → AreApart keys → IsPassed keys all signed → IsGreatest keys all signed reason → ⊥
not_both keys all signed reason apart passed (inl g) = some_there (λ checker. Checks keys checker signed None) all g.0 passed
not_both keys all signed reason apart passed (inr g) =
    let given = here (IsAtMost keys signed reason) all passed.0 passed.1 g.0 passed.2 passed.3 in
    passes_none keys passed.1 signed given.0 apart passed.4 given.1

no_greater : (keys : List NamedKey) (all : List Checker) (signed : PlainSigned) (a b : Reason) → AreApart keys → All (IsAtMost keys signed b) all → Any (λ checker. Checks keys checker signed (Some a)) all
    → reason_number a ≤ reason_number b
no_greater keys all signed a b apart every any =
    let given = here (IsAtMost keys signed b) all any.0 any.1 every any.2 any.3 in
    let same : given.0 ≡ a = given_one keys any.1 signed given.0 a apart given.1 any.4 in
    omega (arith, given.2, ap reason_number same)

one_greatest : (keys : List NamedKey) (all : List Checker) (signed : PlainSigned) (a b : Reason) → AreApart keys → IsGreatest keys all signed a → IsGreatest keys all signed b → a ≡ b
one_greatest keys all signed a b apart (inl p) (inl q) = p.1 ∙ sym q.1
one_greatest keys all signed a b apart (inl p) (inr q) = absurd (some_there (λ checker. Checks keys checker signed (Some b)) all p.0 q.1)
one_greatest keys all signed a b apart (inr p) (inl q) = absurd (some_there (λ checker. Checks keys checker signed (Some a)) all q.0 p.1)
one_greatest keys all signed a b apart (inr p) (inr q) =
    one_reason a b (omega (arith, no_greater keys all signed a b apart q.0 p.1, no_greater keys all signed b a apart p.0 q.1))

-- ---- there is only one decision if all keys have different names

not_allowed : (keys : List NamedKey) (all : List Checker) (packet : SeenPacket) (reason : Reason) → AreApart keys → Allow keys all packet → Deny keys all packet reason → ⊥
not_allowed keys all packet reason apart allow (inl u) = fit packet allow.0 reason allow.1 u
not_allowed keys all packet reason apart allow (inr d) =
    let same : d.0 ≡ allow.0 = one_signed packet d.0 allow.0 d.1 allow.1 in
    not_both keys all allow.0 reason apart allow.2 (subst (λ (s : PlainSigned). IsGreatest keys all s reason) same d.2)

one_denial : (keys : List NamedKey) (all : List Checker) (packet : SeenPacket) (a b : Reason) → AreApart keys → Deny keys all packet a → Deny keys all packet b → a ≡ b
one_denial keys all packet a b apart (inl p) (inl q) = one_unfit packet a b p q
one_denial keys all packet a b apart (inl p) (inr q) = absurd (fit packet q.0 a q.1 p)
one_denial keys all packet a b apart (inr p) (inl q) = absurd (fit packet p.0 b p.1 q)
one_denial keys all packet a b apart (inr p) (inr q) =
    let same : q.0 ≡ p.0 = one_signed packet q.0 p.0 q.1 p.1 in
    one_greatest keys all p.0 a b apart p.2 (subst (λ (s : PlainSigned). IsGreatest keys all s b) same q.2)

one_seen : (rules : List PlainRule) (keys : List NamedKey) (packet : SeenPacket) (a b : Decision) → AreApart keys → DecideSeen rules keys packet a → DecideSeen rules keys packet b → a ≡ b
one_seen rules keys packet (decisions.Allowed n) (decisions.Allowed m) apart p q =
    ap decisions.Allowed (numbered n m (one_number rules packet.kind packet.name n.0 m.0 p.0 q.0 p.1 q.1))
one_seen rules keys packet (decisions.Allowed n) (decisions.Denied m reason) apart p q =
    let same : q.0 ≡ p.0 = one_rule rules packet.kind packet.name m.0 n.0 q.0 p.0 q.1 p.1 in
    absurd (not_allowed keys p.0.checkers packet reason apart p.2 (subst (λ (r : PlainRule). Deny keys r.checkers packet reason) same q.2))
one_seen rules keys packet (decisions.Allowed n) decisions.NoRule apart p q = absurd (never rules packet.kind packet.name n.0 p.0 q p.1)
one_seen rules keys packet (decisions.Denied n reason) (decisions.Allowed m) apart p q =
    let same : p.0 ≡ q.0 = one_rule rules packet.kind packet.name n.0 m.0 p.0 q.0 p.1 q.1 in
    absurd (not_allowed keys q.0.checkers packet reason apart q.2 (subst (λ (r : PlainRule). Deny keys r.checkers packet reason) same p.2))
one_seen rules keys packet (decisions.Denied n reason) (decisions.Denied m other) apart p q =
    let number : n ≡ m = numbered n m (one_number rules packet.kind packet.name n.0 m.0 p.0 q.0 p.1 q.1) in
    let same : q.0 ≡ p.0 = one_rule rules packet.kind packet.name m.0 n.0 q.0 p.0 q.1 p.1 in
    let one : reason ≡ other = one_denial keys p.0.checkers packet reason other apart p.2 (subst (λ (r : PlainRule). Deny keys r.checkers packet other) same q.2) in
    λ i. decisions.Denied (number i) (one i)
one_seen rules keys packet (decisions.Denied n reason) decisions.NoRule apart p q = absurd (never rules packet.kind packet.name n.0 p.0 q p.1)
one_seen rules keys packet decisions.NoRule (decisions.Allowed m) apart p q = absurd (never rules packet.kind packet.name m.0 q.0 p q.1)
one_seen rules keys packet decisions.NoRule (decisions.Denied m reason) apart p q = absurd (never rules packet.kind packet.name m.0 q.0 p q.1)
one_seen rules keys packet decisions.NoRule decisions.NoRule apart p q = refl

pub one_decision : (rules : List PlainRule) (keys : List NamedKey) (packet : PlainFrame) (a b : Decision) → AreApart keys → Decides rules keys packet a → Decides rules keys packet b → a ≡ b
one_decision rules keys (AnInterest whole i) a b apart p q = one_seen rules keys (seen_interest whole i) a b apart p q
one_decision rules keys (AData whole d) a b apart p q = one_seen rules keys (seen_data whole d) a b apart p q
one_decision rules keys (ANack reason whole i) a b apart p q = absurd p
one_decision rules keys Idle a b apart p q = absurd p
