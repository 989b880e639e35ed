-- The greatest reason of several checkers, found by examining the checkers one by one.
use Rattle.std.proofs.Common.{◌≡◌, ℕ, ◌+◌, ◌<◌, ◌≤◌, List, [], ◌∷◌, length, get_or, subst, sym, ap, ◌∙◌, inl, inr, arith, below_more}
use Rattle.std.specs.Prelude.{Option, Some, None, unwrap_or}
use Rattle.std.proofs.lemmas.List.{get_or_default}
use Rattle.key_files.specs.KeyFile.{NamedKey}
use Rattle.info_rules.specs.declared.rule.Checker.{Checker}
use Rattle.info_rules.specs.declared.decision.Reason.{Reason}
use Rattle.info_rules.specs.declared.decision.Reason.TheVariants as reasons
use Rattle.info_rules.specs.Seen.{PlainSigned}
use Rattle.info_rules.specs.Checks.{Checks}
use Rattle.info_rules.specs.Decides.{reason_number, IsGreater, IsAtMost, IsGreatest}

-- for `Some reason`, `reason` is the greatest reason of the first `n` checkers; for `None`, no
-- checker has been examined (`n` is 0)
abbrev pub SoFar : List NamedKey → List Checker → PlainSigned → ℕ → Option Reason → Type 0
SoFar keys all signed n None = n ≡ 0
SoFar keys all signed n (Some reason) =
    ((k : ℕ) → k < n → (d : Checker) → IsAtMost keys signed reason (get_or all k d))
    × ((k : ℕ) × (x : Checker) × (k < n) × (get_or all k x ≡ x) × Checks keys x signed (Some reason))

at_most : (keys : List NamedKey) (signed : PlainSigned) (less more : Reason) (checker : Checker) → reason_number less ≤ reason_number more → IsAtMost keys signed less checker → IsAtMost keys signed more checker
at_most keys signed less more checker le h = (h.0, h.1, omega (arith, le, h.2))

-- if the reasons of the first `n` checkers and the reason of the next checker are at most
-- `greatest`, the reasons of the first `n + 1` checkers are at most `greatest`
with_reason : (keys : List NamedKey) (all : List Checker) (signed : PlainSigned) (n : ℕ) (checker : Checker) (reason greatest : Reason)
    → n < length all → checker ≡ get_or all n checker → Checks keys checker signed (Some reason) → reason_number reason ≤ reason_number greatest
    → ((k : ℕ) → k < n → (d : Checker) → IsAtMost keys signed greatest (get_or all k d))
    → (k : ℕ) → k < n + 1 → (d : Checker) → IsAtMost keys signed greatest (get_or all k d)
with_reason keys all signed n checker reason greatest low is given le below =
    below_more (λ (k : ℕ). (d : Checker) → IsAtMost keys signed greatest (get_or all k d)) n below
    (λ d. subst (IsAtMost keys signed greatest) (is ∙ get_or_default all n checker d low) (reason, given, le))

pub one_more : (keys : List NamedKey) (all : List Checker) (signed : PlainSigned) (n : ℕ) (checker : Checker) (earlier : Option Reason) (reason greatest : Reason)
    → n < length all → checker ≡ get_or all n checker → Checks keys checker signed (Some reason) → IsGreater earlier reason greatest
    → SoFar keys all signed n earlier → SoFar keys all signed (n + 1) (Some greatest)
one_more keys all signed n checker None reason greatest low is given greater so_far =
    let here : Checks keys checker signed (Some greatest) = subst (λ (r : Reason). Checks keys checker signed (Some r)) (sym greater) given in
    (with_reason keys all signed n checker reason greatest low is given (omega (arith, ap reason_number greater)) (λ k lt d. absurd (omega (arith, lt, so_far))), (n, checker, omega arith, sym is, here))
one_more keys all signed n checker (Some earlier) reason greatest low is given (inl g) so_far =
    let same : earlier ≡ greatest = sym g.0 in (
      with_reason keys all signed n checker reason greatest low is given (omega (arith, g.1, ap reason_number same))
          (λ k lt d. subst (λ (r : Reason). IsAtMost keys signed r (get_or all k d)) same (so_far.0 k lt d)),
      (so_far.1.0, so_far.1.1, omega (arith, so_far.1.2), so_far.1.3, subst (λ (r : Reason). Checks keys so_far.1.1 signed (Some r)) same so_far.1.4),
    )
one_more keys all signed n checker (Some earlier) reason greatest low is given (inr g) so_far =
    let here : Checks keys checker signed (Some greatest) = subst (λ (r : Reason). Checks keys checker signed (Some r)) (sym g.0) given in (
      with_reason keys all signed n checker reason greatest low is given (omega (arith, ap reason_number g.0))
          (λ k lt d. at_most keys signed earlier greatest (get_or all k d) (omega (arith, g.1, ap reason_number g.0)) (so_far.0 k lt d)),
      (n, checker, omega arith, sym is, here),
    )

none_there : (all : List Checker) → length all ≡ 0 → all ≡ []
none_there [] e = λ i. []
none_there (x ∷ all) e = absurd (omega (arith, e))

pub all_done : (keys : List NamedKey) (all : List Checker) (signed : PlainSigned) (n : ℕ) (greatest : Option Reason) → length all ≤ n → n ≤ length all → SoFar keys all signed n greatest
    → IsGreatest keys all signed (unwrap_or greatest reasons.KeyLocator)
all_done keys all signed n None high low so_far = inl (none_there all (omega (arith, high, low, so_far)), λ i. reasons.KeyLocator)
all_done keys all signed n (Some reason) high low so_far =
    inr (λ k d lt. so_far.0 k (omega (arith, lt, high)) d, (so_far.1.0, so_far.1.1, omega (arith, so_far.1.2, low), so_far.1.3, so_far.1.4))
