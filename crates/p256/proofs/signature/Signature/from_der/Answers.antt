use Rattle.std.proofs.Common.{◌≡◌, ◌∙◌, ℕ, List, [], length, false, subst, sym}
use Rattle.std.specs.Bool.{◌==◌}
use Rattle.p256.specs.Der.{IsInteger}
use Rattle.p256.specs.Integer.{value}
use Rattle.p256.proofs.Der.{after_first, after_second}
use Rattle.p256.proofs.signature.Signature.from_der.Goals as goal
use Rattle.p256.proofs.signature.Signature.from_der.Goals.{then-not-is_empty-via-then-not-is_empty, then-not-is_empty-via-else-not-is_empty+then-not-is_empty-2}

not_empty : (xs : List ℕ) → (length xs == 0) ≡ false → xs ≡ [] → ⊥
not_empty xs h e = let f = subst (λ (t : List ℕ). (length t == 0) ≡ false) e h in cc

pub returns-in_default-first_integer-2 : goal.returns-in_default-first_integer-2
returns-in_default-first_integer-2 c =
    λ r s d.
    let body = c.in-Some.body.now in
    let after_r = c.in-Some-first_integer.after_r.now in
    let first = after_first c.args.octets.now body c.in-Some.end.now after_r (value c.in-Some-first_integer.r) r s
    c.in-Some.ensures c.in-Some-first_integer.ensures d in
    c.in_default-first_integer-2.ensures s [] d.below.1 (subst (λ t. IsInteger t s []) (sym first.2) d.s_is)

pub returns-then-not-is_empty : goal.returns-then-not-is_empty
returns-then-not-is_empty c =
    λ r s d.
    let parts = after_second c.args.octets.now c.in-Some.body.now c.in-Some.end.now c.in-Some-first_integer.after_r.now
    c.in-Some-first_integer-2.after_s.now (value c.in-Some-first_integer.r) (value c.in-Some-first_integer-2.s) r s
    c.in-Some.ensures c.in-Some-first_integer.ensures c.in-Some-first_integer-2.ensures d in
    elim c.then-not-is_empty.branch [
      | then-not-is_empty-via-then-not-is_empty w ↦
          not_empty c.in-Some.end.now (sym c.is_empty.ensures ∙ w.if-not-is_empty.true) parts.no_end
      | then-not-is_empty-via-else-not-is_empty+then-not-is_empty-2 w ↦
          not_empty c.in-Some-first_integer-2.after_s.now
          (sym w.is_empty-else-not-is_empty.ensures ∙ w.if-not-is_empty-2.true) parts.no_rest
    ]
