use Rattle.std.proofs.Common.{◌≡◌, ℕ, ◌+◌, ◌-◌, ◌*◌, ◌%◌, ◌<◌, ◌≤◌, ◌⊎◌, inl, inr, false, IsTrue, ap, subst, sym, ◌∙◌, arith}
use Rattle.std.proofs.lemmas.Bool.{cases_lt}
use Rattle.std.proofs.Math.Nat.{mod-eq_of_lt}
use Rattle.p256.specs.Field.{number}
use Rattle.p256.specs.Order.{order}
use Rattle.p256.specs.Prime.{prime}
use Rattle.p256.specs.Integer.{value}
use Rattle.p256.proofs.Modulo.{mod_once}
use Rattle.p256.proofs.verify.has_x.Goals as goal
use Rattle.p256.proofs.verify.has_x.Goals.{then-carry-eq0, else-carry-eq0}

-- the two numbers below p that leave r
candidates : (a r n p : ℕ) → a < p → p ≤ 2 * n → a % n ≡ r → (a ≡ r) ⊎ (a ≡ r + n)
candidates a r n p lt two e = elim (cases_lt a n) [
  | inl below ↦ inl (sym (mod-eq_of_lt below) ∙ e)
  | inr above ↦
      let d : a ≡ (a - n) + n = omega arith in
      inr (let f : a - n ≡ a % n = mod_once a n (a - n) d (omega arith) in omega arith)
]

not_true : {P : Type 0} → IsTrue false → P
not_true e = cc

pub returns-else-is_below : goal.returns-else-is_below
returns-else-is_below c = (
  (λ t. not_true (subst IsTrue c.if-is_below.false t)),
  (λ h.
      let a = h.1.0 in
      let r = value c.args.r in
      let z = number c.args.point.z in
      elim (candidates a r order prime h.1.1 (omega arith) h.1.2) [
        | inl e ↦ not_true (c.if-is_first.ensures.1 (ap (λ k. (k * z) % prime) (sym e) ∙ h.1.3))
        | inr e ↦ elim c.if-carry-eq0.branch [
          | then-carry-eq0 w ↦
              let more : value c.add-carry.result.0 ≡ a = omega arith in
              let below : value c.add-carry.result.0 < prime = rw more h.1.1 in
              subst IsTrue (sym w.value-is) (w.is_below.ensures.1 below)
          | else-carry-eq0 w ↦ absurd (omega arith)
        ]
      ]),
)
