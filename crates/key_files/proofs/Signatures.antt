-- Signatures in their DER form, which verify under a public key or do not.
use Rattle.std.proofs.Common.{ℕ, Bool, false, List, subst}
use Rattle.std.specs.Prelude.{◌↔◌, IsTrue}
use Rattle.p256.specs.Der.{IsDer}
use Rattle.p256.specs.Signature.{IsSigned}
use Rattle.p256.proofs.OneForm.{one_pair}

-- the value is the DER form of a signature of the hash h under the public key (x, y)
abbrev Holds : List ℕ → ℕ → ℕ → ℕ → Type 0
Holds value h x y = (r s : ℕ) × IsDer value r s × IsSigned h r s x y

pub not_read : (value : List ℕ) (h x y : ℕ) → ((r s : ℕ) → IsDer value r s → ⊥) → IsTrue false ↔ Holds value h x y
not_read value h x y none = (λ e. absurd cc, λ (r, s, form, signed). absurd (none r s form))

pub read_is : (value : List ℕ) (h x y r s : ℕ) (b : Bool) → IsDer value r s → (IsTrue b ↔ IsSigned h r s x y) → IsTrue b ↔ Holds value h x y
read_is value h x y r s b form is = (λ e. (r, s, form, is.0 e), λ held. is.1 (moved held))
  where
    moved : Holds value h x y → IsSigned h r s x y
    moved (m, n, other, signed) =
        let same = one_pair value m n r s other form in
        subst (λ (k : ℕ). IsSigned h r k x y) same.1 (subst (λ (k : ℕ). IsSigned h k n x y) same.0 signed)
