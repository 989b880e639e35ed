-- Signers can be used as the keys of maps.
use Rattle.std.specs.Prelude.{◌≡◌, List, None, Some, true, refl}
use Rattle.std.proofs.Common.{ap, sym, ◌∙◌}
use Rattle.std.specs.Cmp.{IsTotalOrder, Equal-is, tied_itself}
use Rattle.std.specs.Cmp.Lexicographic.{options_total}
use Rattle.std.specs.FinMap.{IsAntisymmetric}
use Rattle.std.specs.Ordering.{eq_by_cmp, is_eq}
use Rattle.ndn_names.specs.Key.{name_cmp-total, name_cmp-antisymmetric}
use Rattle.replay_guard.specs.Freshness.{Signer}
use Rattle.replay_guard.specs.Guard.{signer_cmp}

pub signer_cmp-total : IsTotalOrder signer_cmp
signer_cmp-total = options_total name_cmp-total

pub signer_cmp-antisymmetric : IsAntisymmetric signer_cmp
signer_cmp-antisymmetric None None e = refl
signer_cmp-antisymmetric None (Some b) e = absurd cc
signer_cmp-antisymmetric (Some a) None e = absurd cc
signer_cmp-antisymmetric (Some a) (Some b) e = ap (λ (n : List _). Some n) (name_cmp-antisymmetric a b e)

-- two signers that compare as equal are the same signer
pub one_signer : (a b : Signer) → eq_by_cmp signer_cmp a b ≡ true → a ≡ b
one_signer a b e = signer_cmp-antisymmetric a b ((Equal-is (signer_cmp a b)).0 e)

pub same_signer : (a b : Signer) → a ≡ b → eq_by_cmp signer_cmp a b ≡ true
same_signer a b e = ap (λ (x : Signer). eq_by_cmp signer_cmp a x) (sym e) ∙ ap is_eq (tied_itself signer_cmp-total a)
