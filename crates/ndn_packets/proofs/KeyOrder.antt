-- Two keys that compare as equal are equal.
use Rattle.std.specs.Prelude.{◌≡◌, ◌↔◌}
use Rattle.std.proofs.Common.{subst}
use Rattle.std.specs.declared.cmp.Ordering.TheVariants.{Equal}
use Rattle.std.specs.Cmp.{tied_itself}
use Rattle.ndn_packets.specs.Key.{PlainKey, key_cmp, key_cmp-total, key_cmp-antisymmetric}

pub key_cmp-equal : (x y : PlainKey) → (key_cmp x y ≡ Equal) ↔ (x ≡ y)
key_cmp-equal x y = (key_cmp-antisymmetric x y, λ e. subst (λ (k : PlainKey). key_cmp x k ≡ Equal) e (tied_itself key_cmp-total x))
