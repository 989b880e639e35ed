-- Equality of names and of wants.
use Rattle.std.proofs.Common.{◌≡◌, ℕ, Bool, true, List}
use Rattle.std.specs.Ordering.{eq_by_cmp}
use Rattle.std.specs.Cmp.{Equal-is}
use Rattle.ndn_tlv.specs.Element.{Field}
use Rattle.ndn_names.specs.Key.{name_cmp-antisymmetric}
use Rattle.ndn_names.specs.Order.{name_cmp}

pub same_name : (a b : List Field) → eq_by_cmp name_cmp a b ≡ true → a ≡ b
same_name a b e = name_cmp-antisymmetric a b ((Equal-is (name_cmp a b)).0 e)

pub same_want : (a b : (List Field × Bool) × ℕ) → eq_by_cmp name_cmp a.0.0 b.0.0 ≡ true → a.0.1 ≡ b.0.1 → a.1 ≡ b.1 → a ≡ b
same_want a b name flag deadline =
    let names : a.0.0 ≡ b.0.0 = same_name a.0.0 b.0.0 name in
    λ i. ((names i, flag i), deadline i)
