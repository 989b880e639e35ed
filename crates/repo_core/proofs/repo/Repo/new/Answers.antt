use Rattle.std.proofs.Common.{◌≡◌, ℕ, ap, subst, sym, ◌∙◌, arith}
use Rattle.std.specs.FinMap as map
use Rattle.std.specs.FinMap.{len-empty}
use Rattle.ndn_names.specs.Order.{name_cmp}
use Rattle.repo_core.specs.Wants.{want_cmp}
use Rattle.repo_core.specs.Objects.{AreObjects}
use Rattle.repo_core.proofs.Stored.{none_are_objects}
use Rattle.repo_core.proofs.repo.Repo.new.Goals as goal

pub invariant_of-result : goal.invariant_of-result
invariant_of-result c =
    let wants : map.len c.in_ok-wants.wants ≡ 0 = ap (λ w. map.len w) c.in_ok-wants.ensures ∙ len-empty want_cmp ℕ in
    let objects = ap (λ o. map.len o) c.new-2.ensures ∙ len-empty name_cmp _ in
    (tt, tt, (omega (arith, wants), omega (arith, wants, objects)), subst AreObjects (sym c.new-2.ensures) none_are_objects)
