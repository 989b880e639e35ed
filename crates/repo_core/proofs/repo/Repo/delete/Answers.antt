use Rattle.std.proofs.Common.{◌<◌, ◌≤◌, ℕ, List, arith, sym, subst}
use Rattle.std.specs.Prelude.{Option, None, Some, IfSome}
use Rattle.std.specs.FinMap as map
use Rattle.ndn_tlv.specs.Element.{Field}
use Rattle.ndn_names.specs.View.{components}
use Rattle.repo_core.specs.Objects.{AreObjects, Objects}
use Rattle.repo_core.specs.Repo.{Held, IsWithinLimits}
use Rattle.repo_core.specs.Wants.{Wants}
use Rattle.repo_core.proofs.Limits.{removed_within}
use Rattle.repo_core.proofs.Stored.{removed_objects}
use Rattle.repo_core.proofs.repo.Repo.delete.Goals as goal

-- if the spare capacity does not decrease, it is still enough for a prepared object
still_room : (old new : ℕ) (o : Option (List Field × List ℕ)) → old ≤ new → IfSome o (λ _. 0 < old) → IfSome o (λ _. 0 < new)
still_room old new None le room = tt
still_room old new (Some object) le room = omega (arith, le, room)

pub invariant_of-self : goal.invariant_of-self
invariant_of-self c =
    let s : Held = record { objects = c.self.inside.objects.table; wants = c.self.inside.wants } in
    let name = components c.args.asked.name in
    let flag = c.args.asked.can_be_prefix in (
      c.self.invariant.0,
      still_room c.self.inside.objects.room c.remove.new.self.room c.self.inside.object c.remove.ensures.room c.self.invariant.1,
      subst (λ (w : Wants). IsWithinLimits (record { objects = c.remove.new.self.table; wants = w })) (sym c.remove-2.ensures)
          (subst (λ (o : Objects). IsWithinLimits (record { objects = o; wants = map.remove s.wants (name, flag) })) (sym c.remove.ensures.table)
          (removed_within s c.self.invariant.2 name flag (name, flag))),
      subst AreObjects (sym c.remove.ensures.table) (removed_objects name flag s.objects c.self.invariant.3),
    )
