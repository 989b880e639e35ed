use Rattle.std.proofs.Common.{◌≡◌, ◌<◌, ℕ, List, true, sym, subst, ap, ◌∙◌}
use Rattle.std.specs.Prelude.{Option, IfSome}
use Rattle.std.specs.FinMap as map
use Rattle.sha2.specs.Sha256.{sha256}
use Rattle.ndn_tlv.specs.Element.{Field}
use Rattle.ndn_names.specs.View.{components}
use Rattle.repo_core.specs.Objects.{AreObjects, IsObject, Objects}
use Rattle.repo_core.specs.Repo.{Held, IsWithinLimits}
use Rattle.repo_core.specs.Wants.{Wants, is_wanted, unfilled}
use Rattle.repo_core.proofs.Limits.{stored_within}
use Rattle.repo_core.proofs.Stored.{data_object, put_objects}
use Rattle.repo_core.proofs.repo.Repo.offer.Goals as goal

pub invariant_of-self-2 : goal.invariant_of-self-2
invariant_of-self-2 c =
    let s : Held = record { objects = c.self.inside.objects.table; wants = c.self.inside.wants } in
    let name = components c.args.packet.now.name in
    let digest = sha256 c.args.packet.now.whole.now in
    let object = c.in_ok-object.object in
    let wanted : is_wanted name digest s.wants ≡ true = sym c.are_filled_by.ensures ∙ c.if-not-are_filled_by.false in
    let stored : c.put.new.self.table ≡ map.insert s.objects object.0 object.1 =
    c.put.ensures ∙ ap (λ (o : Objects). map.insert o object.0 object.1) c.reserve.ensures.table in (
      tt,
      subst (λ (o : Option (List Field × List ℕ)). IfSome o (λ x. 0 < c.put.new.self.room)) (sym c.take-spare.ensures.after) tt,
      subst (λ (w : Wants). IsWithinLimits (record { objects = c.put.new.self.table; wants = w })) (sym c.fill.ensures)
          (subst (λ (o : Objects). IsWithinLimits (record { objects = o; wants = unfilled name digest s.wants })) (sym stored)
          (stored_within s c.self.invariant.2 name digest object.0 object.1 wanted)),
      subst AreObjects (sym stored) (put_objects s.objects object.0 object.1
          (subst (λ (o : List Field × List ℕ). IsObject o.0 o.1) (sym c.in_ok-object.ensures.ok) (data_object c.args.packet.now)) c.self.invariant.3),
    )
