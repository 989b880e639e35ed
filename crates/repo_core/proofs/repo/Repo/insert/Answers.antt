use Rattle.std.proofs.Common.{◌≡◌, List, true, false, sym, subst, ap, ◌∙◌, inl, inr}
use Rattle.std.specs.Prelude.{◌⊎◌}
use Rattle.std.specs.FinMap as map
use Rattle.ndn_tlv.specs.Element.{Field}
use Rattle.repo_core.specs.Repo.{Held, IsWithinLimits, is_repo_full}
use Rattle.repo_core.specs.Wants.{WantKey, Wants}
use Rattle.repo_core.proofs.Limits.{put_within}
use Rattle.repo_core.proofs.repo.Repo.insert.Goals as goal
use Rattle.repo_core.proofs.repo.Repo.insert.Goals.{else-not-contains-via-then-not-contains+else-is_full, else-not-contains-via-else-not-contains}

pub invariant_of-self : goal.invariant_of-self
invariant_of-self c =
    let s : Held = record { objects = c.self.inside.objects.table; wants = c.self.inside.wants } in
    let flag = c.args.asked.can_be_prefix in
    let key : WantKey = (c.in_ok-names.names.key, flag) in
    let decided : (map.contains_key s.wants key ≡ true) ⊎ (is_repo_full s ≡ false) =
    elim c.else-not-contains.branch [
      | else-not-contains-via-then-not-contains+else-is_full w ↦
          inr (ap (λ r. is_repo_full r.held) c.self.view_is ∙ sym w.is_full.ensures ∙ w.if-is_full.false)
      | else-not-contains-via-else-not-contains w ↦
          inl (ap (λ (n : List Field). map.contains_key s.wants (n, flag)) c.in_ok-names.ensures.key ∙ sym c.contains.ensures ∙ w.if-not-contains.false)
    ] in (
      c.self.invariant.0,
      c.self.invariant.1,
      subst (λ (w : Wants). IsWithinLimits (record { objects = c.self.inside.objects.table; wants = w })) (sym c.put.ensures)
          (put_within s c.self.invariant.2 key c.saturating_add-deadline.result decided),
      c.self.invariant.3,
    )
