use Rattle.std.proofs.Common.{sym, subst}
use Rattle.repo_core.specs.Repo.{Held, IsWithinLimits}
use Rattle.repo_core.specs.Wants.{Wants}
use Rattle.repo_core.proofs.Limits.{time_within}
use Rattle.repo_core.proofs.repo.Repo.expire.Goals as goal

pub invariant_of-self : goal.invariant_of-self
invariant_of-self c =
    let s : Held = record { objects = c.self.inside.objects.table; wants = c.self.inside.wants } in (
      c.self.invariant.0,
      c.self.invariant.1,
      subst (λ (w : Wants). IsWithinLimits (record { objects = c.self.inside.objects.table; wants = w })) (sym c.expire.ensures)
          (time_within s c.self.invariant.2 c.args.now),
      c.self.invariant.3,
    )
