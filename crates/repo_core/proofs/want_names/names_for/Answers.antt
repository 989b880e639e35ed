use Rattle.std.proofs.Common.{ap, sym, ◌∙◌}
use Rattle.std.specs.Ordering.{is_eq}
use Rattle.repo_core.proofs.Spares.{other_spare, no_spare}
use Rattle.repo_core.proofs.want_names.names_for.Goals as goal
use Rattle.repo_core.proofs.want_names.names_for.Goals.{in_default-via-in-Some+else-is_eq, in_default-via-in_default}
use Rattle.ndn_names.specs.View.{components}

pub returns-in_default-clause-spared : goal.returns-in_default-clause-spared
returns-in_default-clause-spared c = λ h.
    elim c.in_default.branch [
      | in_default-via-in-Some+else-is_eq w ↦ absurd
          (other_spare c.args.spare w.in-Some.names (components c.args.name) w.in-Some.is h (rw w.view.ensures at (ap is_eq (sym w.compare.ensures.exact) ∙ sym w.is_eq.ensures ∙ w.if-is_eq.false)))
      | in_default-via-in_default w ↦ absurd (no_spare c.args.spare (components c.args.name) w.in_default.is h)
    ]
