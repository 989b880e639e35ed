use Rattle.std.proofs.Common.{sym, ◌∙◌}
use Rattle.replay_guard.specs.Guard.{signer_of}
use Rattle.replay_guard.proofs.Signers.{one_signer}
use Rattle.replay_guard.proofs.Rows.{other_spare}
use Rattle.replay_guard.proofs.guard.key_in.Goals as goal
use Rattle.replay_guard.proofs.guard.key_in.Goals.{in_default-via-in-Some+else-is_key, in_default-via-in_default}

pub returns-in-Some-clause-ok : goal.returns-in-Some-clause-ok
returns-in-Some-clause-ok c = sym (one_signer (signer_of c.args.signer) c.in-Some.key (sym c.is_key.ensures ∙ c.if-is_key.true))

pub returns-in_default-clause-spared : goal.returns-in_default-clause-spared
returns-in_default-clause-spared c = λ h.
    elim c.in_default.branch [
      | in_default-via-in-Some+else-is_key w ↦ absurd (other_spare c.args.spare w.in-Some.key (signer_of c.args.signer) w.is_key.result w.in-Some.is h w.is_key.ensures w.if-is_key.false)
      | in_default-via-in_default w ↦ absurd (w.in_default.not-Some (signer_of c.args.signer) h)
    ]
