use Rattle.std.proofs.lemmas.Result.{err_from_is_err_and}
use Rattle.ndn_jobs.proofs.Spelling.{wrong_in_memory}
use Rattle.ndn_jobs.proofs.ShortForms.{short_read}
use Rattle.ndn_jobs.proofs.job.CommandJob.read_short.Goals as goal

pub returns-in_err-action : goal.returns-in_err-action
returns-in_err-action c =
    let p = err_from_is_err_and c.from_residual.result c.from_residual.ensures.1 in
    rw (p.1, p.2) (wrong_in_memory _ _ (λ job h. (h.0, h.1)) c.in_err-action.field-0.0 c.in_err-action.ensures)

pub returns : goal.returns
returns c = short_read c.args.now c.args.seed.now c.args.subcommand.now _ _ c.in_ok-action.action c.in_ok-action.ensures c.read_form.result c.read_form.ensures
