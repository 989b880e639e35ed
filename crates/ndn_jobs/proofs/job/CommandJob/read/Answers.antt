use Rattle.std.proofs.lemmas.Result.{err_from_is_err_and}
use Rattle.ndn_jobs.proofs.Spelling.{refused_part}
use Rattle.ndn_jobs.proofs.job.CommandJob.read.Goals as goal

pub returns-in_err-required_name : goal.returns-in_err-required_name
returns-in_err-required_name c =
    let p = err_from_is_err_and c.from_residual.result c.from_residual.ensures.1 in
    rw (p.1, p.2) (refused_part _ _ (λ job h. (job.name, h.name)) c.in_err-required_name.field-0.0 c.in_err-required_name.ensures)

pub returns-in_err-parameters : goal.returns-in_err-parameters
returns-in_err-parameters c =
    let p = err_from_is_err_and c.from_residual-in_err-parameters.result c.from_residual-in_err-parameters.ensures.1 in
    rw (p.1, p.2) (refused_part _ _ (λ job h. (job.parameters, h.parameters)) c.in_err-parameters.field-0.0 c.in_err-parameters.ensures)

pub returns-in_err-read : goal.returns-in_err-read
returns-in_err-read c =
    let p = err_from_is_err_and c.from_residual-in_err-read.result c.from_residual-in_err-read.ensures.1 in
    rw (p.1, p.2) (refused_part _ _ (λ job h. (job.stamp, h.stamp)) c.in_err-read.field-0.0 c.in_err-read.ensures)
