use Rattle.std.proofs.lemmas.Result.{err_from_is_err_and}
use Rattle.ndn_jobs.proofs.Spelling.{refused_part}
use Rattle.ndn_jobs.proofs.job.CommandJob.read_repository.Goals as goal

pub returns-in_err-repository_name : goal.returns-in_err-repository_name
returns-in_err-repository_name c =
    let p = err_from_is_err_and c.from_residual.result c.from_residual.ensures.1 in
    rw (p.1, p.2) (refused_part _ _ (λ job h. (job.name, h.name)) c.in_err-repository_name.field-0.0 c.in_err-repository_name.ensures)

pub returns-in_err-repository_parameters : goal.returns-in_err-repository_parameters
returns-in_err-repository_parameters c =
    let p = err_from_is_err_and c.from_residual-in_err-repository_parameters.result c.from_residual-in_err-repository_parameters.ensures.1 in
    rw (p.1, p.2) (refused_part _ _ (λ job h. (job.parameters, h.parameters)) c.in_err-repository_parameters.field-0.0 c.in_err-repository_parameters.ensures)

pub returns-in_err-read_short : goal.returns-in_err-read_short
returns-in_err-read_short c =
    let p = err_from_is_err_and c.from_residual-in_err-read_short.result c.from_residual-in_err-read_short.ensures.1 in
    rw (p.1, p.2) (refused_part _ _ (λ job h. (job.stamp, h.stamp)) c.in_err-read_short.field-0.0 c.in_err-read_short.ensures)
