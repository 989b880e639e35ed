use Rattle.std.proofs.lemmas.Result.{err_from_is_err_and}
use Rattle.ndn_jobs.proofs.Spelling.{refused_part}
use Rattle.ndn_jobs.proofs.job.parameters.Goals as goal

pub returns-in_err-required_name : goal.returns-in_err-required_name
returns-in_err-required_name c =
    let p = err_from_is_err_and c.from_residual.result c.from_residual.ensures.1 in
    rw (p.1, p.2) (refused_part _ _ (λ job h. (job.name, h.name)) c.in_err-required_name.field-0.0 c.in_err-required_name.ensures)

pub returns-in_err-name : goal.returns-in_err-name
returns-in_err-name c =
    let p = err_from_is_err_and c.from_residual-in_err-name.result c.from_residual-in_err-name.ensures.1 in
    rw (p.1, p.2) (refused_part _ _ (λ job h. (job.strategy, h.strategy)) c.in_err-name.field-0.0 c.in_err-name.ensures)
