use Rattle.std.proofs.lemmas.Result.{err_from_is_err_and}
use Rattle.ndn_jobs.proofs.Spelling.{refused_part}
use Rattle.ndn_jobs.proofs.job.LinkJob.read.Goals as goal

pub returns-in_err-read : goal.returns-in_err-read
returns-in_err-read c =
    let p = err_from_is_err_and c.from_residual.result c.from_residual.ensures.1 in
    rw (p.1, p.2) (refused_part _ _ (λ job h. (job.interest, h.interest)) c.in_err-read.field-0.0 c.in_err-read.ensures)

pub returns-in_err-token : goal.returns-in_err-token
returns-in_err-token c =
    let p = err_from_is_err_and c.from_residual-in_err-token.result c.from_residual-in_err-token.ensures.1 in
    rw (p.1, p.2) (refused_part _ _ (λ job h. (job.token, h.token)) c.in_err-token.field-0.0 c.in_err-token.ensures)
