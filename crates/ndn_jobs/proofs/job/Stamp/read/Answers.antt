use Rattle.std.proofs.lemmas.Result.{err_from_is_err_and}
use Rattle.ndn_jobs.proofs.Spelling.{refused_part, wrong_in_memory}
use Rattle.ndn_jobs.proofs.job.Stamp.read.Goals as goal

pub returns-in_err-required_nonce : goal.returns-in_err-required_nonce
returns-in_err-required_nonce c =
    let p = err_from_is_err_and c.from_residual.result c.from_residual.ensures.1 in
    rw (p.1, p.2) (wrong_in_memory _ _ (λ job h. (job.nonce, h.nonce)) c.in_err-required_nonce.field-0.0 c.in_err-required_nonce.ensures)

pub returns-in_err-required_number : goal.returns-in_err-required_number
returns-in_err-required_number c =
    let p = err_from_is_err_and c.from_residual-in_err-required_number.result c.from_residual-in_err-required_number.ensures.1 in
    rw (p.1, p.2) (wrong_in_memory _ _ (λ job h. (job.time, h.time)) c.in_err-required_number.field-0.0 c.in_err-required_number.ensures)

pub returns-in_err-read : goal.returns-in_err-read
returns-in_err-read c =
    let p = err_from_is_err_and c.from_residual-in_err-read.result c.from_residual-in_err-read.ensures.1 in
    rw (p.1, p.2) (refused_part _ _ (λ job h. (job.key, h.key)) c.in_err-read.field-0.0 c.in_err-read.ensures)
