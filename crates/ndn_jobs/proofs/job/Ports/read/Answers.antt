use Rattle.std.proofs.lemmas.Result.{err_from_is_err_and}
use Rattle.ndn_jobs.proofs.Spelling.{wrong_part}
use Rattle.ndn_jobs.proofs.job.Ports.read.Goals as goal

pub returns-in_err-to : goal.returns-in_err-to
returns-in_err-to c =
    let p = err_from_is_err_and c.from_residual.result c.from_residual.ensures.1 in
    rw (p.1, p.2) (wrong_part _ _ (λ ports h. (ports.to, h.to)) c.in_err-to.field-0.0 c.in_err-to.ensures)

pub returns-in_err-from : goal.returns-in_err-from
returns-in_err-from c =
    let p = err_from_is_err_and c.from_residual-in_err-from.result c.from_residual-in_err-from.ensures.1 in
    rw (p.1, p.2) (wrong_part _ _ (λ ports h. (ports.from, h.from)) c.in_err-from.field-0.0 c.in_err-from.ensures)
