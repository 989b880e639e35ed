use Rattle.std.proofs.lemmas.Result.{err_from_is_err_and}
use Rattle.ndn_jobs.proofs.Spelling.{refused_part, wrong_in_memory}
use Rattle.ndn_jobs.proofs.job.AskJob.read_peek.Goals as goal

pub returns-in_err-given : goal.returns-in_err-given
returns-in_err-given c =
    let p = err_from_is_err_and c.from_residual.result c.from_residual.ensures.1 in
    rw (p.1, p.2) (wrong_in_memory _ _ (λ job h. (h.plain.nonce.0, h.plain.nonce.1)) c.in_err-given.field-0.0 c.in_err-given.ensures)

pub returns-in_err-ports : goal.returns-in_err-ports
returns-in_err-ports c =
    let p = err_from_is_err_and c.from_residual-in_err-ports.result c.from_residual-in_err-ports.ensures.1 in
    rw (p.1, p.2) (wrong_in_memory _ _ (λ job h. (job.ports, h.ports)) c.in_err-ports.field-0.0 c.in_err-ports.ensures)

pub returns-in_err-retries : goal.returns-in_err-retries
returns-in_err-retries c =
    let p = err_from_is_err_and c.from_residual-in_err-retries.result c.from_residual-in_err-retries.ensures.1 in
    rw (p.1, p.2) (wrong_in_memory _ _ (λ job h. (h.retries.0, h.retries.1)) c.in_err-retries.field-0.0 c.in_err-retries.ensures)

pub returns-in_err-required_name : goal.returns-in_err-required_name
returns-in_err-required_name c =
    let p = err_from_is_err_and c.from_residual-in_err-required_name.result c.from_residual-in_err-required_name.ensures.1 in
    rw (p.1, p.2) (refused_part _ _ (λ job h. (job.interest.name, h.name)) c.in_err-required_name.field-0.0 c.in_err-required_name.ensures)
