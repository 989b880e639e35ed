use Rattle.std.proofs.lemmas.Result.{err_from_is_err_and}
use Rattle.ndn_jobs.proofs.Spelling.{refused_part, wrong_in_memory}
use Rattle.ndn_jobs.proofs.job.Stamp.read_short.Goals as goal

pub returns-in_err-number : goal.returns-in_err-number
returns-in_err-number c =
    let p = err_from_is_err_and c.from_residual.result c.from_residual.ensures.1 in
    rw (p.1, p.2) (wrong_in_memory _ _ (λ stamp h. (h.time.0, h.time.1)) c.in_err-number.field-0.0 c.in_err-number.ensures)

pub returns-in_err-given : goal.returns-in_err-given
returns-in_err-given c =
    let p = err_from_is_err_and c.from_residual-in_err-given.result c.from_residual-in_err-given.ensures.1 in
    rw (p.1, p.2) (wrong_in_memory _ _ (λ stamp h. (h.nonce.0, h.nonce.1)) c.in_err-given.field-0.0 c.in_err-given.ensures)

pub returns-in_err-ports : goal.returns-in_err-ports
returns-in_err-ports c =
    let p = err_from_is_err_and c.from_residual-in_err-ports.result c.from_residual-in_err-ports.ensures.1 in
    rw (p.1, p.2) (wrong_in_memory _ _ (λ stamp h. (stamp.ports, h.ports)) c.in_err-ports.field-0.0 c.in_err-ports.ensures)

pub returns-in_err-read : goal.returns-in_err-read
returns-in_err-read c =
    let p = err_from_is_err_and c.from_residual-in_err-read.result c.from_residual-in_err-read.ensures.1 in
    rw (p.1, p.2) (refused_part _ _ (λ stamp h. (stamp.key, h.key)) c.in_err-read.field-0.0 c.in_err-read.ensures)
