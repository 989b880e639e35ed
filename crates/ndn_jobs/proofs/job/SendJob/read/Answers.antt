use Rattle.std.proofs.lemmas.Result.{err_from_is_err_and}
use Rattle.ndn_jobs.proofs.Spelling.{refused_part, wrong_in_memory}
use Rattle.ndn_jobs.proofs.job.SendJob.read.Goals as goal

pub returns-in_err-packet : goal.returns-in_err-packet
returns-in_err-packet c =
    let p = err_from_is_err_and c.from_residual.result c.from_residual.ensures.1 in
    rw (p.1, p.2) (refused_part _ _ (λ job h. (job.packet, h.packet)) c.in_err-packet.field-0.0 c.in_err-packet.ensures)

pub returns-in_err-required_endpoint : goal.returns-in_err-required_endpoint
returns-in_err-required_endpoint c =
    let p = err_from_is_err_and c.from_residual-in_err-required_endpoint.result c.from_residual-in_err-required_endpoint.ensures.1 in
    rw (p.1, p.2) (wrong_in_memory _ _ (λ job h. (job.to, h.to)) c.in_err-required_endpoint.field-0.0 c.in_err-required_endpoint.ensures)
