use Rattle.std.proofs.lemmas.Result.{err_from_is_err_and}
use Rattle.ndn_jobs.proofs.Spelling.{refused_part}
use Rattle.ndn_jobs.proofs.job.TagJob.read.Goals as goal

pub returns-in_err-required_octets : goal.returns-in_err-required_octets
returns-in_err-required_octets c =
    let p = err_from_is_err_and c.from_residual.result c.from_residual.ensures.1 in
    rw (p.1, p.2) (refused_part _ _ (λ job h. (job.octets, h.octets)) c.in_err-required_octets.field-0.0 c.in_err-required_octets.ensures)

pub returns-in_err-required_path : goal.returns-in_err-required_path
returns-in_err-required_path c =
    let p = err_from_is_err_and c.from_residual-in_err-required_path.result c.from_residual-in_err-required_path.ensures.1 in
    rw (p.1, p.2) (refused_part _ _ (λ job h. (job.keys, h.keys)) c.in_err-required_path.field-0.0 c.in_err-required_path.ensures)

pub returns-in_err-required_name : goal.returns-in_err-required_name
returns-in_err-required_name c =
    let p = err_from_is_err_and c.from_residual-in_err-required_name.result c.from_residual-in_err-required_name.ensures.1 in
    rw (p.1, p.2) (refused_part _ _ (λ job h. (job.key, h.key)) c.in_err-required_name.field-0.0 c.in_err-required_name.ensures)
