use Rattle.std.proofs.lemmas.Result.{err_from_is_err_and}
use Rattle.ndn_jobs.proofs.Spelling.{refused_part}
use Rattle.ndn_jobs.proofs.job.KeyJob.read.Goals as goal

pub returns-in_err-required_path : goal.returns-in_err-required_path
returns-in_err-required_path c =
    let p = err_from_is_err_and c.from_residual.result c.from_residual.ensures.1 in
    rw (p.1, p.2) (refused_part _ _ (λ job h. (job.file, h.file)) c.in_err-required_path.field-0.0 c.in_err-required_path.ensures)
