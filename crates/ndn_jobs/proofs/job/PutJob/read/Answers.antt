use Rattle.std.proofs.lemmas.Result.{err_from_is_err_and}
use Rattle.ndn_jobs.proofs.Spelling.{refused_part, wrong_in_memory}
use Rattle.ndn_jobs.proofs.job.PutJob.read.Goals as goal

pub returns-in_err-to : goal.returns-in_err-to
returns-in_err-to c =
    let p = err_from_is_err_and c.from_residual.result c.from_residual.ensures.1 in
    rw (p.1, p.2) (wrong_in_memory _ _ (λ job h. (job.to, h.to)) c.in_err-to.field-0.0 c.in_err-to.ensures)

pub returns-in_err-from : goal.returns-in_err-from
returns-in_err-from c =
    let p = err_from_is_err_and c.from_residual-in_err-from.result c.from_residual-in_err-from.ensures.1 in
    rw (p.1, p.2) (wrong_in_memory _ _ (λ job h. (job.from, h.from)) c.in_err-from.field-0.0 c.in_err-from.ensures)

pub returns-in_err-retries : goal.returns-in_err-retries
returns-in_err-retries c =
    let p = err_from_is_err_and c.from_residual-in_err-retries.result c.from_residual-in_err-retries.ensures.1 in
    rw (p.1, p.2) (wrong_in_memory _ _ (λ job h. (h.retries.0, h.retries.1)) c.in_err-retries.field-0.0 c.in_err-retries.ensures)

pub returns-in_err-required_path : goal.returns-in_err-required_path
returns-in_err-required_path c =
    let p = err_from_is_err_and c.from_residual-in_err-required_path.result c.from_residual-in_err-required_path.ensures.1 in
    rw (p.1, p.2) (refused_part _ _ (λ job h. (job.file, h.file)) c.in_err-required_path.field-0.0 c.in_err-required_path.ensures)

pub returns-in_err-required_name : goal.returns-in_err-required_name
returns-in_err-required_name c =
    let p = err_from_is_err_and c.from_residual-in_err-required_name.result c.from_residual-in_err-required_name.ensures.1 in
    rw (p.1, p.2) (refused_part _ _ (λ job h. (job.name, h.name)) c.in_err-required_name.field-0.0 c.in_err-required_name.ensures)

pub returns-in_err-required_name-2 : goal.returns-in_err-required_name-2
returns-in_err-required_name-2 c =
    let p = err_from_is_err_and c.from_residual-in_err-required_name-2.result c.from_residual-in_err-required_name-2.ensures.1 in
    rw (p.1, p.2) (refused_part _ _ (λ job h. (job.repository, h.repository)) c.in_err-required_name-2.field-0.0 c.in_err-required_name-2.ensures)

pub returns-in_err-read : goal.returns-in_err-read
returns-in_err-read c =
    let p = err_from_is_err_and c.from_residual-in_err-read.result c.from_residual-in_err-read.ensures.1 in
    rw (p.1, p.2) (refused_part _ _ (λ job h. (job.key, h.key)) c.in_err-read.field-0.0 c.in_err-read.ensures)
