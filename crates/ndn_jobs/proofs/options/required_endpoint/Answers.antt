use Rattle.std.proofs.lemmas.Result.{err_from_is_err_and}
use Rattle.ndn_jobs.specs.Endpoint.{IsEndpoint}
use Rattle.ndn_jobs.proofs.Spelling.{usage_wrong, lacks}
use Rattle.ndn_jobs.proofs.options.required_endpoint.Goals as goal

pub returns-in_err-required : goal.returns-in_err-required
returns-in_err-required c =
    let p = err_from_is_err_and c.from_residual.result c.from_residual.ensures.1 in
    rw (p.1, p.2) (usage_wrong _ (lacks IsEndpoint _ c.in_err-required.ensures.1) c.in_err-required.field-0.0 c.in_err-required.ensures.0)
