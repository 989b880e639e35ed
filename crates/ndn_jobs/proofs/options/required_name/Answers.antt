use Rattle.std.proofs.Common.{sym}
use Rattle.std.proofs.lemmas.Result.{err_from_is_err_and}
use Rattle.ndn_names.specs.ReadsAs.{ReadsAs}
use Rattle.ndn_jobs.proofs.Spelling.{usage_refused, lacks, has_read}
use Rattle.ndn_jobs.proofs.options.required_name.Goals as goal

pub returns-in_err-required : goal.returns-in_err-required
returns-in_err-required c =
    let p = err_from_is_err_and c.from_residual.result c.from_residual.ensures.1 in
    rw (p.1, p.2) (usage_refused _ (lacks ReadsAs _ c.in_err-required.ensures.1) c.in_err-required.field-0.0 c.in_err-required.ensures.0)

pub returns : goal.returns
returns c = has_read ReadsAs _ c.in_ok-required.field-0.now (sym c.in_ok-required.ensures) c.parse_name.result c.parse_name.ensures
