use Rattle.std.proofs.Common.{◌≡◌, true, false, sym, ◌∙◌}
use Rattle.std.proofs.lemmas.Result.{err_from_is_err_and}
use Rattle.ndn_jobs.proofs.Spelling.{refused_part, usage_refused}
use Rattle.ndn_jobs.proofs.job.CommandJob.read_form.Goals as goal

pub returns-in_err-check_fit : goal.returns-in_err-check_fit
returns-in_err-check_fit c =
    let p = err_from_is_err_and c.from_residual.result c.from_residual.ensures.1 in
    rw (p.1, p.2) (usage_refused _ (λ job h. let no : true ≡ false = sym h.fitting ∙ c.in_err-check_fit.ensures.1 in absurd cc) c.in_err-check_fit.field-0.0 c.in_err-check_fit.ensures.0)

pub returns-in_err-short_parameters : goal.returns-in_err-short_parameters
returns-in_err-short_parameters c =
    let p = err_from_is_err_and c.from_residual-in_err-short_parameters.result c.from_residual-in_err-short_parameters.ensures.1 in
    rw (p.1, p.2) (refused_part _ _ (λ job h. (job.parameters, h.parameters)) c.in_err-short_parameters.field-0.0 c.in_err-short_parameters.ensures)

pub returns-in_err-read_short : goal.returns-in_err-read_short
returns-in_err-read_short c =
    let p = err_from_is_err_and c.from_residual-in_err-read_short.result c.from_residual-in_err-read_short.ensures.1 in
    rw (p.1, p.2) (refused_part _ _ (λ job h. (job.stamp, h.stamp)) c.in_err-read_short.field-0.0 c.in_err-read_short.ensures)
