use Rattle.std.proofs.lemmas.Result.{err_from_is_err_and}
use Rattle.ndn_names.specs.ReadsAs.{ReadsAs}
use Rattle.ndn_jobs.proofs.Spelling.{refused_part, may_have_value}
use Rattle.ndn_jobs.proofs.options.name.Goals as goal

pub returns-in_err-parse_name-in-Some : goal.returns-in_err-parse_name-in-Some
returns-in_err-parse_name-in-Some c =
    let p = err_from_is_err_and c.from_residual.result c.from_residual.ensures.1 in
    rw (p.1, p.2) (refused_part _ _ (may_have_value ReadsAs _ c.in-Some.value.now c.in-Some.ensures) c.in_err-parse_name-in-Some.field-0.0 c.in_err-parse_name-in-Some.ensures)
