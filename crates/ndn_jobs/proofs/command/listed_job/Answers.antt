use Rattle.std.proofs.Common.{sym, ◌∙◌}
use Rattle.std.proofs.lemmas.Result.{err_from_is_err_and}
use Rattle.ndn_jobs.specs.Options.{rows_in}
use Rattle.ndn_jobs.proofs.Spelling.{refused_part}
use Rattle.ndn_jobs.proofs.Jobs.{a_list, a_short}
use Rattle.ndn_jobs.proofs.command.listed_job.Goals as goal

pub returns-in_err-read_list : goal.returns-in_err-read_list
returns-in_err-read_list c =
    let p = err_from_is_err_and c.from_residual.result c.from_residual.ensures.1 in
    rw (p.1, p.2) (refused_part _ _ (a_list c.args.now c.args.seed.now c.args.name.now (rows_in c.args.options.now) (sym c.is_list.ensures ∙ c.if-is_list.true)) c.in_err-read_list.field-0.0 c.in_err-read_list.ensures)

pub returns-in_err-read_short : goal.returns-in_err-read_short
returns-in_err-read_short c =
    let p = err_from_is_err_and c.from_residual-in_err-read_short.result c.from_residual-in_err-read_short.ensures.1 in
    rw (p.1, p.2) (refused_part _ _ (a_short c.args.now c.args.seed.now c.args.name.now (rows_in c.args.options.now) (sym c.is_list.ensures ∙ c.if-is_list.false)) c.in_err-read_short.field-0.0 c.in_err-read_short.ensures)
