use Rattle.std.proofs.lemmas.Result.{err_from_is_err_and}
use Rattle.ndn_jobs.specs.Options.{SpellsStrategy}
use Rattle.ndn_jobs.proofs.Spelling.{refused_part, may_have_value}
use Rattle.ndn_jobs.proofs.options.strategy.Goals as goal

pub returns-in_err-parse_strategy-in-Some : goal.returns-in_err-parse_strategy-in-Some
returns-in_err-parse_strategy-in-Some c =
    let p = err_from_is_err_and c.from_residual.result c.from_residual.ensures.1 in
    rw (p.1, p.2) (refused_part _ _ (may_have_value SpellsStrategy _ c.in-Some.value.now c.in-Some.ensures) c.in_err-parse_strategy-in-Some.field-0.0 (rw c.strategy_uri.ensures at c.in_err-parse_strategy-in-Some.ensures))
