use Rattle.std.proofs.lemmas.Result.{err_from_is_err_and}
use Rattle.ndn_jobs.proofs.Spelling.{usage_refused, refused_part}
use Rattle.ndn_jobs.proofs.RepositoryForms.{no_room}
use Rattle.ndn_jobs.proofs.repository_form.repository_name.Goals as goal

pub returns-in_err-verb : goal.returns-in_err-verb
returns-in_err-verb c =
    let p = err_from_is_err_and c.from_residual.result c.from_residual.ensures.1 in
    rw (p.1, p.2) (usage_refused _ (λ name h. c.in_err-verb.ensures.1 h.verb h.named) c.in_err-verb.field-0.0 c.in_err-verb.ensures.0)

pub returns-in_err-name : goal.returns-in_err-name
returns-in_err-name c =
    let p = err_from_is_err_and c.from_residual-in_err-name.result c.from_residual-in_err-name.ensures.1 in
    rw (p.1, p.2) (refused_part _ _ (λ name h. (h.prefix, h.placed)) c.in_err-name.field-0.0 c.in_err-name.ensures)

pub returns : goal.returns
returns c =
    rw c.refusal.ensures (no_room _ c.in_ok-name.name c.as_bytes.result.now c.in-Err.fault c.in_ok-name.ensures c.in-Err.ensures.exact c.in_default.not-Memory)
