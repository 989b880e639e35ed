use Rattle.std.proofs.lemmas.Result.{err_from_is_err_and}
use Rattle.ndn_daemon.proofs.Spelling.{refused_part}
use Rattle.ndn_daemon.proofs.options.Options.read.Goals as goal

pub returns-in_err-path_of : goal.returns-in_err-path_of
returns-in_err-path_of c =
    let p = err_from_is_err_and c.from_residual.result c.from_residual.ensures.1 in
    rw (p.1, p.2) (refused_part _ _ (λ options h. (options.rules, h.rules)) c.in_err-path_of.field-0.0 (rw c.value.ensures at c.in_err-path_of.ensures))

pub returns-in_err-path_of-2 : goal.returns-in_err-path_of-2
returns-in_err-path_of-2 c =
    let p = err_from_is_err_and c.from_residual-in_err-path_of-2.result c.from_residual-in_err-path_of-2.ensures.1 in
    rw (p.1, p.2) (refused_part _ _ (λ options h. (options.keys, h.keys)) c.in_err-path_of-2.field-0.0 (rw c.value-2.ensures at c.in_err-path_of-2.ensures))

pub returns-in_err-repo_of : goal.returns-in_err-repo_of
returns-in_err-repo_of c =
    let p = err_from_is_err_and c.from_residual-in_err-repo_of.result c.from_residual-in_err-repo_of.ensures.1 in
    rw (p.1, p.2) (refused_part _ _ (λ options h. (options.repo, h.repo)) c.in_err-repo_of.field-0.0 (rw (c.given_or.ensures, c.value-3.ensures) at c.in_err-repo_of.ensures))
