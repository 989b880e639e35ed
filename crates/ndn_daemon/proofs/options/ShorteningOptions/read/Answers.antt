use Rattle.std.proofs.lemmas.Result.{err_from_is_err_and}
use Rattle.ndn_daemon.proofs.Spelling.{refused_part}
use Rattle.ndn_daemon.proofs.options.ShorteningOptions.read.Goals as goal

pub returns-in_err-repo_of : goal.returns-in_err-repo_of
returns-in_err-repo_of c =
    let p = err_from_is_err_and c.from_residual-in_err-repo_of.result c.from_residual-in_err-repo_of.ensures.1 in
    rw (p.1, p.2) (refused_part _ _ (λ options h. (options.repo, h.repo)) c.in_err-repo_of.field-0.0 (rw (c.given_or-2.ensures, c.value-2.ensures) at c.in_err-repo_of.ensures))
