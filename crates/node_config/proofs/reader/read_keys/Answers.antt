use Rattle.std.proofs.Common.{refl, inl, inr}
use Rattle.std.proofs.lemmas.Result.{err_from_is_err_and}
use Rattle.std.proofs.Common.{map}
use Rattle.node_config.specs.Plain.{plain_files, plain_listen, plain_peer}
use Rattle.node_config.proofs.Readings.{or_memory}
use Rattle.node_config.proofs.reader.read_keys.Goals as goal

pub returns-in_err-check_keys-clause-meets : goal.returns-in_err-check_keys-clause-meets
returns-in_err-check_keys-clause-meets c =
    let p = err_from_is_err_and c.from_residual.result c.from_residual.ensures.1 in
    rw (p.1, p.2) (inl (inl (c.in_err-check_keys.field-0.0, c.in_err-check_keys.ensures, refl)))

pub returns-in_err-listen-clause-meets : goal.returns-in_err-listen-clause-meets
returns-in_err-listen-clause-meets c =
    let p = err_from_is_err_and c.from_residual-in_err-listen.result c.from_residual-in_err-listen.ensures.1 in
    rw (p.1, p.2) (or_memory c.in_err-listen.field-0.0 (λ h. inr (tt, c.in_ok-check_keys.ensures, inl (c.in_err-listen.field-0.0, h, refl))) c.in_err-listen.ensures)

pub returns-in_err-files-clause-meets : goal.returns-in_err-files-clause-meets
returns-in_err-files-clause-meets c =
    let p = err_from_is_err_and c.from_residual-in_err-files.result c.from_residual-in_err-files.ensures.1 in
    rw (p.1, p.2) (or_memory c.in_err-files.field-0.0 (λ h. inr (tt, c.in_ok-check_keys.ensures, inr (plain_listen c.in_ok-listen.listen, c.in_ok-listen.ensures, inl (c.in_err-files.field-0.0, h, refl)))) c.in_err-files.ensures)

pub returns-in_err-prefix-clause-meets : goal.returns-in_err-prefix-clause-meets
returns-in_err-prefix-clause-meets c =
    let p = err_from_is_err_and c.from_residual-in_err-prefix.result c.from_residual-in_err-prefix.ensures.1 in
    rw (p.1, p.2) (or_memory c.in_err-prefix.field-0.0 (λ h. inr (tt, c.in_ok-check_keys.ensures, inr (plain_listen c.in_ok-listen.listen, c.in_ok-listen.ensures, inr (plain_files c.in_ok-files.files, c.in_ok-files.ensures, inl (c.in_err-prefix.field-0.0, h, refl))))) c.in_err-prefix.ensures)

pub returns-in_err-limits-clause-meets : goal.returns-in_err-limits-clause-meets
returns-in_err-limits-clause-meets c =
    let p = err_from_is_err_and c.from_residual-in_err-limits.result c.from_residual-in_err-limits.ensures.1 in
    rw (p.1, p.2) (inl (inr (tt, c.in_ok-check_keys.ensures, inr (plain_listen c.in_ok-listen.listen, c.in_ok-listen.ensures, inr (plain_files c.in_ok-files.files, c.in_ok-files.ensures, inr (c.in_ok-prefix.prefix, c.in_ok-prefix.ensures, inl (c.in_err-limits.field-0.0, c.in_err-limits.ensures, refl)))))))

pub returns-in_err-log-clause-meets : goal.returns-in_err-log-clause-meets
returns-in_err-log-clause-meets c =
    let p = err_from_is_err_and c.from_residual-in_err-log.result c.from_residual-in_err-log.ensures.1 in
    rw (p.1, p.2) (inl (inr (tt, c.in_ok-check_keys.ensures, inr (plain_listen c.in_ok-listen.listen, c.in_ok-listen.ensures, inr (plain_files c.in_ok-files.files, c.in_ok-files.ensures, inr (c.in_ok-prefix.prefix, c.in_ok-prefix.ensures, inr (c.in_ok-limits.limits, c.in_ok-limits.ensures, inl (c.in_err-log.field-0.0, c.in_err-log.ensures, refl))))))))

pub returns-in_err-peers-clause-meets : goal.returns-in_err-peers-clause-meets
returns-in_err-peers-clause-meets c =
    let p = err_from_is_err_and c.from_residual-in_err-peers.result c.from_residual-in_err-peers.ensures.1 in
    rw (p.1, p.2) (or_memory c.in_err-peers.field-0.0 (λ h. inr (tt, c.in_ok-check_keys.ensures, inr (plain_listen c.in_ok-listen.listen, c.in_ok-listen.ensures, inr (plain_files c.in_ok-files.files, c.in_ok-files.ensures, inr (c.in_ok-prefix.prefix, c.in_ok-prefix.ensures, inr (c.in_ok-limits.limits, c.in_ok-limits.ensures, inr (c.in_ok-log.log, c.in_ok-log.ensures, inl (c.in_err-peers.field-0.0, h, refl)))))))) c.in_err-peers.ensures.meets)

pub returns-clause-meets : goal.returns-clause-meets
returns-clause-meets c = inr (tt, c.in_ok-check_keys.ensures, inr (plain_listen c.in_ok-listen.listen, c.in_ok-listen.ensures, inr (plain_files c.in_ok-files.files, c.in_ok-files.ensures, inr (c.in_ok-prefix.prefix, c.in_ok-prefix.ensures, inr (c.in_ok-limits.limits, c.in_ok-limits.ensures, inr (c.in_ok-log.log, c.in_ok-log.ensures, inr (map plain_peer c.in_ok-peers.peers.items, c.in_ok-peers.ensures.meets, refl)))))))
