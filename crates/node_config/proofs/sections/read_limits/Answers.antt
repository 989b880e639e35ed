use Rattle.std.proofs.Common.{refl, inl, inr}
use Rattle.std.proofs.lemmas.Result.{err_from_is_err_and}
use Rattle.info_rules.specs.Shown.{keys_of}
use Rattle.node_config.proofs.sections.read_limits.Goals as goal

pub returns-in_err-cache : goal.returns-in_err-cache
returns-in_err-cache c =
    let p = err_from_is_err_and c.from_residual.result c.from_residual.ensures.1 in
    rw (p.1, p.2) (inl (c.in_err-cache.field-0.0, c.in_err-cache.ensures, refl))

pub returns-in_err-keys : goal.returns-in_err-keys
returns-in_err-keys c =
    let p = err_from_is_err_and c.from_residual-in_err-keys.result c.from_residual-in_err-keys.ensures.1 in
    rw (p.1, p.2) (inr (c.in_ok-cache.cache, c.in_ok-cache.ensures, inl (c.in_err-keys.field-0.0, c.in_err-keys.ensures, refl)))

pub returns-in_err-idle : goal.returns-in_err-idle
returns-in_err-idle c =
    let p = err_from_is_err_and c.from_residual-in_err-idle.result c.from_residual-in_err-idle.ensures.1 in
    rw (p.1, p.2) (inr (c.in_ok-cache.cache, c.in_ok-cache.ensures, inr (keys_of c.in_ok-keys.keys, c.in_ok-keys.ensures, inl (c.in_err-idle.field-0.0, c.in_err-idle.ensures, refl))))

pub returns-in_err-turns : goal.returns-in_err-turns
returns-in_err-turns c =
    let p = err_from_is_err_and c.from_residual-in_err-turns.result c.from_residual-in_err-turns.ensures.1 in
    rw (p.1, p.2) (inr (c.in_ok-cache.cache, c.in_ok-cache.ensures, inr (keys_of c.in_ok-keys.keys, c.in_ok-keys.ensures, inr (c.in_ok-idle.idle, c.in_ok-idle.ensures, inl (c.in_err-turns.field-0.0, c.in_err-turns.ensures, refl)))))

pub returns : goal.returns
returns c = inr (c.in_ok-cache.cache, c.in_ok-cache.ensures, inr (keys_of c.in_ok-keys.keys, c.in_ok-keys.ensures, inr (c.in_ok-idle.idle, c.in_ok-idle.ensures, inr (c.in_ok-turns.turns, c.in_ok-turns.ensures, refl))))
