use Rattle.std.proofs.Common.{refl, inl, inr}
use Rattle.std.proofs.lemmas.Result.{err_from_is_err_and}
use Rattle.info_rules.specs.Shown.{keys_of}
use Rattle.node_config.proofs.sections.block_with.Goals as goal

pub returns-in_err-keys : goal.returns-in_err-keys
returns-in_err-keys c =
    let p = err_from_is_err_and c.from_residual.result c.from_residual.ensures.1 in
    rw (p.1, p.2) (inl (c.in_err-keys.field-0.0, c.in_err-keys.ensures, refl))

pub returns-in_err-check_keys : goal.returns-in_err-check_keys
returns-in_err-check_keys c =
    let p = err_from_is_err_and c.from_residual-in_err-check_keys.result c.from_residual-in_err-check_keys.ensures.1 in
    rw (p.1, p.2) (inr (keys_of c.in_ok-keys.keys, c.in_ok-keys.ensures, inl (c.in_err-check_keys.field-0.0, c.in_err-check_keys.ensures, refl)))

pub returns : goal.returns
returns c = inr (keys_of c.in_ok-keys.keys, c.in_ok-keys.ensures, inr (tt, c.in_ok-check_keys.ensures, refl))
