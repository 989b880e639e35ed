use Rattle.std.proofs.Common.{refl, inl}
use Rattle.std.proofs.lemmas.Result.{err_from_is_err_and}
use Rattle.info_rules.specs.Shown.{keys_of}
use Rattle.std.proofs.Common.{codes, [], ◌∷◌}
use Rattle.node_config.specs.Sections.{BlockOf}
use Rattle.node_config.specs.Values.{PrefixAt}
use Rattle.node_config.proofs.Readings.{meets_then}
use Rattle.node_config.proofs.sections.read_repository.Goals as goal

pub returns-in_err-keys : goal.returns-in_err-keys
returns-in_err-keys c =
    let p = err_from_is_err_and c.from_residual.result c.from_residual.ensures.1 in
    rw (p.1, p.2) (inl (inl (c.in_err-keys.field-0.0, c.in_err-keys.ensures, refl)))

pub returns : goal.returns
returns c =
    meets_then (BlockOf (codes "repository") (codes "prefix" ∷ []) (keys_of c.args.file)) (PrefixAt (codes "prefix")) (λ name. name) (keys_of c.in_ok-keys.keys)
    c.in_ok-keys.ensures c.prefix_at.result c.prefix_at.ensures
