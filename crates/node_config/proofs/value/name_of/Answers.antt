use Rattle.std.proofs.Common.{inl}
use Rattle.node_config.proofs.value.name_of.Goals as goal

pub returns-in_default : goal.returns-in_default
returns-in_default c = inl (c.at-in_default.ensures, λ name h. c.in_default.not-Memory (c.in-Err.ensures.only name h))
