use Rattle.std.proofs.Common.{refl}
use Rattle.info_rules.specs.Values.{value_in}
use Rattle.info_rules.proofs.readers.read_template.Goals as goal

pub returns-in_default-clause-read : goal.returns-in_default-clause-read
unfolding value_in
returns-in_default-clause-read c = rw (← c.first_named.ensures, c.in_default.is) refl

pub returns-in_default-value-clause-read : goal.returns-in_default-value-clause-read
unfolding value_in
returns-in_default-value-clause-read c = rw (← c.first_named.ensures, c.in-Some.is, ← c.value.ensures, c.in_default-value.is, c.at.ensures) refl
