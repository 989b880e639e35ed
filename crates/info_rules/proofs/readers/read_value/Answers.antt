use Rattle.std.proofs.Common.{refl}
use Rattle.info_rules.specs.Values.{value_in}
use Rattle.info_rules.proofs.readers.read_value.Goals as goal

pub returns-in_default : goal.returns-in_default
unfolding value_in
returns-in_default g c = rw (← c.first_named.ensures, c.in_default.is) refl

pub returns-in_default-value : goal.returns-in_default-value
unfolding value_in
returns-in_default-value g c = rw (← c.first_named.ensures, c.in-Some.is, ← c.value.ensures, c.in_default-value.is, c.at.ensures) refl

pub returns-in-Some-2 : goal.returns-in-Some-2
unfolding value_in
returns-in-Some-2 g c = rw (← c.first_named.ensures, c.in-Some.is, ← c.value.ensures, c.in-Some-value.is, ← c.in_ok-value.ensures, c.in-Some-2.is) refl

pub returns-in-None : goal.returns-in-None
unfolding value_in
returns-in-None g c = rw (← c.first_named.ensures, c.in-Some.is, ← c.value.ensures, c.in-Some-value.is, ← c.in_ok-value.ensures, c.in-None.is, c.at-in-None.ensures) refl
