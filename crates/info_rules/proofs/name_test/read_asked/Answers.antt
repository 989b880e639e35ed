use Rattle.std.proofs.Common.{refl}
use Rattle.info_rules.specs.NameTest.{asked_in}
use Rattle.info_rules.proofs.name_test.read_asked.Goals as goal

pub returns : goal.returns
unfolding asked_in
returns c = rw (c.beside-2.ensures, c.form_fault-fault.ensures, c.beside.ensures, c.err.ensures.value, c.needed-word.ensures, c.read_name_word.ensures, c.asked_of-asked.ensures, c.in_ok-read_names.ensures) refl
